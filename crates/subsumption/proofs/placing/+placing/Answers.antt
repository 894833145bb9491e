use Rattle.std.proofs.Common.{◌<◌, ◌∙◌, sym, ap, subst, arith}
use Rattle.std.proofs.lemmas.Option.{slice_get_within}
use Rattle.std.proofs.lemmas.List.{length-set}
use Rattle.clause_form.specs.declared.clause.Lit.{Lit}
use Rattle.subsumption.proofs.MatchedFacts.{ok_as}
use Rattle.subsumption.proofs.PlacedFacts.{placed_true, placed_false, second_way, trial_none, trial_some, search_decides, in_one_way, lent_at, none_left, search_fails, first_placed, none_before, none_after}
use Rattle.subsumption.proofs.Exchanged.{never_after}
use Rattle.subsumption.proofs.placing.+placing.Goals as goal

pub place_at-returns-in-Eq : goal.place_at-returns-in-Eq
place_at-returns-in-Eq t c =
    ok_as c.place_in_way-in-Eq.result
    (second_way c.args.task.now c.args.bindings.now c.place_in_way.new.bindings c.place_in_way-in-Eq.new.bindings c.args.taken.now c.place_in_way.new.taken c.place_in_way-in-Eq.new.taken c.args.from c.args.place c.index-as_slice-from.result
    (lent_at c.as_slice.result.now c.args.task.now.member.now.lits c.args.from c.index-as_slice-from.result c.as_slice.ensures c.requires.from c.index-as_slice-from.is)
    (trial_none c.args.task.now c.args.bindings.now c.place_in_way.new.bindings c.args.taken.now c.place_in_way.new.taken c.args.from _ c.in_ok-answer.field-0 c.in_default.is c.in_ok-answer.ensures))
    c.place_in_way-in-Eq.ensures

pub place_at-returns-in_default-atom : goal.place_at-returns-in_default-atom
place_at-returns-in_default-atom t c =
    in_one_way c.args.task.now c.args.bindings.now c.place_in_way.new.bindings c.args.taken.now c.place_in_way.new.taken c.args.from c.args.place c.index-as_slice-from.result
    (lent_at c.as_slice.result.now c.args.task.now.member.now.lits c.args.from c.index-as_slice-from.result c.as_slice.ensures c.requires.from c.index-as_slice-from.is)
    (λ x y e. c.in_default-atom.not-Eq x y (ap (λ (l : Lit). l.atom) (sym c.index-as_slice-from.is) ∙ e))
    (trial_none c.args.task.now c.args.bindings.now c.place_in_way.new.bindings c.args.taken.now c.place_in_way.new.taken c.args.from _ c.in_ok-answer.field-0 c.in_default.is c.in_ok-answer.ensures)

pub place_from-returns-then-from-len : goal.place_from-returns-then-from-len
place_from-returns-then-from-len t c = none_left c.args.task.now c.args.bindings.now c.args.taken.now c.args.from (omega (arith, c.len.ensures, c.if-from-len.true)) c.requires.table

pub place_at-returns-in-Some : goal.place_at-returns-in-Some
place_at-returns-in-Some t c =
    trial_some c.args.task.now c.args.bindings.now c.place_in_way.new.bindings c.args.taken.now c.place_in_way.new.taken c.args.from _ c.in_ok-answer.field-0 c.in-Some.answer c.in-Some.is c.in_ok-answer.ensures

pub place_from-returns-in-Some : goal.place_from-returns-in-Some
place_from-returns-in-Some t c =
    search_decides c.args.task.now c.args.bindings.now c.loop-place.bindings c.place_at.new.bindings c.args.taken.now c.loop-place.taken c.place_at.new.taken c.args.from c.loop-place.place c.loop-place.invariant c.in-Some.answer
    (trial_some c.args.task.now c.loop-place.bindings c.place_at.new.bindings c.loop-place.taken c.place_at.new.taken c.args.from _ c.in_ok-answer.field-0 c.in-Some.answer c.in-Some.is c.in_ok-answer.ensures)

pub place_from-returns : goal.place_from-returns
place_from-returns t c =
    search_fails c.args.task.now c.args.bindings.now c.loop-place.bindings c.args.taken.now c.loop-place.taken c.args.from c.loop-place.place (omega (arith, c.len.ensures, c.if-from-len.false)) (omega (arith, c.loop-place-test.false)) c.loop-place.invariant

pub place_in_way-bounds-taken-place-2 : goal.place_in_way-bounds-taken-place-2
place_in_way-bounds-taken-place-2 t c =
    let size = c.place_from.auto.taken ∙ length-set c.args.taken.now c.args.place _ in
    let within = slice_get_within c.args.taken.now c.args.place _ c.requires.free in
    omega arith

pub place_in_way-returns-then-branch : goal.place_in_way-returns-then-branch
place_in_way-returns-then-branch t c =
    first_placed c.args.task.now c.args.bindings.now c.args.taken.now c.args.from c.args.place c.index-as_slice-from.result c.index-as_slice-place.result
    (lent_at c.as_slice.result.now c.args.task.now.member.now.lits c.args.from c.index-as_slice-from.result c.as_slice.ensures c.requires.from c.index-as_slice-from.is)
    (lent_at c.as_slice-2.result.now c.args.task.now.clause.now.lits c.args.place c.index-as_slice-place.result c.as_slice-2.ensures (subst (λ n. c.args.place < n) c.requires.size (slice_get_within c.args.taken.now c.args.place _ c.requires.free)) c.index-as_slice-place.is)
    c.args.exchanged c.becomes.new.bindings c.place_from.new.bindings c.requires.free c.in_ok-becomes.field-0 c.if-not-branch.false c.in_ok-becomes.ensures.tried
    (placed_true c.args.task.now c.becomes.new.bindings c.place_from.new.bindings _ c.place_from.new.taken _ _ c.in_ok-place_from.field-0 c.if-branch.true c.in_ok-place_from.ensures)

pub place_in_way-returns-then-not-branch : goal.place_in_way-returns-then-not-branch
place_in_way-returns-then-not-branch t c =
    none_before c.args.task.now c.args.bindings.now c.args.taken.now c.args.from c.args.place c.index-as_slice-from.result c.index-as_slice-place.result
    (lent_at c.as_slice.result.now c.args.task.now.member.now.lits c.args.from c.index-as_slice-from.result c.as_slice.ensures c.requires.from c.index-as_slice-from.is)
    (lent_at c.as_slice-2.result.now c.args.task.now.clause.now.lits c.args.place c.index-as_slice-place.result c.as_slice-2.ensures (subst (λ n. c.args.place < n) c.requires.size (slice_get_within c.args.taken.now c.args.place _ c.requires.free)) c.index-as_slice-place.is)
    c.args.exchanged c.becomes.new.bindings c.undo.new.self c.count-count.result c.in_ok-becomes.field-0 c.if-not-branch.true c.count-count.ensures c.in_ok-becomes.ensures.over c.in_ok-becomes.ensures.tried c.undo.ensures

pub place_in_way-returns : goal.place_in_way-returns
place_in_way-returns t c =
    none_after c.args.task.now c.args.bindings.now c.args.taken.now c.args.from c.args.place c.index-as_slice-from.result c.index-as_slice-place.result
    (lent_at c.as_slice.result.now c.args.task.now.member.now.lits c.args.from c.index-as_slice-from.result c.as_slice.ensures c.requires.from c.index-as_slice-from.is)
    (lent_at c.as_slice-2.result.now c.args.task.now.clause.now.lits c.args.place c.index-as_slice-place.result c.as_slice-2.ensures (subst (λ n. c.args.place < n) c.requires.size (slice_get_within c.args.taken.now c.args.place _ c.requires.free)) c.index-as_slice-place.is)
    c.args.exchanged c.becomes.new.bindings c.place_from.new.bindings c.undo-2.new.self c.place_from.new.taken c.count-count.result c.in_ok-becomes.field-0 c.if-not-branch.false c.count-count.ensures c.requires.free c.in_ok-becomes.ensures.over c.in_ok-becomes.ensures.tried
    (placed_false c.args.task.now c.becomes.new.bindings c.place_from.new.bindings _ c.place_from.new.taken _ _ c.in_ok-place_from.field-0 c.if-branch.false c.in_ok-place_from.ensures) c.undo-2.ensures

pub place_in_way-returns-then-bound-count : goal.place_in_way-returns-then-bound-count
place_in_way-returns-then-bound-count t c =
    never_after c.args.task.now c.args.bindings.now c.args.taken.now c.args.from c.args.place c.index-as_slice-from.result c.index-as_slice-place.result
    (lent_at c.as_slice.result.now c.args.task.now.member.now.lits c.args.from c.index-as_slice-from.result c.as_slice.ensures c.requires.from c.index-as_slice-from.is)
    (lent_at c.as_slice-2.result.now c.args.task.now.clause.now.lits c.args.place c.index-as_slice-place.result c.as_slice-2.ensures (subst (λ n. c.args.place < n) c.requires.size (slice_get_within c.args.taken.now c.args.place _ c.requires.free)) c.index-as_slice-place.is)
    c.args.exchanged c.becomes.new.bindings c.place_from.new.bindings c.undo-2.new.self c.place_from.new.taken c.count-count.result c.count-bound.result c.in_ok-becomes.field-0 c.if-not-branch.false c.count-count.ensures c.count-bound.ensures c.if-bound-count.true c.requires.free c.in_ok-becomes.ensures.over c.in_ok-becomes.ensures.tried
    (placed_false c.args.task.now c.becomes.new.bindings c.place_from.new.bindings _ c.place_from.new.taken _ _ c.in_ok-place_from.field-0 c.if-branch.false c.in_ok-place_from.ensures) c.undo-2.ensures
