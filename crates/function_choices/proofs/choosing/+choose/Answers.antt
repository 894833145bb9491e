use Rattle.std.proofs.Common.{arith, ◌≡◌, ◌≤◌, ◌+◌, map, sum, true, false}
use Rattle.fof_terms.specs.Scope.{scope_sorts}
use Rattle.fof_terms.proofs.ScopeFacts.{scope_sorts-Under}
use Rattle.clause_form.specs.Sizes.{norm_size_of}
use Rattle.skolem_fresh.specs.Choosing.{IsWithin}
use Rattle.skolem_fresh.proofs.Chosen.{code_within}
use Rattle.skolem_fresh.proofs.Opened.{on_ok}
use Rattle.skolem_fresh.proofs.WalkCode.{members_within, node_size, all_size, one_size, each_at, outer_more}
use Rattle.function_choices.proofs.Walked.{walk_more, walk_stops, walk_starts, atom_walked, equation_walked, negation_walked, implication_fails, equivalence_fails, node_done, node_fails, all_done, all_fails, some_done, some_fails, next_within, next_size}
use Rattle.function_choices.proofs.choosing.+choose.Goals as goal

pub choose-choose_all-requires : goal.choose-choose_all-requires
choose-choose_all-requires t c =
    let size : norm_size_of c.args.form.now ≡ 1 + sum (map norm_size_of c.as_slice-members.result.now) = node_size true c.args.form.now c.as_slice-members.result.now c.in-And.members c.in-And.is c.as_slice-members.ensures in
    (omega (arith, size, c.decreases), (members_within c.args.sig.now (scope_sorts c.args.scope.now) true c.args.form.now c.as_slice-members.result.now c.in-And.members c.in-And.is c.as_slice-members.ensures c.requires.within, c.requires.outer))

pub choose-choose_all-requires-in-Or : goal.choose-choose_all-requires-in-Or
choose-choose_all-requires-in-Or t c =
    let size : norm_size_of c.args.form.now ≡ 1 + sum (map norm_size_of c.as_slice-members-in-Or.result.now) = node_size false c.args.form.now c.as_slice-members-in-Or.result.now c.in-Or.members c.in-Or.is c.as_slice-members-in-Or.ensures in
    (omega (arith, size, c.decreases), (members_within c.args.sig.now (scope_sorts c.args.scope.now) false c.args.form.now c.as_slice-members-in-Or.result.now c.in-Or.members c.in-Or.is c.as_slice-members-in-Or.ensures c.requires.within, c.requires.outer))

pub choose-choose-requires : goal.choose-choose-requires
choose-choose-requires t c =
    let size : norm_size_of c.args.form.now ≡ 1 + norm_size_of c.get-body.result.now = all_size c.in-All.sort c.args.form.now c.get-body.result.now c.in-All.body c.in-All.is c.get-body.ensures in
    (omega (arith, size, c.decreases), (code_within c.args.sig.now (scope_sorts c.args.scope.now) _ c.args.form.now c.get-body.result.now c.in-All.body c.in-All.sort (scope_sorts-Under c.in-All.sort c.args.scope) c.in-All.is c.get-body.ensures c.requires.within, outer_more c.args.outer c.in-All.sort (scope_sorts c.args.scope.now) _ (scope_sorts-Under c.in-All.sort c.args.scope) c.requires.outer))

pub choose-choose-requires-in-Some-4 : goal.choose-choose-requires-in-Some-4
choose-choose-requires-in-Some-4 t c =
    let size : norm_size_of c.args.form.now ≡ 1 + norm_size_of c.get.result.now = next_size c.args.sig.now c.args.atoms.now c.args.symbols.now (scope_sorts c.args.scope.now) c.in-Ex.sort c.args.form.now c.get-body-in-Ex.result.now c.in-Ex.body c.args.uses.now c.replaced.new.uses c.in_ok-next-in-Ex.field-0 c.in-Ex.is c.get-body-in-Ex.ensures c.in_ok-next-in-Ex.ensures c.get.result.now c.in-Some-4.next c.in-Some-4.is c.get.ensures in
    (omega (arith, size, c.decreases), (next_within c.args.sig.now c.args.atoms.now c.args.symbols.now (scope_sorts c.args.scope.now) c.in-Ex.sort c.args.form.now c.get-body-in-Ex.result.now c.in-Ex.body c.args.uses.now c.replaced.new.uses c.in_ok-next-in-Ex.field-0 c.in-Ex.is c.get-body-in-Ex.ensures c.in_ok-next-in-Ex.ensures c.get.result.now c.in-Some-4.next c.in-Some-4.is c.get.ensures c.requires.within, c.requires.outer))

pub choose-returns-in_ok-copy-in-Atom : goal.choose-returns-in_ok-copy-in-Atom
choose-returns-in_ok-copy-in-Atom t c =
    atom_walked c.args.sig.now c.args.atoms.now c.args.symbols.now (scope_sorts c.args.scope.now) c.args.form.now c.in_ok-copy-in-Atom.field-0 c.in-Atom.field-0 c.in-Atom.field-1 c.args.uses.now c.in-Atom.is c.in_ok-copy-in-Atom.ensures

pub choose-returns-in_ok-copy-in-Eq : goal.choose-returns-in_ok-copy-in-Eq
choose-returns-in_ok-copy-in-Eq t c =
    equation_walked c.args.sig.now c.args.atoms.now c.args.symbols.now (scope_sorts c.args.scope.now) c.args.form.now c.in_ok-copy-in-Eq.field-0 c.in-Eq.field-0 c.in-Eq.field-1 c.args.uses.now c.in-Eq.is c.in_ok-copy-in-Eq.ensures

pub choose-returns-in_ok-copy-in-Not : goal.choose-returns-in_ok-copy-in-Not
choose-returns-in_ok-copy-in-Not t c =
    negation_walked c.args.sig.now c.args.atoms.now c.args.symbols.now (scope_sorts c.args.scope.now) c.args.form.now c.in_ok-copy-in-Not.field-0 c.in-Not.field-0 c.args.uses.now c.in-Not.is c.in_ok-copy-in-Not.ensures

pub choose-returns-in-Some : goal.choose-returns-in-Some
choose-returns-in-Some t c =
    node_done c.args.sig.now c.args.atoms.now c.args.symbols.now (scope_sorts c.args.scope.now) true c.args.form.now c.as_slice-members.result.now c.in-And.members c.args.uses.now c.choose_all.new.uses c.in_ok-made-in-And.field-0 c.in-Some.made c.in-And.is c.as_slice-members.ensures c.in-Some.is c.in_ok-made-in-And.ensures

pub choose-returns-in-None : goal.choose-returns-in-None
choose-returns-in-None t c =
    node_fails c.args.sig.now c.args.atoms.now c.args.symbols.now (scope_sorts c.args.scope.now) true c.args.form.now c.as_slice-members.result.now c.in-And.members c.args.uses.now c.choose_all.new.uses c.in_ok-made-in-And.field-0 c.in-And.is c.as_slice-members.ensures c.in-None.is c.in_ok-made-in-And.ensures

pub choose-returns-in-Some-2 : goal.choose-returns-in-Some-2
choose-returns-in-Some-2 t c =
    node_done c.args.sig.now c.args.atoms.now c.args.symbols.now (scope_sorts c.args.scope.now) false c.args.form.now c.as_slice-members-in-Or.result.now c.in-Or.members c.args.uses.now c.choose_all-in-Or.new.uses c.in_ok-made-in-Or.field-0 c.in-Some-2.made c.in-Or.is c.as_slice-members-in-Or.ensures c.in-Some-2.is c.in_ok-made-in-Or.ensures

pub choose-returns-in-None-2 : goal.choose-returns-in-None-2
choose-returns-in-None-2 t c =
    node_fails c.args.sig.now c.args.atoms.now c.args.symbols.now (scope_sorts c.args.scope.now) false c.args.form.now c.as_slice-members-in-Or.result.now c.in-Or.members c.args.uses.now c.choose_all-in-Or.new.uses c.in_ok-made-in-Or.field-0 c.in-Or.is c.as_slice-members-in-Or.ensures c.in-None-2.is c.in_ok-made-in-Or.ensures

pub choose-returns-in_ok-new-in-Some-3 : goal.choose-returns-in_ok-new-in-Some-3
choose-returns-in_ok-new-in-Some-3 t c =
    all_done c.args.sig.now c.args.atoms.now c.args.symbols.now (scope_sorts c.args.scope.now) _ c.in-All.sort c.args.form.now c.get-body.result.now c.in-All.body c.args.uses.now c.choose.new.uses c.in_ok-made-in-All.field-0 c.in-Some-3.made c.in_ok-new-in-Some-3.field-0 (scope_sorts-Under c.in-All.sort c.args.scope) c.in-All.is c.get-body.ensures c.in-Some-3.is c.in_ok-new-in-Some-3.ensures c.in_ok-made-in-All.ensures

pub choose-returns-in-None-3 : goal.choose-returns-in-None-3
choose-returns-in-None-3 t c =
    all_fails c.args.sig.now c.args.atoms.now c.args.symbols.now (scope_sorts c.args.scope.now) _ c.in-All.sort c.args.form.now c.get-body.result.now c.in-All.body c.args.uses.now c.choose.new.uses c.in_ok-made-in-All.field-0 (scope_sorts-Under c.in-All.sort c.args.scope) c.in-All.is c.get-body.ensures c.in-None-3.is c.in_ok-made-in-All.ensures

pub choose-returns-in-Some-4 : goal.choose-returns-in-Some-4
choose-returns-in-Some-4 t c =
    on_ok c.choose-in-Some-4.result (λ answer w. some_done c.args.sig.now c.args.atoms.now c.args.symbols.now (scope_sorts c.args.scope.now) c.in-Ex.sort c.args.form.now c.get-body-in-Ex.result.now c.in-Ex.body c.args.uses.now c.replaced.new.uses c.in_ok-next-in-Ex.field-0 c.in-Ex.is c.get-body-in-Ex.ensures c.in_ok-next-in-Ex.ensures c.get.result.now c.in-Some-4.next c.in-Some-4.is c.get.ensures c.choose-in-Some-4.new.uses answer w) c.choose-in-Some-4.ensures

pub choose-returns-in-None-4 : goal.choose-returns-in-None-4
choose-returns-in-None-4 t c =
    some_fails c.args.sig.now c.args.atoms.now c.args.symbols.now (scope_sorts c.args.scope.now) c.in-Ex.sort c.args.form.now c.get-body-in-Ex.result.now c.in-Ex.body c.args.uses.now c.replaced.new.uses c.in_ok-next-in-Ex.field-0 c.in-Ex.is c.get-body-in-Ex.ensures c.in_ok-next-in-Ex.ensures c.replaced.new.uses c.in-None-4.is

pub choose-returns-in-Imp : goal.choose-returns-in-Imp
choose-returns-in-Imp t c =
    implication_fails c.args.sig.now c.args.atoms.now c.args.symbols.now (scope_sorts c.args.scope.now) c.args.form.now c.in-Imp.field-0 c.in-Imp.field-1 c.args.uses.now c.in-Imp.is

pub choose-returns-in-Iff : goal.choose-returns-in-Iff
choose-returns-in-Iff t c =
    equivalence_fails c.args.sig.now c.args.atoms.now c.args.symbols.now (scope_sorts c.args.scope.now) c.args.form.now c.in-Iff.field-0 c.in-Iff.field-1 c.args.uses.now c.in-Iff.is

pub choose_all-loop-form-init : goal.choose_all-loop-form-init
choose_all-loop-form-init t c =
    walk_starts c.args.sig.now c.args.atoms.now c.args.symbols.now (scope_sorts c.args.scope.now) c.args.forms.now c.args.uses.now c.new-made.result c.new-made.ensures

pub choose_all-choose-requires : goal.choose_all-choose-requires
choose_all-choose-requires t c =
    let small : norm_size_of c.form-item.result ≤ sum (map norm_size_of c.args.forms.now) = one_size c.args.forms.now c.loop-form.form-index c.form-item.result c.loop-form-test.true c.form-item.is in
    (omega (arith, small, c.decreases), (each_at (IsWithin c.args.sig.now (scope_sorts c.args.scope.now)) c.args.forms.now c.loop-form.form-index c.form-item.result c.requires.within c.loop-form-test.true c.form-item.is, c.requires.outer))

pub choose_all-returns-in_default : goal.choose_all-returns-in_default
choose_all-returns-in_default t c =
    walk_stops c.args.sig.now c.args.atoms.now c.args.symbols.now (scope_sorts c.args.scope.now) c.args.forms.now c.loop-form.made c.loop-form.form-index c.form-item.result c.in_ok-next.next c.args.uses.now c.loop-form.uses c.choose.new.uses c.loop-form-test.true c.form-item.is c.in_default.is c.loop-form.invariant c.in_ok-next.ensures

pub choose_all-loop-form-preserved : goal.choose_all-loop-form-preserved
choose_all-loop-form-preserved t c =
    walk_more c.args.sig.now c.args.atoms.now c.args.symbols.now (scope_sorts c.args.scope.now) c.args.forms.now c.loop-form.made c.push.new.self c.loop-form.form-index c.form-item.result c.in-Some.next c.in_ok-next.next c.args.uses.now c.loop-form.uses c.choose.new.uses c.loop-form-test.true c.form-item.is c.in-Some.is c.in_ok-push.ensures.ok c.loop-form.invariant c.in_ok-next.ensures
