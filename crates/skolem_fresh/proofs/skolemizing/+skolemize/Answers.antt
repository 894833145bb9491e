use Rattle.std.proofs.Common.{arith, ◌≡◌, ◌≤◌, ◌+◌, ◌-◌, length, map, take, drop, sum, true, false}
use Rattle.std.proofs.lemmas.List.{take_rest}
use Rattle.fof_terms.specs.Scope.{scope_sorts}
use Rattle.fof_terms.proofs.ScopeFacts.{scope_sorts-Under}
use Rattle.clause_form.specs.Sizes.{norm_size_of}
use Rattle.skolem_fresh.specs.Choosing.{IsWithin}
use Rattle.skolem_fresh.proofs.Chosen.{code_within}
use Rattle.skolem_fresh.proofs.Opened.{on_ok}
use Rattle.skolem_fresh.proofs.WalkCode.{walk_more, walk_stops, walk_starts, node_done, node_fails, members_within, all_done, all_fails, some_done, some_fails, next_has_room, node_size, all_size, next_size, one_size, each_at, outer_more}
use Rattle.skolem_fresh.proofs.Walking.{atom_passed, equation_passed, negation_passed}
use Rattle.skolem_fresh.proofs.skolemizing.+skolemize.Goals as goal

pub skolemize-skolemize_all-requires : goal.skolemize-skolemize_all-requires
skolemize-skolemize_all-requires t c =
    let size : norm_size_of c.args.form.now ≡ 1 + sum (map norm_size_of c.as_slice-members.result.now) = node_size true c.args.form.now c.as_slice-members.result.now c.in-And.members c.in-And.is c.as_slice-members.ensures in
    (omega (arith, size, c.decreases), (members_within c.args.sig.now (scope_sorts c.args.scope.now) true c.args.form.now c.as_slice-members.result.now c.in-And.members c.in-And.is c.as_slice-members.ensures c.requires.within, (c.requires.outer, c.requires.at)))

pub skolemize-skolemize_all-requires-in-Or : goal.skolemize-skolemize_all-requires-in-Or
skolemize-skolemize_all-requires-in-Or t c =
    let size : norm_size_of c.args.form.now ≡ 1 + sum (map norm_size_of c.as_slice-members-in-Or.result.now) = node_size false c.args.form.now c.as_slice-members-in-Or.result.now c.in-Or.members c.in-Or.is c.as_slice-members-in-Or.ensures in
    (omega (arith, size, c.decreases), (members_within c.args.sig.now (scope_sorts c.args.scope.now) false c.args.form.now c.as_slice-members-in-Or.result.now c.in-Or.members c.in-Or.is c.as_slice-members-in-Or.ensures c.requires.within, (c.requires.outer, c.requires.at)))

pub skolemize-skolemize-requires : goal.skolemize-skolemize-requires
skolemize-skolemize-requires t c =
    let size : norm_size_of c.args.form.now ≡ 1 + norm_size_of c.get-body.result.now = all_size c.in-All.sort c.args.form.now c.get-body.result.now c.in-All.body c.in-All.is c.get-body.ensures in
    (omega (arith, size, c.decreases), (code_within c.args.sig.now (scope_sorts c.args.scope.now) _ c.args.form.now c.get-body.result.now c.in-All.body c.in-All.sort (scope_sorts-Under c.in-All.sort c.args.scope) c.in-All.is c.get-body.ensures c.requires.within, (outer_more c.args.outer c.in-All.sort (scope_sorts c.args.scope.now) _ (scope_sorts-Under c.in-All.sort c.args.scope) c.requires.outer, c.requires.at)))

pub skolemize-skolemize-requires-in-Some-4 : goal.skolemize-skolemize-requires-in-Some-4
skolemize-skolemize-requires-in-Some-4 t c =
    let size : norm_size_of c.args.form.now ≡ 1 + norm_size_of c.get-in-Some-4.result.now = next_size c.args.sig.now (scope_sorts c.args.scope.now) c.args.outer c.in-Ex.sort c.args.form.now c.get.result.now c.in-Ex.body (take (length c.args.leaves.now - c.args.at.now) (drop c.args.at.now c.args.leaves.now)) c.args.uses.now c.replaced.new.uses c.in_ok-next-in-Ex.field-0 c.get-in-Some-4.result.now c.in-Some-4.next c.in-Ex.is c.get.ensures c.in-Some-4.is c.get-in-Some-4.ensures c.in_ok-next-in-Ex.ensures in
    (omega (arith, size, c.decreases), (next_has_room c.args.sig.now (scope_sorts c.args.scope.now) c.args.outer c.in-Ex.sort c.args.form.now c.get.result.now c.in-Ex.body (take (length c.args.leaves.now - c.args.at.now) (drop c.args.at.now c.args.leaves.now)) (drop c.args.at.now c.args.leaves.now) c.args.uses.now c.replaced.new.uses c.in_ok-next-in-Ex.field-0 c.requires.outer c.in-Ex.is c.get.ensures (take_rest c.args.leaves.now c.args.at.now) c.in_ok-next-in-Ex.ensures c.get-in-Some-4.result.now c.in-Some-4.next c.in-Some-4.is c.get-in-Some-4.ensures c.requires.within, (c.requires.outer, c.requires.at)))

pub skolemize-returns-in-Atom-clause-walked : goal.skolemize-returns-in-Atom-clause-walked
skolemize-returns-in-Atom-clause-walked t c =
    on_ok c.passed.result (λ answer p. atom_passed c.args.sig.now (scope_sorts c.args.scope.now) c.args.outer c.args.form.now (drop c.args.at.now c.args.leaves.now) (drop c.passed.new.at c.args.leaves.now) c.args.uses.now c.requires.outer answer p c.in-Atom.field-0 c.in-Atom.field-1 c.in-Atom.is) c.passed.ensures.passed

pub skolemize-returns-in-Eq-clause-walked : goal.skolemize-returns-in-Eq-clause-walked
skolemize-returns-in-Eq-clause-walked t c =
    on_ok c.passed-in-Eq.result (λ answer p. equation_passed c.args.sig.now (scope_sorts c.args.scope.now) c.args.outer c.args.form.now (drop c.args.at.now c.args.leaves.now) (drop c.passed-in-Eq.new.at c.args.leaves.now) c.args.uses.now c.requires.outer answer p c.in-Eq.field-0 c.in-Eq.field-1 c.in-Eq.is) c.passed-in-Eq.ensures.passed

pub skolemize-returns-in-Not-clause-walked : goal.skolemize-returns-in-Not-clause-walked
skolemize-returns-in-Not-clause-walked t c =
    on_ok c.passed-in-Not.result (λ answer p. negation_passed c.args.sig.now (scope_sorts c.args.scope.now) c.args.outer c.args.form.now (drop c.args.at.now c.args.leaves.now) (drop c.passed-in-Not.new.at c.args.leaves.now) c.args.uses.now c.requires.outer answer p c.in-Not.field-0 c.in-Not.is) c.passed-in-Not.ensures.passed

pub skolemize-returns-in-Some-clause-walked : goal.skolemize-returns-in-Some-clause-walked
skolemize-returns-in-Some-clause-walked t c =
    node_done c.args.sig.now (scope_sorts c.args.scope.now) true c.args.form.now c.as_slice-members.result.now c.in-And.members (drop c.args.at.now c.args.leaves.now) (drop c.skolemize_all.new.at c.args.leaves.now) c.args.uses.now c.skolemize_all.new.uses c.in_ok-made-in-And.field-0 c.in-Some.made c.in-And.is c.as_slice-members.ensures c.in-Some.is c.in_ok-made-in-And.ensures.walked

pub skolemize-returns-in-None-clause-walked : goal.skolemize-returns-in-None-clause-walked
skolemize-returns-in-None-clause-walked t c =
    node_fails c.args.sig.now (scope_sorts c.args.scope.now) true c.args.form.now c.as_slice-members.result.now c.in-And.members (drop c.args.at.now c.args.leaves.now) (drop c.skolemize_all.new.at c.args.leaves.now) c.args.uses.now c.skolemize_all.new.uses c.in_ok-made-in-And.field-0 c.in-And.is c.as_slice-members.ensures c.in-None.is c.in_ok-made-in-And.ensures.walked

pub skolemize-returns-in-Some-2-clause-walked : goal.skolemize-returns-in-Some-2-clause-walked
skolemize-returns-in-Some-2-clause-walked t c =
    node_done c.args.sig.now (scope_sorts c.args.scope.now) false c.args.form.now c.as_slice-members-in-Or.result.now c.in-Or.members (drop c.args.at.now c.args.leaves.now) (drop c.skolemize_all-in-Or.new.at c.args.leaves.now) c.args.uses.now c.skolemize_all-in-Or.new.uses c.in_ok-made-in-Or.field-0 c.in-Some-2.made c.in-Or.is c.as_slice-members-in-Or.ensures c.in-Some-2.is c.in_ok-made-in-Or.ensures.walked

pub skolemize-returns-in-None-2-clause-walked : goal.skolemize-returns-in-None-2-clause-walked
skolemize-returns-in-None-2-clause-walked t c =
    node_fails c.args.sig.now (scope_sorts c.args.scope.now) false c.args.form.now c.as_slice-members-in-Or.result.now c.in-Or.members (drop c.args.at.now c.args.leaves.now) (drop c.skolemize_all-in-Or.new.at c.args.leaves.now) c.args.uses.now c.skolemize_all-in-Or.new.uses c.in_ok-made-in-Or.field-0 c.in-Or.is c.as_slice-members-in-Or.ensures c.in-None-2.is c.in_ok-made-in-Or.ensures.walked

pub skolemize-returns-in_ok-new-in-Some-3-clause-walked : goal.skolemize-returns-in_ok-new-in-Some-3-clause-walked
skolemize-returns-in_ok-new-in-Some-3-clause-walked t c =
    all_done c.args.sig.now (scope_sorts c.args.scope.now) _ c.in-All.sort c.args.form.now c.get-body.result.now c.in-All.body (drop c.args.at.now c.args.leaves.now) (drop c.skolemize.new.at c.args.leaves.now) c.args.uses.now c.skolemize.new.uses c.in_ok-made-in-All.field-0 c.in-Some-3.made c.in_ok-new-in-Some-3.field-0 (scope_sorts-Under c.in-All.sort c.args.scope) c.in-All.is c.get-body.ensures c.in-Some-3.is c.in_ok-new-in-Some-3.ensures c.in_ok-made-in-All.ensures.walked

pub skolemize-returns-in-None-3-clause-walked : goal.skolemize-returns-in-None-3-clause-walked
skolemize-returns-in-None-3-clause-walked t c =
    all_fails c.args.sig.now (scope_sorts c.args.scope.now) _ c.in-All.sort c.args.form.now c.get-body.result.now c.in-All.body (drop c.args.at.now c.args.leaves.now) (drop c.skolemize.new.at c.args.leaves.now) c.args.uses.now c.skolemize.new.uses c.in_ok-made-in-All.field-0 (scope_sorts-Under c.in-All.sort c.args.scope) c.in-All.is c.get-body.ensures c.in-None-3.is c.in_ok-made-in-All.ensures.walked

pub skolemize-returns-in-Some-4-clause-walked : goal.skolemize-returns-in-Some-4-clause-walked
skolemize-returns-in-Some-4-clause-walked t c =
    on_ok c.skolemize-in-Some-4.result (λ answer w. some_done c.args.sig.now (scope_sorts c.args.scope.now) c.args.outer c.in-Ex.sort c.args.form.now c.get.result.now c.in-Ex.body (take (length c.args.leaves.now - c.args.at.now) (drop c.args.at.now c.args.leaves.now)) (drop c.args.at.now c.args.leaves.now) c.args.uses.now c.replaced.new.uses c.in_ok-next-in-Ex.field-0 c.requires.outer c.in-Ex.is c.get.ensures (take_rest c.args.leaves.now c.args.at.now) c.in_ok-next-in-Ex.ensures c.get-in-Some-4.result.now c.in-Some-4.next c.in-Some-4.is c.get-in-Some-4.ensures (drop c.skolemize-in-Some-4.new.at c.args.leaves.now) c.skolemize-in-Some-4.new.uses answer w) c.skolemize-in-Some-4.ensures.walked

pub skolemize-returns-in-None-4-clause-walked : goal.skolemize-returns-in-None-4-clause-walked
skolemize-returns-in-None-4-clause-walked t c =
    some_fails c.args.sig.now (scope_sorts c.args.scope.now) c.args.outer c.in-Ex.sort c.args.form.now c.get.result.now c.in-Ex.body (take (length c.args.leaves.now - c.args.at.now) (drop c.args.at.now c.args.leaves.now)) (drop c.args.at.now c.args.leaves.now) c.args.uses.now c.replaced.new.uses c.in_ok-next-in-Ex.field-0 c.requires.outer c.in-Ex.is c.get.ensures (take_rest c.args.leaves.now c.args.at.now) c.in_ok-next-in-Ex.ensures c.in-None-4.is

pub skolemize_all-loop-form-init : goal.skolemize_all-loop-form-init
skolemize_all-loop-form-init t c =
    record { at = c.requires.at; walked = walk_starts c.args.sig.now (scope_sorts c.args.scope.now) c.args.forms.now (drop c.args.at.now c.args.leaves.now) c.args.uses.now c.new-made.result c.new-made.ensures }

pub skolemize_all-skolemize-requires : goal.skolemize_all-skolemize-requires
skolemize_all-skolemize-requires t c =
    let small : norm_size_of c.form-item.result ≤ sum (map norm_size_of c.args.forms.now) = one_size c.args.forms.now c.loop-form.form-index c.form-item.result c.loop-form-test.true c.form-item.is in
    (omega (arith, small, c.decreases), (each_at (IsWithin c.args.sig.now (scope_sorts c.args.scope.now)) c.args.forms.now c.loop-form.form-index c.form-item.result c.requires.within c.loop-form-test.true c.form-item.is, (c.requires.outer, c.loop-form.invariant.at)))

pub skolemize_all-returns-in_default-clause-walked : goal.skolemize_all-returns-in_default-clause-walked
skolemize_all-returns-in_default-clause-walked t c =
    walk_stops c.args.sig.now (scope_sorts c.args.scope.now) c.args.forms.now c.loop-form.made c.loop-form.form-index c.form-item.result c.in_ok-next.next (drop c.args.at.now c.args.leaves.now) (drop c.loop-form.at c.args.leaves.now) (drop c.skolemize.new.at c.args.leaves.now) c.args.uses.now c.loop-form.uses c.skolemize.new.uses c.loop-form-test.true c.form-item.is c.in_default.is c.loop-form.invariant.walked c.in_ok-next.ensures.walked

pub skolemize_all-loop-form-preserved : goal.skolemize_all-loop-form-preserved
skolemize_all-loop-form-preserved t c =
    record {
      at = c.in_ok-next.ensures.at;
      walked = walk_more c.args.sig.now (scope_sorts c.args.scope.now) c.args.forms.now c.loop-form.made c.push.new.self c.loop-form.form-index c.form-item.result c.in-Some.next c.in_ok-next.next (drop c.args.at.now c.args.leaves.now) (drop c.loop-form.at c.args.leaves.now) (drop c.skolemize.new.at c.args.leaves.now) c.args.uses.now c.loop-form.uses c.skolemize.new.uses c.loop-form-test.true c.form-item.is c.in-Some.is c.in_ok-push.ensures.ok c.loop-form.invariant.walked c.in_ok-next.ensures.walked;
    }
