use Rattle.std.proofs.Common.{◌∙◌, ◌∷◌, [], ap, slice_set, Some}
use Rattle.clause_rules.specs.Steps.{unequal}
use Rattle.clause_rules.specs.Ways.{pair_of}
use Rattle.clause_rules.proofs.Firsts.{ok_map}
use Rattle.rule_steps.proofs.Factoring.{lent_at, factor_sorted, factor_settled, no_first, no_second}
use Rattle.substitution_search.proofs.Narrowing.{beside_as}
use Rattle.rule_steps.proofs.eqfactor_rule.factor_at.Goals as goal

pub settle_beside-requires-clause-sorted : goal.settle_beside-requires-clause-sorted
settle_beside-requires-clause-sorted c =
    let first = lent_at c.args.joint.now.left c.as_slice-lits.result.now c.args.i c.index-lits-i.result c.as_slice-lits.ensures c.requires.first c.index-lits-i.is in
    let second = lent_at c.args.joint.now.left c.as_slice-lits.result.now c.args.j c.index-lits-j.result c.as_slice-lits.ensures c.requires.second c.index-lits-j.is in
    factor_sorted c.args.search.now.sig.now c.args.clause.now c.args.search.now.line.now c.requires.clause c.requires.line c.args.joint.now c.requires.joint c.args.i c.args.j c.args.first_flipped c.args.second_flipped
    c.in-Some.first.left.now c.in-Some-sides_of.second.left.now c.in-Some.first.right.now c.in-Some-sides_of.second.right.now c.if-i-j.false (first ∙ ap Some c.in-Some.ensures) (second ∙ ap Some c.in-Some-sides_of.ensures)
    _ (beside_as ((pair_of c.in-Some.first.left.now c.in-Some-sides_of.second.left.now ∷ []) ∷ []) c.args.search.now.line.now.lits (slice_set c.args.joint.now.left c.args.i (unequal c.in-Some.first.right.now c.in-Some-sides_of.second.right.now)) c.as_slice-in-Some-sides_of.result.now c.as_slice.result.now c.as_slice-in-Some-sides_of.ensures
    (c.as_slice.ensures ∙ c.in_ok-made-in-Some-sides_of.ensures ∙ ap (λ ks. slice_set ks c.args.i (unequal c.in-Some.first.right.now c.in-Some-sides_of.second.right.now)) c.as_slice-lits.ensures))

pub returns-in_ok-made-in-Some-sides_of : goal.returns-in_ok-made-in-Some-sides_of
returns-in_ok-made-in-Some-sides_of c =
    let first = lent_at c.args.joint.now.left c.as_slice-lits.result.now c.args.i c.index-lits-i.result c.as_slice-lits.ensures c.requires.first c.index-lits-i.is in
    let second = lent_at c.args.joint.now.left c.as_slice-lits.result.now c.args.j c.index-lits-j.result c.as_slice-lits.ensures c.requires.second c.index-lits-j.is in
    ok_map c.settle_beside.result
    (factor_settled c.args.search.now.sig.now c.args.clause.now c.args.search.now.line.now c.requires.clause c.requires.line c.args.joint.now c.requires.joint c.args.i c.args.j c.args.first_flipped c.args.second_flipped
    c.in-Some.first.left.now c.in-Some-sides_of.second.left.now c.in-Some.first.right.now c.in-Some-sides_of.second.right.now c.if-i-j.false (first ∙ ap Some c.in-Some.ensures) (second ∙ ap Some c.in-Some-sides_of.ensures)
    _ (beside_as ((pair_of c.in-Some.first.left.now c.in-Some-sides_of.second.left.now ∷ []) ∷ []) c.args.search.now.line.now.lits (slice_set c.args.joint.now.left c.args.i (unequal c.in-Some.first.right.now c.in-Some-sides_of.second.right.now)) c.as_slice-in-Some-sides_of.result.now c.as_slice.result.now c.as_slice-in-Some-sides_of.ensures
    (c.as_slice.ensures ∙ c.in_ok-made-in-Some-sides_of.ensures ∙ ap (λ ks. slice_set ks c.args.i (unequal c.in-Some.first.right.now c.in-Some-sides_of.second.right.now)) c.as_slice-lits.ensures))) c.settle_beside.ensures

pub returns-in-None-sides_of : goal.returns-in-None-sides_of
returns-in-None-sides_of c =
    let second = lent_at c.args.joint.now.left c.as_slice-lits.result.now c.args.j c.index-lits-j.result c.as_slice-lits.ensures c.requires.second c.index-lits-j.is in
    no_second c.args.search.now.sig.now c.args.clause.now c.args.search.now.line.now c.requires.clause c.requires.line c.args.joint.now c.requires.joint c.args.i c.args.j c.args.first_flipped c.args.second_flipped c.index-lits-j.result second c.in-None-sides_of.ensures

pub returns-in-None : goal.returns-in-None
returns-in-None c =
    let first = lent_at c.args.joint.now.left c.as_slice-lits.result.now c.args.i c.index-lits-i.result c.as_slice-lits.ensures c.requires.first c.index-lits-i.is in
    no_first c.args.search.now.sig.now c.args.clause.now c.args.search.now.line.now c.requires.clause c.requires.line c.args.joint.now c.requires.joint c.args.i c.args.j c.args.first_flipped c.args.second_flipped c.index-lits-i.result first c.in-None.ensures
