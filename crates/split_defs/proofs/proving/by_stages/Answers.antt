use Rattle.std.proofs.Common.{ap, ◌∙◌, arith, List, [], length, refl}
use Rattle.fof_terms.specs.Scope.{scope_sorts}
use Rattle.fof_terms.specs.declared.sorting.Scope.{Outside}
use Rattle.derive_kit.proofs.Built.{ok_map}
use Rattle.clause_proofs.proofs.CoveredPremises.{few_here}
use Rattle.clause_proofs.proofs.JointParts.{part_is}
use Rattle.split_defs.specs.declared.stages.Stage.{Stage}
use Rattle.split_defs.specs.code.SplitProof.{stage_clauses}
use Rattle.split_defs.specs.SplitRule.{together}
use Rattle.split_defs.proofs.Enclosing.{all_reached, line_shown, more_reached, premise_covered, premise_sorted, stage_goals, stages_fit, whole_goal}
use Rattle.split_defs.proofs.proving.by_stages.Goals as goal

pub whole_of-requires : goal.whole_of-requires
whole_of-requires c = rw c.as_slice.ensures (stages_fit c.args.sig.now c.args.parents.now c.args.line.now 1 c.args.stages c.requires.stages)

pub contradicted-requires-clause-goals : goal.contradicted-requires-clause-goals
contradicted-requires-clause-goals c =
    let whole_is = c.in_ok-whole.ensures.clause ∙ ap (λ (ss : List Stage). together (stage_clauses ss)) c.as_slice.ensures in
    let v_is = all_reached c.as_slice-2.result c.in_ok-reach.reach.sorts c.as_slice-own.result.now c.in_ok-whole.whole.clause.sorts c.in_ok-reach.reach.more c.as_slice-2.ensures c.in_ok-reach.ensures.sorts c.as_slice-own.ensures in
    let more_is = more_reached c.as_slice-sorts.result.now [] c.args.clause.now.clause.sorts c.in_ok-reach.reach.more c.in_ok-reach.ensures.more refl c.as_slice-sorts.ensures in
    let few = few_here c.as_slice-2.result c.in_ok-reach.reach.sorts c.as_slice-2.ensures (omega (arith, c.in_ok-few_variables.ensures.is, c.in_ok-few_variables.ensures.few, c.len.ensures)) in
    rw c.as_slice-3.ensures (stage_goals c.args.sig.now c.args.parents.now c.args.line.now c.requires.line c.args.stages c.requires.stages c.in_ok-whole.whole whole_is c.in_ok-whole.ensures.is_or c.args.parent.now c.args.clause.now c.requires.parent (scope_sorts (Outside c.as_slice-2.result)) c.in_ok-reach.reach.more v_is more_is few)

pub contradicted-requires-clause-goal : goal.contradicted-requires-clause-goal
contradicted-requires-clause-goal c =
    let whole_is = c.in_ok-whole.ensures.clause ∙ ap (λ (ss : List Stage). together (stage_clauses ss)) c.as_slice.ensures in
    let v_is = all_reached c.as_slice-2.result c.in_ok-reach.reach.sorts c.as_slice-own.result.now c.in_ok-whole.whole.clause.sorts c.in_ok-reach.reach.more c.as_slice-2.ensures c.in_ok-reach.ensures.sorts c.as_slice-own.ensures in
    let more_is = more_reached c.as_slice-sorts.result.now [] c.args.clause.now.clause.sorts c.in_ok-reach.reach.more c.in_ok-reach.ensures.more refl c.as_slice-sorts.ensures in
    let few = few_here c.as_slice-2.result c.in_ok-reach.reach.sorts c.as_slice-2.ensures (omega (arith, c.in_ok-few_variables.ensures.is, c.in_ok-few_variables.ensures.few, c.len.ensures)) in
    whole_goal c.args.sig.now c.args.parents.now c.args.line.now c.requires.line c.args.stages c.requires.stages c.in_ok-whole.whole whole_is c.in_ok-whole.ensures.is_or c.args.parent.now c.args.clause.now c.requires.parent (scope_sorts (Outside c.as_slice-2.result)) c.in_ok-reach.reach.more v_is more_is few

pub contradicted-requires-clause-covered : goal.contradicted-requires-clause-covered
contradicted-requires-clause-covered c =
    let whole_is = c.in_ok-whole.ensures.clause ∙ ap (λ (ss : List Stage). together (stage_clauses ss)) c.as_slice.ensures in
    let v_is = all_reached c.as_slice-2.result c.in_ok-reach.reach.sorts c.as_slice-own.result.now c.in_ok-whole.whole.clause.sorts c.in_ok-reach.reach.more c.as_slice-2.ensures c.in_ok-reach.ensures.sorts c.as_slice-own.ensures in
    let more_is = more_reached c.as_slice-sorts.result.now [] c.args.clause.now.clause.sorts c.in_ok-reach.reach.more c.in_ok-reach.ensures.more refl c.as_slice-sorts.ensures in
    let few = few_here c.as_slice-2.result c.in_ok-reach.reach.sorts c.as_slice-2.ensures (omega (arith, c.in_ok-few_variables.ensures.is, c.in_ok-few_variables.ensures.few, c.len.ensures)) in
    let li = part_is c.args.subst.now c.in_ok-images.images _ _ (length c.args.clause.now.clause.sorts) (length c.in_ok-whole.whole.clause.sorts) c.in_ok-images.ensures (ap length c.as_slice-sorts.ensures) (ap length c.as_slice-own.ensures) in
    premise_covered c.args.sig.now c.args.parents.now c.args.line.now c.requires.line c.args.stages c.requires.stages c.in_ok-whole.whole whole_is c.in_ok-whole.ensures.is_or c.args.parent.now c.args.clause.now c.requires.parent (scope_sorts (Outside c.as_slice-2.result)) c.in_ok-reach.reach.more v_is more_is few c.args.subst.now c.requires.joint c.in_ok-images.images li c.in_ok-premise.premise c.in_ok-premise.ensures c.requires.covers

pub contradicted-requires-clause-sorted : goal.contradicted-requires-clause-sorted
contradicted-requires-clause-sorted c =
    let whole_is = c.in_ok-whole.ensures.clause ∙ ap (λ (ss : List Stage). together (stage_clauses ss)) c.as_slice.ensures in
    let v_is = all_reached c.as_slice-2.result c.in_ok-reach.reach.sorts c.as_slice-own.result.now c.in_ok-whole.whole.clause.sorts c.in_ok-reach.reach.more c.as_slice-2.ensures c.in_ok-reach.ensures.sorts c.as_slice-own.ensures in
    let more_is = more_reached c.as_slice-sorts.result.now [] c.args.clause.now.clause.sorts c.in_ok-reach.reach.more c.in_ok-reach.ensures.more refl c.as_slice-sorts.ensures in
    let few = few_here c.as_slice-2.result c.in_ok-reach.reach.sorts c.as_slice-2.ensures (omega (arith, c.in_ok-few_variables.ensures.is, c.in_ok-few_variables.ensures.few, c.len.ensures)) in
    let li = part_is c.args.subst.now c.in_ok-images.images _ _ (length c.args.clause.now.clause.sorts) (length c.in_ok-whole.whole.clause.sorts) c.in_ok-images.ensures (ap length c.as_slice-sorts.ensures) (ap length c.as_slice-own.ensures) in
    premise_sorted c.args.sig.now c.args.parents.now c.args.line.now c.requires.line c.args.stages c.requires.stages c.in_ok-whole.whole whole_is c.in_ok-whole.ensures.is_or c.args.parent.now c.args.clause.now c.requires.parent (scope_sorts (Outside c.as_slice-2.result)) c.in_ok-reach.reach.more v_is more_is few c.args.subst.now c.requires.joint c.in_ok-images.images li c.in_ok-premise.premise c.in_ok-premise.ensures

pub returns : goal.returns
returns c =
    let whole_is = c.in_ok-whole.ensures.clause ∙ ap (λ (ss : List Stage). together (stage_clauses ss)) c.as_slice.ensures in
    let v_is = all_reached c.as_slice-2.result c.in_ok-reach.reach.sorts c.as_slice-own.result.now c.in_ok-whole.whole.clause.sorts c.in_ok-reach.reach.more c.as_slice-2.ensures c.in_ok-reach.ensures.sorts c.as_slice-own.ensures in
    let more_is = more_reached c.as_slice-sorts.result.now [] c.args.clause.now.clause.sorts c.in_ok-reach.reach.more c.in_ok-reach.ensures.more refl c.as_slice-sorts.ensures in
    let few = few_here c.as_slice-2.result c.in_ok-reach.reach.sorts c.as_slice-2.ensures (omega (arith, c.in_ok-few_variables.ensures.is, c.in_ok-few_variables.ensures.few, c.len.ensures)) in
    let li = part_is c.args.subst.now c.in_ok-images.images _ _ (length c.args.clause.now.clause.sorts) (length c.in_ok-whole.whole.clause.sorts) c.in_ok-images.ensures (ap length c.as_slice-sorts.ensures) (ap length c.as_slice-own.ensures) in
    ok_map c.enclosed.result
    (λ tree e. line_shown c.args.sig.now c.args.parents.now c.args.line.now c.requires.line c.args.stages c.requires.stages c.in_ok-whole.whole whole_is c.in_ok-whole.ensures.is_or c.args.parent.now c.args.clause.now c.requires.parent (scope_sorts (Outside c.as_slice-2.result)) c.in_ok-reach.reach.more v_is more_is few c.args.subst.now c.requires.joint c.in_ok-images.images li c.in_ok-premise.premise c.in_ok-premise.ensures c.requires.there.0 c.in_ok-core.core tree c.requires.there.1 (rw c.as_slice-4.ensures at e) (rw c.as_slice-3.ensures at c.in_ok-core.ensures))
    c.enclosed.ensures
