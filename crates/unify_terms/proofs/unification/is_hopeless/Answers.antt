use Rattle.std.proofs.Common.{subst, sym, length}
use Rattle.unify_terms.specs.code.Graph.{IsGraph}
use Rattle.unify_terms.specs.code.Classes.{AllBelow}
use Rattle.unify_terms.specs.code.Chosen.{chosen_pairs}
use Rattle.unify_terms.specs.code.Solved.{Unsolvable}
use Rattle.unify_terms.proofs.Valuations.{stand_below, unify_joins}
use Rattle.unify_terms.proofs.unification.is_hopeless.Goals as goal

pub arranged-requires-clause-graph : goal.arranged-requires-clause-graph
arranged-requires-clause-graph c = subst (IsGraph c.args.signature.now c.args.scope.now.sorts c.args.scope.now.rigid) (sym c.as_slice.ensures) (c.in_ok-nodes.ensures c.args.signature.now c.requires.sorted).graph

pub arranged-requires-clause-below : goal.arranged-requires-clause-below
arranged-requires-clause-below c =
    subst (λ nodes. AllBelow (length nodes) c.in_ok-nodes.field-0.pairs) (sym c.as_slice.ensures)
    (stand_below c.in_ok-nodes.field-0.nodes (chosen_pairs c.args.chosen.now) c.in_ok-nodes.field-0.pairs (c.in_ok-nodes.ensures c.args.signature.now c.requires.sorted).stand)

pub returns : goal.returns
returns c = λ yes target other sub u.
    let none = rw c.in-None.is at c.in_ok-arranged.ensures in
    let none' = subst (λ nodes. Unsolvable c.args.signature.now c.args.scope.now.sorts c.args.scope.now.rigid nodes c.in_ok-nodes.field-0.pairs) c.as_slice.ensures none in
    none' target other sub (unify_joins c.in_ok-nodes.field-0.nodes other (chosen_pairs c.args.chosen.now) c.in_ok-nodes.field-0.pairs (c.in_ok-nodes.ensures c.args.signature.now c.requires.sorted).stand u)
