use Rattle.std.proofs.Common.{subst, sym, reverse, length, arith}
use Rattle.unify_terms.specs.code.Graph.{IsGraph, Stand}
use Rattle.unify_terms.specs.code.Classes.{AllBelow}
use Rattle.unify_terms.specs.code.Chosen.{chosen_pairs}
use Rattle.unify_terms.specs.code.Order.{Fits}
use Rattle.unify_terms.specs.code.Solved.{Unsolvable}
use Rattle.unify_terms.proofs.Unifier.{general, few_variables, closed_fits}
use Rattle.unify_terms.proofs.Valuations.{stand_below, unify_joins, most_general}
use Rattle.unify_terms.proofs.unification.unify_chosen.Goals as goal

pub arranged-requires-clause-graph : goal.arranged-requires-clause-graph
arranged-requires-clause-graph c = subst (IsGraph c.args.signature.now c.args.scope.now.sorts c.args.scope.now.rigid) (sym c.as_slice-nodes.ensures) (c.in_ok-nodes.ensures c.args.signature.now c.requires.sorted).graph

pub arranged-requires-clause-below : goal.arranged-requires-clause-below
arranged-requires-clause-below c =
    subst (λ nodes. AllBelow (length nodes) c.in_ok-nodes.field-0.pairs) (sym c.as_slice-nodes.ensures)
    (stand_below c.in_ok-nodes.field-0.nodes (chosen_pairs c.args.chosen.now) c.in_ok-nodes.field-0.pairs (c.in_ok-nodes.ensures c.args.signature.now c.requires.sorted).stand)

pub first_images-requires-clause-fits : goal.first_images-requires-clause-fits
first_images-requires-clause-fits c =
    let graph = subst (IsGraph c.args.signature.now c.args.scope.now.sorts c.args.scope.now.rigid) (sym c.as_slice-nodes.ensures) (c.in_ok-nodes.ensures c.args.signature.now c.requires.sorted).graph in
    let found = rw c.in-Some.is at c.in_ok-found.ensures in
    subst (Fits c.as_slice-nodes.result.now) (sym c.deref.ensures.value) (closed_fits c.args.signature.now c.args.scope.now.sorts c.args.scope.now.rigid c.as_slice-nodes.result.now c.in_ok-nodes.field-0.pairs c.in-Some.found.classes.items graph found.0)

pub first_images-requires-clause-few : goal.first_images-requires-clause-few
first_images-requires-clause-few c =
    let graph = subst (IsGraph c.args.signature.now c.args.scope.now.sorts c.args.scope.now.rigid) (sym c.as_slice-nodes.ensures) (c.in_ok-nodes.ensures c.args.signature.now c.requires.sorted).graph in
    few_variables c.args.signature.now c.args.scope.now.sorts c.args.scope.now.rigid c.as_slice-nodes.result.now graph c.requires.few

pub first_images-requires-clause-count : goal.first_images-requires-clause-count
first_images-requires-clause-count c =
    let graph = subst (IsGraph c.args.signature.now c.args.scope.now.sorts c.args.scope.now.rigid) (sym c.as_slice-nodes.ensures) (c.in_ok-nodes.ensures c.args.signature.now c.requires.sorted).graph in
    let enough = graph.variables in
    omega (arith, c.len.ensures)

pub returns-in-Some : goal.returns-in-Some
returns-in-Some c =
    let of = c.in_ok-nodes.ensures c.args.signature.now c.requires.sorted in
    let graph = subst (IsGraph c.args.signature.now c.args.scope.now.sorts c.args.scope.now.rigid) (sym c.as_slice-nodes.ensures) of.graph in
    let stand = subst (λ nodes. Stand nodes (chosen_pairs c.args.chosen.now) c.in_ok-nodes.field-0.pairs) (sym c.as_slice-nodes.ensures) of.stand in
    let found = rw c.in-Some.is at c.in_ok-found.ensures in
    let made = rw (c.deref.ensures.value, c.as_slice-order.ensures, c.len.ensures) at c.in_ok-images-in-Some.ensures in
    most_general c.args.signature.now c.args.scope.now.sorts c.args.scope.now.rigid c.as_slice-nodes.result.now (chosen_pairs c.args.chosen.now) c.in_ok-nodes.field-0.pairs c.in_ok-images-in-Some.images stand
    (general c.args.signature.now c.args.scope.now.sorts c.args.scope.now.rigid c.as_slice-nodes.result.now graph c.in_ok-nodes.field-0.pairs c.in-Some.found.classes.items found.0 (reverse c.in-Some.found.order) found.1.1 found.1.2
    c.in_ok-images-in-Some.images made.0 made.1 (stand_below c.as_slice-nodes.result.now (chosen_pairs c.args.chosen.now) c.in_ok-nodes.field-0.pairs stand))

pub returns : goal.returns
returns c = λ target other sub u.
    let none = rw c.in-None.is at c.in_ok-found.ensures in
    let none' = subst (λ nodes. Unsolvable c.args.signature.now c.args.scope.now.sorts c.args.scope.now.rigid nodes c.in_ok-nodes.field-0.pairs) c.as_slice-nodes.ensures none in
    none' target other sub (unify_joins c.in_ok-nodes.field-0.nodes other (chosen_pairs c.args.chosen.now) c.in_ok-nodes.field-0.pairs (c.in_ok-nodes.ensures c.args.signature.now c.requires.sorted).stand u)
