use Rattle.std.proofs.Common.{subst}
use Rattle.unify_terms.specs.code.Graph.{AddsPairs}
use Rattle.unify_terms.specs.code.Chosen.{chosen_pairs}
use Rattle.unify_terms.proofs.Valuations.{graph_of_pairs}
use Rattle.unify_terms.proofs.node.graph_of.Goals as goal

pub returns : goal.returns
returns c =
    graph_of_pairs c.args.scope.now.sorts c.args.scope.now.rigid (chosen_pairs c.args.chosen.now) c.in_ok-nodes.nodes c.add_chosen.new.nodes c.add_chosen.new.numbers c.in_ok-nodes.ensures
    (subst (λ ns. AddsPairs (chosen_pairs c.args.chosen.now) c.in_ok-nodes.nodes ns c.add_chosen.new.nodes c.add_chosen.new.numbers) c.new-pairs.ensures c.in_ok-add_chosen.ensures)
