use Rattle.std.proofs.Common.{subst}
use Rattle.std.proofs.lemmas.List.{take_all}
use Rattle.unify_terms.specs.code.Graph.{AddsPairs}
use Rattle.unify_terms.proofs.Valuations.{pairs_turn, adds_none}
use Rattle.unify_terms.proofs.node.add_pairs.Goals as goal

pub loop-pair-init : goal.loop-pair-init
loop-pair-init c = adds_none c.args.nodes.now c.args.numbers.now

pub loop-pair-preserved : goal.loop-pair-preserved
loop-pair-preserved c =
    pairs_turn c.args.nodes.now c.loop-pair.nodes c.add.new.nodes c.add-in-loop-pair.new.nodes c.args.pairs.now c.loop-pair.pair-index c.pair-item.result c.args.numbers.now c.loop-pair.numbers c.push.new.self c.in_ok-left.left c.in_ok-right.right
    c.loop-pair-test.true c.pair-item.is c.loop-pair.invariant c.in_ok-left.ensures c.in_ok-right.ensures c.in_ok-push.ensures.ok

pub returns : goal.returns
returns c = subst (λ ps. AddsPairs ps c.args.nodes.now c.args.numbers.now c.loop-pair.nodes c.loop-pair.numbers) (take_all c.loop-pair.pair-index c.args.pairs.now c.loop-pair-test.false) c.loop-pair.invariant
