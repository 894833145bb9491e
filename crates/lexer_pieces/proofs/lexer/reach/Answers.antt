use Rattle.std.proofs.Common.{subst}
use Rattle.lexer_pieces.specs.code.Settling.{Settles}
use Rattle.lexer_pieces.specs.declared.settle.Settled.TheVariants.{On, Waits, Stops}
use Rattle.lexer_pieces.proofs.Reaching.{ends_there, goes_on, part_all, reached_next, stops_anyway}
use Rattle.lexer_pieces.proofs.lexer.reach.Goals as goal

pub loop-at-preserved : goal.loop-at-preserved
loop-at-preserved c =
    reached_next c.args.style c.args.text.now c.loop-at.at c.loop-at.invariant c.in-On.len (subst (λ z. Settles c.args.style z (On c.in-On.len)) (part_all c.args.text.now c.loop-at.at) c.in-On.ensures)

pub returns-in-Waits-clause-goes : goal.returns-in-Waits-clause-goes
returns-in-Waits-clause-goes c = λ waits. goes_on c.args.style c.args.text.now c.loop-at.at c.loop-at.invariant (subst (λ z. Settles c.args.style z Waits) (part_all c.args.text.now c.loop-at.at) c.in-Waits.ensures)

pub returns-in-Stops-clause-stops : goal.returns-in-Stops-clause-stops
returns-in-Stops-clause-stops c = λ stops. stops_anyway c.args.style c.args.text.now c.loop-at.at c.loop-at.invariant (subst (λ z. Settles c.args.style z Stops) (part_all c.args.text.now c.loop-at.at) c.in-Stops.ensures)

pub returns-clause-goes : goal.returns-clause-goes
returns-clause-goes c = λ goes. ends_there c.args.style c.args.text.now c.loop-at.at c.loop-at.invariant c.loop-at-test.false
