use Rattle.std.proofs.Common.{sym}
use Rattle.fi_model.specs.Sentences.{element}
use Rattle.fi_model.proofs.Loops.{not_all_there}
use Rattle.fi_model.proofs.ArgumentFacts.{one_more_there}
use Rattle.fi_model.proofs.arguments.Arguments.new.Goals as goal

pub returns-in_default : goal.returns-in_default
returns-in_default c =
    sym (not_all_there element c.args.terms.now c.loop-term.term-index c.term-item.result c.loop-term-test.true c.term-item.is (sym c.in_default.ensures))

pub loop-term-preserved : goal.loop-term-preserved
loop-term-preserved c =
    one_more_there element c.args.terms.now c.loop-term.term-index c.term-item.result _ c.loop-term-test.true c.term-item.is (sym c.in-Some.ensures) c.loop-term.invariant
