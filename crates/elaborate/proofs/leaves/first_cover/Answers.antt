use Rattle.std.proofs.Common.{below_more}
use Rattle.elaborate.proofs.StepAnswers.{not_alone, from_first, not_anywhere}
use Rattle.elaborate.proofs.leaves.first_cover.Goals as goal

pub loop-at-preserved : goal.loop-at-preserved
loop-at-preserved c = below_more _ _ c.loop-at.invariant (not_alone c.args.signature.now c.args.candidates.now c.args.line.now c.loop-at.at c.in_ok-proof.field-0 c.in_default.is c.in_ok-proof.ensures)

pub returns : goal.returns
returns c = not_anywhere c.args.signature.now c.args.candidates.now c.args.line.now c.loop-at.at c.loop-at-test.false c.loop-at.invariant

pub returns-in-Some : goal.returns-in-Some
returns-in-Some c = from_first c.args.signature.now c.args.candidates.now c.args.line.now c.loop-at.at c.in_ok-proof.field-0 c.in-Some.proof c.index-candidates-at.result c.in-Some.is c.index-candidates-at.is c.loop-at.invariant c.in_ok-proof.ensures
