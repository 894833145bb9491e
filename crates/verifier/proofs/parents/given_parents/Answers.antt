use Rattle.verifier.proofs.Collecting.{given_more}
use Rattle.verifier.proofs.parents.given_parents.Goals as goal

pub loop-number-preserved : goal.loop-number-preserved
loop-number-preserved c =
    given_more c.args.theory.now.formulas c.loop-number.number c.in-Some.form.now c.in_ok-numbered.field-0 c.loop-number.given c.push.new.self c.in-Some.ensures.value c.in_ok-numbered.ensures c.in_ok-push.ensures.ok c.loop-number.invariant
