use Rattle.sat_step.proofs.Answering.{signs_next}
use Rattle.sat_step.proofs.reading.read_signs.Goals as goal

pub loop-number-preserved : goal.loop-number-preserved
loop-number-preserved c =
    signs_next c.args.atoms.now c.args.signs.now c.loop-number.number c.loop-number.lits c.push.new.self c.in_ok-atom_at.field-0 c.loop-number-test.true c.loop-number.invariant c.in_ok-atom_at.ensures c.in_ok-push.ensures.ok
