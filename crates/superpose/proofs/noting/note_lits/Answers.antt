use Rattle.std.proofs.Common.{◌+◌, take}
use Rattle.superpose.specs.code.Noted.{AtomInstanceStays, LitInstancesStay}
use Rattle.superpose.proofs.NotedFacts.{noted_then, lit_more}
use Rattle.superpose.proofs.noting.note_lits.Goals as goal

pub loop-lit-preserved : goal.loop-lit-preserved
loop-lit-preserved c =
    noted_then c.args.count c.args.noted.now c.loop-lit.noted c.note_atom.new.noted (LitInstancesStay c.args.images.now (take c.loop-lit.lit-index c.args.lits.now)) (AtomInstanceStays c.args.images.now c.lit-item.result.atom)
    (LitInstancesStay c.args.images.now (take (c.loop-lit.lit-index + 1) c.args.lits.now))
    (λ s. lit_more c.args.images.now c.args.lits.now c.loop-lit.lit-index c.lit-item.result s c.loop-lit-test.true c.lit-item.is) c.loop-lit.invariant c.in_ok-note_atom.ensures
