use Rattle.std.proofs.lemmas.Result.{on_ok_weaker}
use Rattle.superpose.specs.code.Noted.{InstanceStays, AtomInstanceStays}
use Rattle.superpose.proofs.NotedFacts.{noted_then, eq_image}
use Rattle.superpose.proofs.noting.note_atom.Goals as goal

pub returns-in_ok-note_instance-in-Eq : goal.returns-in_ok-note_instance-in-Eq
returns-in_ok-note_instance-in-Eq c =
    on_ok_weaker c.note_instance-in-Eq.result
    (noted_then c.args.count c.args.noted.now c.note_instance.new.noted c.note_instance-in-Eq.new.noted (InstanceStays c.args.images.now c.in-Eq.left) (InstanceStays c.args.images.now c.in-Eq.right) (AtomInstanceStays c.args.images.now c.args.atom.now)
    (λ s. eq_image c.args.images.now c.args.atom.now c.in-Eq.left c.in-Eq.right s c.in-Eq.is) c.in_ok-note_instance-in-Eq.ensures) c.note_instance-in-Eq.ensures
