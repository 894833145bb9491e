use Rattle.std.proofs.Common.{take}
use Rattle.superpose.specs.code.Noted.{IsNoted, InstancesStay}
use Rattle.superpose.proofs.noting.+note_instance.Given as goal

abbrev pub invariant-note_instances-loop-term : goal.invariant-note_instances-loop-term
invariant-note_instances-loop-term l = IsNoted l.count l.fn.noted l.noted (InstancesStay l.images (take l.term-index l.terms))
