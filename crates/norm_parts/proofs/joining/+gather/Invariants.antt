use Rattle.std.proofs.Common.{take}
use Rattle.norm_parts.specs.code.Gathering.{AreGathered}
use Rattle.norm_parts.proofs.joining.+gather.Given as goal

abbrev pub invariant-gather_all-loop-form : goal.invariant-gather_all-loop-form
invariant-gather_all-loop-form l = AreGathered (take l.form-index l.forms) l.depth l.rest l.proofs l.first
