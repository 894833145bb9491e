use Rattle.std.proofs.Common.{◌≡◌, ◌-◌, drop, length}
use Rattle.norm_proofs.specs.Numbering.{general}
use Rattle.norm_proofs.proofs.widening.general.Given as goal

abbrev pub invariant-loop-i : goal.invariant-loop-i
invariant-loop-i l = l.made ≡ general (drop (length l.sorts - l.i) l.sorts) l.fn.part
