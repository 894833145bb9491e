use Rattle.std.proofs.Common.{◌≡◌, ◌-◌}
use Rattle.norm_proofs.specs.Numbering.{near}
use Rattle.norm_proofs.proofs.widening.near.Given as goal

abbrev pub invariant-loop-i : goal.invariant-loop-i
invariant-loop-i l = near l.first (l.count - l.i) l.made ≡ near l.first l.count l.fn.part
