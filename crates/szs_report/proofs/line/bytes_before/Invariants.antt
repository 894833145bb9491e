use Rattle.std.proofs.Common.{length, ◌-◌}
use Rattle.szs_report.specs.Marks.{fits}
use Rattle.szs_report.proofs.Cuts.{Sought}
use Rattle.szs_report.proofs.line.bytes_before.Given as goal

abbrev pub invariant-lines : goal.invariant-lines
invariant-lines l = Sought (fits l.kind) l.text l.before

abbrev pub decreases-lines : goal.decreases-lines
decreases-lines l = length l.text - l.before
