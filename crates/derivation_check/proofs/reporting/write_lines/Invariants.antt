use Rattle.std.proofs.Common.{◌≡◌, ◌≤◌, drop}
use Rattle.std.specs.Io.KnownBytes.{append_known}
use Rattle.derivation_check.specs.Report.{lines_text}
use Rattle.derivation_check.proofs.reporting.write_lines.Given as goal

-- what is said so far, and what is said of the lines that are left, is all
abbrev pub invariant-loop-place : goal.invariant-loop-place
invariant-loop-place g l = record {
  taken : append_known (g.K.Sink.taken l.sink) (lines_text (drop l.place l.names) (drop l.place l.answers)) ≡ append_known (g.K.Sink.taken l.initial.sink) (lines_text l.names l.answers);
  faults : g.K.Sink.faults l.initial.sink ≤ g.K.Sink.faults l.sink;
}
