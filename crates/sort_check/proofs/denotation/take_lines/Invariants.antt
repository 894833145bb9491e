use Rattle.std.proofs.Common.{false}
use Rattle.sort_check.specs.Sorting.{Extends}
use Rattle.sort_check.proofs.LineLoops.{LinesSoFar}
use Rattle.sort_check.proofs.denotation.take_lines.Given as goal

abbrev pub invariant-loop-number : goal.invariant-loop-number
invariant-loop-number l = record {
  so_far : LinesSoFar l.kind l.names l.items (record { vocabulary = l.initial.signature; conjectured = false }) l.lines l.number (record { vocabulary = l.signature; conjectured = l.conjectured });
  keeps : Extends l.initial.signature l.signature;
}
