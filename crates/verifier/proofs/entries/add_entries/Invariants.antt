use Rattle.std.proofs.Common.{◌≤◌, take, drop}
use Rattle.verifier.proofs.Adding.{IsAdding}
use Rattle.verifier.proofs.entries.add_entries.Given as goal

abbrev pub invariant-loop-entry : goal.invariant-loop-entry
invariant-loop-entry g l = record {
  adding : IsAdding l.fn.theory l.entries l.theory (take l.entry-index l.entries) (drop l.entry-index l.entries) (g.K.Sink.taken l.fn.log) (g.K.Sink.taken l.log);
  faults : g.K.Sink.faults l.fn.log ≤ g.K.Sink.faults l.log;
}
