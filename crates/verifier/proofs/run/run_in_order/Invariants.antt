use Rattle.std.proofs.Common.{◌≤◌, take, drop}
use Rattle.verifier.specs.code.Numbered.{Knows, derivation_in, progress_of}
use Rattle.verifier.specs.Logged.{LeadTo}
use Rattle.verifier.specs.Run.{begun}
use Rattle.verifier.proofs.Running.{IsRunning}
use Rattle.verifier.proofs.run.run_in_order.Given as goal

abbrev pub invariant-loop-place : goal.invariant-loop-place
invariant-loop-place g l = record {
  running : IsRunning (derivation_in l.lines) (begun l.fn.theory (derivation_in l.lines)) l.order (progress_of l.theory l.numbers) l.answers (take l.place-index l.order) (drop l.place-index l.order) (g.K.Sink.taken l.fn.log) (g.K.Sink.taken l.log);
  knows : Knows (derivation_in l.lines) (progress_of l.theory l.numbers);
  leads : LeadTo l.fn.theory l.theory;
  faults : g.K.Sink.faults l.fn.log ≤ g.K.Sink.faults l.log;
}
