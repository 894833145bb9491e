use Rattle.std.proofs.Common.{length, ◌-◌, ◌≤◌, take}
use Rattle.std.specs.List.{flat_map}
use Rattle.tptp_base.specs.Sink.{Takes}
use Rattle.tptp_lexer.specs.Quotes.{single_quote}
use Rattle.canon_print.specs.Words.{escaped}
use Rattle.canon_print.proofs.write.write_chars.Given as goal

abbrev pub invariant-loop-done : goal.invariant-loop-done
invariant-loop-done g l = record {
  within : l.done ≤ length l.chars;
  taken : Takes (g.K.Sink.taken l.initial.sink) (g.K.Sink.taken l.sink) (flat_map (escaped single_quote) (take l.done l.chars));
  faults : g.K.Sink.faults l.initial.sink ≤ g.K.Sink.faults l.sink;
}

abbrev pub decreases-loop-done : goal.decreases-loop-done
decreases-loop-done g l = length l.chars - l.done
