use Rattle.std.proofs.Common.{arith}
use Rattle.derivation_check.proofs.Lines.{line_more, lines_done}
use Rattle.derivation_check.proofs.reporting.write_lines.Goals as goal

pub loop-place-preserved : goal.loop-place-preserved
loop-place-preserved g c = record {
  taken = line_more _ c.args.names.now c.args.answers.now _ _ c.loop-place.place c.index-names-place.result c.index-answers-place.result c.loop-place-test.true (omega arith) c.index-names-place.is c.index-answers-place.is c.loop-place.invariant.taken c.in_ok-write_line.ensures.ok;
  faults = omega arith;
}

pub returns-clause-ok : goal.returns-clause-ok
returns-clause-ok g c = lines_done _ c.args.names.now c.args.answers.now _ c.loop-place.place c.loop-place-test.false c.loop-place.invariant.taken
