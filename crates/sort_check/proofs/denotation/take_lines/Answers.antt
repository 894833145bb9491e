use Rattle.std.proofs.Common.{◌≡◌, ◌++◌, [], ap, false, arith}
use Rattle.std.proofs.lemmas.Grind.{common_steps}
use Rattle.std.proofs.lemmas.List.{append-nil}
use Rattle.sort_check.specs.Texts.{only_vocabulary, with_line}
use Rattle.sort_check.proofs.LineLoops.{lines_turn, lines_end}
use Rattle.sort_check.proofs.TermSorts.{grows_on}
use Rattle.sort_check.proofs.denotation.take_lines.Goals.{in-Some+in_ok-push, in_default}
use Rattle.sort_check.proofs.denotation.take_lines.Goals as goal

pub loop-number-preserved : goal.loop-number-preserved
loop-number-preserved c =
    let added : c.match-found.lines ≡ c.loop-number.lines ++ with_line c.in_ok-found.found [] =
    elim c.match-found.branch [
      | in-Some+in_ok-push w ↦ grind (arith, common_steps)
      | in_default w ↦ grind (arith, common_steps, append-nil)
    ] in
    record {
      so_far = lines_turn c.args.kind c.args.names.now c.args.items.now (record { vocabulary = c.args.signature.now; conjectured = false }) c.loop-number.lines c.loop-number.number (record { vocabulary = c.loop-number.signature; conjectured = c.loop-number.conjectured }) c.index-items-number.result c.loop-number-test.true c.index-items-number.is c.loop-number.invariant.so_far c.in_ok-found.found (record { vocabulary = c.take_line.new.signature; conjectured = c.take_line.new.conjectured }) c.match-found.lines c.in_ok-found.ensures.value added;
      keeps = grows_on c.args.signature.now c.loop-number.signature c.take_line.new.signature c.loop-number.invariant.keeps c.in_ok-found.ensures.keeps;
    }

pub returns-clause-value : goal.returns-clause-value
returns-clause-value c =
    ap only_vocabulary (lines_end c.args.kind c.args.names.now c.args.items.now (record { vocabulary = c.args.signature.now; conjectured = false }) c.loop-number.lines c.loop-number.number (record { vocabulary = c.loop-number.signature; conjectured = c.loop-number.conjectured }) c.loop-number-test.false c.loop-number.invariant.so_far)
