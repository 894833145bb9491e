use Rattle.std.proofs.Common.{rules}
use Rattle.elaborate.proofs.StepAnswers.{no_definition}
use Rattle.elaborate.proofs.naming.defined.Goals as goal
use Rattle.elaborate.proofs.naming.defined.Goals.{in-Some-Definition+in_ok-entries-in-Some-Definition, in-None}

pub returns : goal.returns
returns c =
    elim c.match-branch-2.branch [
      | in-Some-Definition+in_ok-entries-in-Some-Definition w ↦ search rules
      | in-None w ↦ rw w.result-is (no_definition c.args.theory.now c.args.line.now c.in_ok-symbol.field-0 w.in-None.is c.in_ok-symbol.ensures)
    ]
