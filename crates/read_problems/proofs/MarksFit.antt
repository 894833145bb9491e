-- The marks of given formulas are as many as these.
use Rattle.std.proofs.Common.{◌≤◌, List, length, arith}
use Rattle.std.proofs.lemmas.List.{length-map}
use Rattle.fof_terms.specs.Vocabulary.{Vocabulary}
use Rattle.sort_check.specs.declared.line.GivenEntry.{GivenEntry}
use Rattle.sort_check.specs.declared.line.Line.{Line}
use Rattle.sort_check.specs.Given.{given_entries}
use Rattle.read_problems.specs.Given.{given_theory}
use Rattle.read_problems.specs.Sources.{conjecture_marks, is_of_conjecture}

pub marks_fit : (lines : List Line) (v : Vocabulary) → length (conjecture_marks lines) ≤ length (given_theory lines v).formulas
marks_fit lines v =
    omega (arith, length-map (given_entries lines) (λ (entry : GivenEntry). is_of_conjecture entry.role), length-map (given_entries lines) (λ (entry : GivenEntry). entry.form))
