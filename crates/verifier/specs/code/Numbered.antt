-- What the code that runs lines keeps: the given formulas with their numbers, and what it knows of the theory so far.
use Rattle.std.specs.Prelude.{ℕ, ◌≡◌, List, length, Option, None, Some, slice_get}
use Rattle.std.specs.List.{All}
use Rattle.fof_terms.specs.declared.form.Form.{Form}
use Rattle.clause_form.specs.Paths.{forms_of}
use Rattle.clause_form.specs.declared.path.Parent.{Parent}
use Rattle.clause_rules.specs.Steps.{IsReady}
use Rattle.kernel.specs.Statements.{Statements, AreClosed}
use Rattle.verifier.specs.Lines.{Derivation, LinesStand, given_from}
use Rattle.verifier.specs.Run.{Progress}
use Rattle.verifier.specs.declared.lines.Lines.{Lines}

abbrev pub joined : Option (Option ℕ) → Option ℕ
joined None = None
joined (Some number) = number

-- each has its place as its number
abbrev pub AreNumbered : List Parent → Type 0
AreNumbered given = given ≡ given_from 0 (forms_of given)

abbrev pub progress_of : Statements → List (Option ℕ) → Progress
progress_of theory numbers = record { theory = theory; numbers = numbers }

-- the derivation that lines in memory are
abbrev pub derivation_in : Lines → Derivation
derivation_in lines = record { given = forms_of lines.given.now; nodes = lines.nodes.now; forms = lines.forms.now; limit = lines.limit }

-- The theory begins with the given formulas, and has that of each line which is accepted so far, at the line's number.
-- The rules may be asked about all of them, and about those of the lines to come. All its formulas are closed.
pub record Knows (d : Derivation) (p : Progress) : Type 0 where
  pub given : (k : ℕ) (a : Form) → slice_get d.given k ≡ Some a → slice_get p.theory.formulas k ≡ Some a
  pub lines : LinesStand p.theory d.forms p.numbers
  pub given_ready : All (IsReady p.theory.vocabulary) d.given
  pub lines_ready : All (IsReady p.theory.vocabulary) d.forms
  pub closed : AreClosed p.theory
  pub count : length p.numbers ≡ length d.forms

-- The lines are over the formulas of the theory, each line has its formula, and the rules may be asked about all of
-- them.
pub record IsOver (t : Statements) (lines : Lines) : Type 0 where
  pub given : lines.given.now ≡ given_from 0 t.formulas
  pub same : length lines.forms.now ≡ length lines.nodes.now
  pub given_ready : All (IsReady t.vocabulary) t.formulas
  pub lines_ready : All (IsReady t.vocabulary) lines.forms.now
