-- The symbols of a line that are looked at for a parent's existential variables.
use Rattle.std.specs.Prelude.{ℕ, ◌≡◌, ◌<◌, ◌≤◌, true, List, length}
use Rattle.std.specs.List.{AllByRecursion as Each}
use Rattle.fof_terms.specs.declared.form.Form.{Form}
use Rattle.fof_terms.specs.Occurs.{occurs_in}
use Rattle.fof_terms.specs.Standing.{is_listed}
use Rattle.kernel.specs.Statements.{Statements}
use Rattle.kernel.specs.Entries.{IsFresh}

-- symbols of the line that are new to the theory: a hundred at most, and all if they are fewer
pub record AreNewSymbols (t : Statements) (line : Form) (fs : List ℕ) : Type 0 where
  pub new : Each (λ f. IsFresh f t) fs
  pub occur : Each (λ f. occurs_in f line ≡ true) fs
  pub few : length fs ≤ 100
  pub all : length fs < 100 → (f : ℕ) → IsFresh f t → occurs_in f line ≡ true → is_listed fs f ≡ true
