-- The rule `norm`: a parent has the line's flat form. A formula whose norm size is over 100,000 has none here.
use Rattle.std.specs.Prelude.{ℕ, ◌≡◌, ◌<◌, List, Some, slice_get}
use Rattle.fof_terms.specs.declared.form.Form.{Form}
use Rattle.clause_form.specs.declared.path.Parent.{Parent}
use Rattle.flat_form.specs.Flat.{HasFlat}

-- the parent of that number has this flat form
pub record FlatsAlike (parents : List Parent) (made : Form) (a : ℕ) : Type 0 where
  pub parent : Parent
  pub there : slice_get parents a ≡ Some parent
  pub alike : HasFlat parent.form made

-- the parent of that number has the line's flat form
pub record HasLinesFlat (parents : List Parent) (line : Form) (a : ℕ) : Type 0 where
  pub made : Form
  pub of_line : HasFlat line made
  pub of_parent : FlatsAlike parents made a

-- and no parent before it has it
abbrev pub IsFirstNorm : List Parent → Form → ℕ → Type 0
IsFirstNorm parents line a = HasLinesFlat parents line a × ((b : ℕ) → b < a → HasLinesFlat parents line b → ⊥)

abbrev pub IsNormStep : List Parent → Form → Type 0
IsNormStep parents line = (a : ℕ) × HasLinesFlat parents line a
