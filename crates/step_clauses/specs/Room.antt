-- Room for the symbols that a search may bring in, and where a step's formulas may be taken apart.
use Rattle.std.specs.Prelude.{ℕ, ◌≤◌, ◌+◌, true, if◌then◌else◌, List, [], length, map, sum}
use Rattle.std.specs.List.{All as Each}
use Rattle.fof_terms.specs.declared.form.Form.{Form}
use Rattle.fof_terms.specs.Sorts.{SortedTo}
use Rattle.fof_terms.specs.Vocabulary.{Vocabulary}
use Rattle.clause_form.specs.declared.path.Parent.{Parent}
use Rattle.clause_form.specs.Norm.{norm_of}
use Rattle.step_clauses.specs.Existentials.{ex_count}
use Rattle.step_clauses.specs.Inputs.{step_forms}
use Rattle.step_clauses.specs.Wide.{is_large}

-- one symbol for each existential quantifier of the formula's normal form, where it has one
abbrev pub wanted : Form → ℕ
wanted a = if is_large a then 0 else ex_count (norm_of true a)

-- A signature of so many symbols has room for one more for each existential quantifier of the step.
abbrev pub HasRoom : ℕ → List Form → Form → Type 0
HasRoom symbols parents line = symbols + sum (map wanted (step_forms parents line)) ≤ 16777216

-- The formula is closed and well-sorted, with at most 1,000,000,000 quantifiers inside each other, over a vocabulary that
-- has no symbol of that number or a greater one.
pub record IsBelow (next : ℕ) (a : Form) : Type 0 where
  pub vocabulary : Vocabulary
  pub new : length vocabulary.symbols ≤ next
  pub sorted : SortedTo 1000000000 vocabulary [] a

-- The same of the formulas of a step, over one vocabulary.
pub record AreBelow (next : ℕ) (ps : List Parent) (e : Form) : Type 0 where
  pub vocabulary : Vocabulary
  pub new : length vocabulary.symbols ≤ next
  pub parents : Each (λ (p : Parent). SortedTo 1000000000 vocabulary [] p.form) ps
  pub line : SortedTo 1000000000 vocabulary [] e
