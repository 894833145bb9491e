-- What private contracts say, beside the definitions of specs/Told.
use Rattle.std.specs.Prelude.{ℕ, zero, suc, ◌≡◌, ◌≤◌, ◌⊎◌, true, false, List, [], ◌∷◌, ◌++◌, length}
use Rattle.std.specs.List.{AllByRecursion as Each}
use Rattle.fof_terms.specs.declared.term.Term.{Var}
use Rattle.fof_terms.specs.declared.form.Form.{Form, Ex}
use Rattle.fof_terms.specs.Vocabulary.{Vocabulary}
use Rattle.fof_terms.specs.Instance.{instance_of}
use Rattle.fof_terms.specs.Variables.{has_variable}
use Rattle.kernel.specs.Statements.{Statements}
use Rattle.kernel.specs.Proves.{Proves}
use Rattle.kernel.specs.declared.proof.Proof.{Proof}
use Rattle.kernel.specs.declared.entry.Entry.{Entry}
use Rattle.kernel.specs.declared.entry.Entry.TheVariants.{Choice}
use Rattle.skolem_fresh.specs.declared.just.Use.{Use}
use Rattle.skolem_fresh.specs.code.Only.{only_has}
use Rattle.skolem_fresh.specs.Renamed.{renamed}
use Rattle.skolem_fresh.specs.Uses.{value_of, Fits}
use Rattle.skolem_fresh.specs.ChoiceRule.{IsOpened}
use Rattle.skolem_fresh.specs.Choosing.{IsWithin}
use Rattle.skolem_fresh.specs.code.Choosing.{ChoosesUnder}
use Rattle.skolem_fresh.specs.Told.{AddedFrom}

-- one entry for each of the first k existential variables of the formula that occurs: the function may choose for what
-- stands under the quantifier, with the values of the functions before it in place of their variables
abbrev pub AreTold : ℕ → List Use → Form → List Entry → Type 0
AreTold zero uses a told = told ≡ []
AreTold (suc k) uses a told = (s : ℕ) × (body : Form) × (a ≡ Ex s body)
    × (((has_variable 0 body ≡ true) × ((u : Use) × (rest : List Use) × (uses ≡ u ∷ rest)
    × ((others : List Entry) × (told ≡ Choice u.function (renamed u.variables 1 body) ∷ others) × AreTold k rest (instance_of body (value_of u)) others)))
    ⊎ ((has_variable 0 body ≡ false) × AreTold k uses (instance_of body (Var 0)) told))

-- The functions open the formula to this result, over a scope in which they fit; what it speaks of are their variables.
pub record IsOpenable (v : Vocabulary) (scope : List ℕ) (k : ℕ) (uses : List Use) (a right : Form) : Type 0 where
  pub within : IsWithin v scope a
  pub opened : IsOpened k uses a right
  pub fits : Each (Fits v scope) uses
  pub few : Each (λ (u : Use). length u.variables ≤ 1000000000) uses
  pub variables : List ℕ
  pub same : Each (λ (u : Use). u.variables ≡ variables) uses
  pub only : Each (λ (u : Use). only_has u.variables 0 a ≡ true) uses

-- in each theory and context in which the functions open the formula and what the entries add stands, the proof shows
-- the result where the part shows the formula
abbrev pub Leads : ℕ → List Use → Form → Form → List Entry → ℕ → Proof → Proof → Type 0
Leads k uses a right told n part made =
    (t : Statements) (v : List ℕ) (h : List Form) → IsOpenable t.vocabulary v k uses a right → AddedFrom t n told → Proves t v h part a → Proves t v h made right

-- entries that were gained, and a proof that leads from the one formula to the other
pub record IsLed (k : ℕ) (uses : List Use) (a right : Form) (n : ℕ) (part : Proof) (old new : List Entry) (made : Proof) : Type 0 where
  pub told : List Entry
  pub gained : new ≡ old ++ told
  pub are : AreTold k uses a told
  pub leads : Leads k uses a right told n part made

-- a line that says of the functions that they choose, under quantifiers over a scope
pub record IsTellable (t : Statements) (scope : List ℕ) (line : Form) (uses : List Use) : Type 0 where
  pub within : IsWithin t.vocabulary scope line
  pub sorts : List ℕ
  pub left : Form
  pub right : Form
  pub count : ℕ
  pub chooses : ChoosesUnder t scope line sorts left right count uses

-- the entries of the line: what it says of the functions
abbrev pub ToldUnder : Form → List Use → List Entry → Type 0
ToldUnder line uses told = (t : Statements) (scope : List ℕ) → (d : IsTellable t scope line uses) → AreTold d.count uses d.left told

-- a proof of the line, wherever what the entries add stands
abbrev pub ShowsUnder : Form → List Use → List Entry → ℕ → Proof → Type 0
ShowsUnder line uses told n made = (t : Statements) (v : List ℕ) (h : List Form) (u : Statements) → u.vocabulary ≡ t.vocabulary → IsTellable u v line uses → AddedFrom t n told → Proves t v h made line

-- entries that were gained, and a proof of the line
pub record IsShown (line : Form) (uses : List Use) (n : ℕ) (old new : List Entry) (made : Proof) : Type 0 where
  pub told : List Entry
  pub gained : new ≡ old ++ told
  pub are : ToldUnder line uses told
  pub shows : ShowsUnder line uses told n made
