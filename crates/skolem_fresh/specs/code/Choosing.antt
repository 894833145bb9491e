-- What private contracts say, beside the definitions of specs/Choosing.
use Rattle.std.specs.Prelude.{ℕ, ◌≡◌, ◌<◌, ◌+◌, Bool, true, false, List, [], ◌∷◌, ◌++◌, ◌⊎◌, reverse, Option, Some}
use Rattle.std.specs.Prelude.{None}
use Rattle.std.specs.List.{AllByRecursion as Each}
use Rattle.fof_terms.specs.declared.form.Form.{Form, Imp}
use Rattle.fof_terms.specs.Instance.{instance_of}
use Rattle.fof_terms.specs.Occurs.{occurs_in}
use Rattle.fof_terms.specs.Variables.{has_variable}
use Rattle.fof_terms.specs.declared.term.Term.{Var}
use Rattle.fof_terms.specs.Vocabulary.{Vocabulary}
use Rattle.kernel.specs.Statements.{Statements}
use Rattle.kernel.specs.Entries.{for_all, IsFresh}
use Rattle.skolem_fresh.specs.declared.just.Use.{Use}
use Rattle.skolem_fresh.specs.declared.leaves.Leaf.{Leaf}
use Rattle.skolem_fresh.specs.code.Leaves.{leaves_of}
use Rattle.skolem_fresh.specs.code.Reading.{read}
use Rattle.skolem_fresh.specs.Uses.{value_of, Fits, AreArguments, AreNew}
use Rattle.skolem_fresh.specs.ChoiceRule.{IsOpened, MayChooseFor}

-- The answer is that the first k existential quantifiers of the formula are opened by some functions that fit, whose
-- list is then what was gained, to this result; and there are no others.
pub record IsRead (v : Vocabulary) (scope : List ℕ) (k : ℕ) (a right : Form) (old new : List Use) (answer : Bool) : Type 0 where
  pub sound : answer ≡ true → (more : List Use) × (new ≡ old ++ more) × IsOpened k more a right × Each (Fits v scope) more
  pub complete : (more : List Use) → IsOpened k more a right → Each (Fits v scope) more → (answer ≡ true) × (new ≡ old ++ more)

-- What stands under the quantifier, with a function in place of its variable where that occurs: the one that is read
-- off, which is gained. None where none is read off that fits.
abbrev pub IsNext : Vocabulary → List ℕ → ℕ → Form → List Leaf → List Use → List Use → Option Form → Type 0
IsNext v scope s body leaves old new None = (has_variable 0 body ≡ true) × ((u : Use) → read s (leaves_of 0 body) leaves ≡ Some u → Fits v scope u → ⊥)
IsNext v scope s body leaves old new (Some next) =
    ((has_variable 0 body ≡ false) × (new ≡ old) × (next ≡ instance_of body (Var 0)))
    ⊎ ((has_variable 0 body ≡ true) × ((u : Use) × (read s (leaves_of 0 body) leaves ≡ Some u) × Fits v scope u × (new ≡ old ++ u ∷ []) × (next ≡ instance_of body (value_of u))))

-- functions that choose for the left formula, to this result, or none
abbrev pub IsChosen : Statements → List ℕ → Form → Form → Option (List Use) → Type 0
IsChosen t scope left right None = (k : ℕ) (uses : List Use) → 0 < k → IsOpened k uses left right → MayChooseFor t scope left uses → ⊥
IsChosen t scope left right (Some uses) = (k : ℕ) × (0 < k) × IsOpened k uses left right × MayChooseFor t scope left uses

-- the line says of the functions that they choose, under quantifiers over the scope
pub record ChoosesUnder (t : Statements) (scope : List ℕ) (line : Form) (sorts : List ℕ) (left right : Form) (k : ℕ) (uses : List Use) : Type 0 where
  pub is : line ≡ for_all sorts (Imp left right)
  pub some : 0 < k
  pub opened : IsOpened k uses left right
  pub may : MayChooseFor t (reverse sorts ++ scope) left uses

-- functions of which the line says it, or none
abbrev pub IsChosenUnder : Statements → List ℕ → Form → Option (List Use) → Type 0
IsChosenUnder t scope line None = (sorts : List ℕ) (left right : Form) (k : ℕ) (uses : List Use) → ChoosesUnder t scope line sorts left right k uses → ⊥
IsChosenUnder t scope line (Some uses) = (sorts : List ℕ) × (left right : Form) × (k : ℕ) × ChoosesUnder t scope line sorts left right k uses

-- the function has these variables, and is new to the theory and to the formula
pub record IsFree (t : Statements) (left : Form) (variables : List ℕ) (u : Use) : Type 0 where
  pub same : u.variables ≡ variables
  pub fresh : IsFresh u.function t
  pub absent : occurs_in u.function left ≡ false

-- what it takes, besides that they fit, for functions to choose for the formula
pub record MayChooseIfFit (t : Statements) (left : Form) (uses : List Use) : Type 0 where
  pub variables : List ℕ
  pub same : Each (λ (u : Use). u.variables ≡ variables) uses
  pub arguments : Each (λ (u : Use). AreArguments u.variables left) uses
  pub new : AreNew t uses
  pub absent : Each (λ (u : Use). occurs_in u.function left ≡ false) uses
