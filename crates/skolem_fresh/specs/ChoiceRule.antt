-- The rule `choice`: the line says, for all values of some variables, that where there is such a thing, new functions
-- give it.
use Rattle.std.specs.Prelude.{ℕ, zero, suc, ◌≡◌, ◌<◌, ◌⊎◌, true, false, List, [], ◌∷◌, reverse}
use Rattle.std.specs.List.{AllByRecursion as Each}
use Rattle.fof_terms.specs.declared.term.Term.{Var}
use Rattle.fof_terms.specs.declared.form.Form.{Form, Imp, Ex}
use Rattle.fof_terms.specs.Instance.{instance_of}
use Rattle.fof_terms.specs.Occurs.{occurs_in}
use Rattle.fof_terms.specs.Variables.{has_variable}
use Rattle.kernel.specs.Statements.{Statements}
use Rattle.kernel.specs.Entries.{for_all}
use Rattle.skolem_fresh.specs.declared.just.Use.{Use}
use Rattle.skolem_fresh.specs.Uses.{value_of, Fits, AreArguments, AreNew}

-- The formula a begins with k existential quantifiers, and b is what stands under them, with the value of a function
-- for each of their variables that occurs, the outermost first. One that doesn't occur goes with no function.
abbrev pub IsOpened : ℕ → List Use → Form → Form → Type 0
IsOpened zero uses a b = (uses ≡ []) × (b ≡ a)
IsOpened (suc k) uses a b = (s : ℕ) × (body : Form) × (a ≡ Ex s body)
    × (((has_variable 0 body ≡ true) × ((u : Use) × (rest : List Use) × (uses ≡ u ∷ rest) × (u.sort ≡ s) × IsOpened k rest (instance_of body (value_of u)) b))
    ⊎ ((has_variable 0 body ≡ false) × IsOpened k uses (instance_of body (Var 0)) b))

-- The functions may choose for the formula, over variables of these sorts: they are new and don't stand in it, and they
-- have the same arguments, which are distinct variables, all that stand free in it among them.
pub record MayChooseFor (t : Statements) (scope : List ℕ) (left : Form) (uses : List Use) : Type 0 where
  pub variables : List ℕ
  pub same : Each (λ (u : Use). u.variables ≡ variables) uses
  pub arguments : Each (λ (u : Use). AreArguments u.variables left) uses
  pub fits : Each (Fits t.vocabulary scope) uses
  pub new : AreNew t uses
  pub absent : Each (λ (u : Use). occurs_in u.function left ≡ false) uses

-- for all variables of these sorts, where there are k things of that kind, then the values of the functions are such
pub record Chooses (t : Statements) (line : Form) (sorts : List ℕ) (left right : Form) (k : ℕ) (uses : List Use) : Type 0 where
  pub is : line ≡ for_all sorts (Imp left right)
  pub some : 0 < k
  pub opened : IsOpened k uses left right
  pub may : MayChooseFor t (reverse sorts) left uses

abbrev pub IsChoiceStep : Statements → Form → Type 0
IsChoiceStep t line = (sorts : List ℕ) × (left right : Form) × (k : ℕ) × (uses : List Use) × Chooses t line sorts left right k uses
