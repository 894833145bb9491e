-- A new function in place of an existential variable (Skolem's way to do without existential quantifiers).
use Rattle.std.specs.Prelude.{ℕ, ◌≡◌, true, false, nat_eq, List, map, Some}
use Rattle.std.specs.List.{AllByRecursion as Each, Contains, IsDistinct}
use Rattle.fof_terms.specs.declared.term.Term.{Term, Var, App}
use Rattle.fof_terms.specs.declared.form.Form.{Form}
use Rattle.fof_terms.specs.Vocabulary.{Vocabulary}
use Rattle.fof_terms.specs.Sorts.{sort_of_term}
use Rattle.fof_terms.specs.Variables.{has_variable}
use Rattle.kernel.specs.Statements.{Statements}
use Rattle.kernel.specs.Entries.{IsFresh}
use Rattle.skolem_fresh.specs.declared.just.Use.{Use}

-- the function at its variables
abbrev pub value : ℕ → List ℕ → Term
value f xs = App f (map Var xs)

abbrev pub value_of : Use → Term
value_of u = value u.function u.variables

-- it is a function over the sorts of these variables, and its result has the sort of the variable that gives way
abbrev pub Fits : Vocabulary → List ℕ → Use → Type 0
Fits v scope u = sort_of_term v scope (value_of u) ≡ Some u.sort

abbrev pub functions_of : List Use → List ℕ
functions_of uses = map (λ (u : Use). u.function) uses

-- the variables are distinct, and all that stand free in the formula are among them
pub record AreArguments (xs : List ℕ) (a : Form) : Type 0 where
  pub distinct : IsDistinct nat_eq xs
  pub all_free : (k : ℕ) → has_variable k a ≡ true → Contains xs k

-- the functions are distinct, and none of them occurs in a formula of the theory
pub record AreNew (t : Statements) (uses : List Use) : Type 0 where
  pub distinct : IsDistinct nat_eq (functions_of uses)
  pub fresh : Each (λ (u : Use). IsFresh u.function t) uses
