-- What is written of terms and formulas under binders, whose variables are numbered from the outside.
use Rattle.std.specs.Prelude.{ℕ, ◌≡◌, ◌+◌, ◌≤◌, true, List, [], ◌∷◌, ◌++◌, length, Option, Some, Ok}
use Rattle.tptp_base.specs.declared.surface.STerm.{STerm}
use Rattle.tptp_base.specs.declared.surface.BoundVar.{BoundVar}
use Rattle.tptp_base.specs.declared.surface.Quant.{Quant}
use Rattle.tptp_base.specs.declared.surface.Surface.{Surface}
use Rattle.tptp_base.specs.declared.surface.Surface.TheVariants.{Bind}
use Rattle.fof_terms.specs.Vocabulary.{Vocabulary}
use Rattle.fof_terms.specs.Sorts.{sort_of_term, is_sorted}
use Rattle.fof_terms.specs.declared.term.Term.{Term}
use Rattle.fof_terms.specs.declared.form.Form.{Form}
use Rattle.sort_check.specs.declared.scope.Variable.{Variable}
use Rattle.sort_check.specs.Denotation.{Setting, State, denoted_term, denoted_form}
use Rattle.prove_out.specs.Unambiguous.{IsUnambiguous}
use Rattle.prove_out.specs.Denoting.{bound_count}
use Rattle.prove_out.specs.Variables.{variable_name, is_numbered}

-- the variables of these sorts, of which the first is the innermost
abbrev pub named_variables : List ℕ → List Variable
named_variables [] = []
named_variables (s ∷ outer) = named_variables outer ++ record { name = variable_name (length outer); sort = s } ∷ []

-- Under so many binders, wherever the term has a sort, what is written denotes it.
pub record WritesTerm (v : Vocabulary) (depth : ℕ) (t : Term) (written : STerm) : Type 0 where
  pub denotes : IsUnambiguous v → (here : Setting) (sorts : List ℕ) (sort : ℕ) (asked : Option ℕ) → length sorts ≡ depth → sort_of_term v sorts t ≡ Some sort
      → denoted_term here (named_variables sorts) written asked v ≡ Ok (record { term = t; sort = sort }, v)

-- the vocabulary, behind so many bound variables
abbrev pub state : Vocabulary → ℕ → State
state v bound = record { vocabulary = v; bound = bound }

-- Under so many binders, wherever the form is well-sorted and there is room for its variables, what is written denotes
-- it.
pub record WritesForm (v : Vocabulary) (depth : ℕ) (form : Form) (written : Surface) : Type 0 where
  pub denotes : IsUnambiguous v → (here : Setting) (sorts : List ℕ) (bound : ℕ) → length sorts ≡ depth → is_sorted v sorts form ≡ true → bound + bound_count form ≤ 250
      → denoted_form here written (named_variables sorts) (state v bound) ≡ Ok (form, state v (bound + bound_count form))
  pub numbered : is_numbered depth written ≡ true

-- What is written binds these variables and then more. Without the first ones it is what is written of the form.
pub record WritesBehind (v : Vocabulary) (depth : ℕ) (quant : Quant) (around : List BoundVar) (form : Form) (written : Surface) : Type 0 where
  pub more : List BoundVar
  pub inner : Surface
  pub is : written ≡ Bind quant (around ++ more) inner
  pub writes : WritesForm v depth form (Bind quant more inner)

-- each is written so, at its place
abbrev pub EachWritten : {X Y : Type 0} → (X → Y → Type 0) → List X → List Y → Type 0
EachWritten R [] [] = Unit {0}
EachWritten R [] (y ∷ ys) = ⊥
EachWritten R (x ∷ xs) [] = ⊥
EachWritten R (x ∷ xs) (y ∷ ys) = R x y × EachWritten R xs ys
