-- The atoms of a formula, each with the number of quantifiers that it stands under.
use Rattle.std.specs.Prelude.{ℕ, ◌+◌, ◌||◌, Bool, false, List, [], ◌∷◌, ◌++◌, flat_map}
use Rattle.std.specs.List.{list_any}
use Rattle.fof_terms.specs.declared.form.Form.{Form}
use Rattle.fof_terms.specs.declared.form.Form.TheFolds.{fold-Form}
use Rattle.fof_terms.specs.Variables.{has_in_term}
use Rattle.clause_form.specs.declared.clause.AtomOf.{AtomOf}
use Rattle.clause_form.specs.declared.clause.AtomOf.TheVariants.{Pred, Eq as Equation, True, False}
use Rattle.function_choices.specs.declared.atoms.Placed.{Placed}
use Rattle.fof_terms.specs.declared.form.Form.TheOpen as form

abbrev pub placed : ℕ → AtomOf → Placed
placed depth a = record { depth = depth; atom = a }

abbrev pub atoms_step : form.Form-F (ℕ → List Placed) → ℕ → List Placed
atoms_step (form.Atom p ts) depth = placed depth (Pred p ts) ∷ []
atoms_step (form.Eq l r) depth = placed depth (Equation l r) ∷ []
atoms_step (form.Not a) depth = a depth
atoms_step (form.And as_) depth = flat_map (λ a. a depth) as_
atoms_step (form.Or as_) depth = flat_map (λ a. a depth) as_
atoms_step (form.Imp a b) depth = a depth ++ b depth
atoms_step (form.Iff a b) depth = a depth ++ b depth
atoms_step (form.All s a) depth = a (depth + 1)
atoms_step (form.Ex s a) depth = a (depth + 1)

-- the atoms of the formula, which itself stands under so many quantifiers, from the left
unfoldable pub atoms_at : ℕ → Form → List Placed
atoms_at depth a = fold-Form (ℕ → List Placed) atoms_step a depth

-- the variable stands in the atom
abbrev pub stands_in : ℕ → AtomOf → Bool
stands_in k (Pred p ts) = list_any (has_in_term k) ts
stands_in k (Equation l r) = has_in_term k l || has_in_term k r
stands_in k True = false
stands_in k False = false
