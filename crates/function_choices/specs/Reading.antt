-- What a line tells of the arguments of a function that stands for an existential variable.
use Rattle.std.specs.Prelude.{ℕ, ◌&&◌, if◌then◌else◌, List, [], ◌++◌, find, fold, map, Option, Some, None}
use Rattle.clause_form.specs.declared.clause.AtomOf.{AtomOf}
use Rattle.clause_form.specs.declared.clause.AtomOf.TheVariants.{Pred, Eq as Equation}
use Rattle.function_choices.specs.declared.atoms.Placed.{Placed}
use Rattle.function_choices.specs.declared.matched.Matched.{Matched}
use Rattle.function_choices.specs.Alike.{is_alike, atoms_alike}
use Rattle.function_choices.specs.Matched.{matches, at_each}
use Rattle.function_choices.specs.Told.{tells, either}

-- each variable of an atom with the term in its place in one that is alike to it, the sides of an equation in the order
-- in which they are alike
abbrev pub atoms_matched : ℕ → ℕ → AtomOf → AtomOf → List Matched
atoms_matched f k (Pred p ps) (Pred q ts) = at_each (map matches ps) ts
atoms_matched f k (Equation a b) (Equation l r) = if is_alike f k a l && is_alike f k b r then matches a l ++ matches b r else matches a r ++ matches b l
atoms_matched f k _ _ = []

abbrev pub told_at : ℕ → Placed → Option Placed → List (Option ℕ)
told_at f p None = []
told_at f p (Some a) = tells p.depth (atoms_matched f p.depth p.atom a.atom)

-- what the first of the line's atoms tells that is alike to this atom with the variable
abbrev pub told_by : ℕ → List Placed → Placed → List (Option ℕ)
told_by f atoms p = told_at f p (find (λ (a : Placed). atoms_alike f p.depth p.atom a.atom) atoms)

-- what they tell of each argument, by the first of the atoms with the variable by which it is told
abbrev pub told : ℕ → List Placed → List Placed → List (Option ℕ)
told f patterns atoms = fold (λ before p. either before (told_by f atoms p)) [] patterns
