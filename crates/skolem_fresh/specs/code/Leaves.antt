-- The terms that a formula consists of, from the left, each with the number of quantifiers that it stands under.
use Rattle.std.specs.Prelude.{ℕ, ◌+◌, List, [], ◌∷◌, ◌++◌, map, flat_map}
use Rattle.fof_terms.specs.declared.term.Term.{Term}
use Rattle.fof_terms.specs.declared.form.Form.{Form, Atom, Eq, Not, And, Or, Imp, Iff, All, Ex}
use Rattle.fof_terms.specs.declared.form.Form.TheFolds.{fold-Form}
use Rattle.skolem_fresh.specs.declared.leaves.Leaf.{Leaf}
use Rattle.fof_terms.specs.declared.form.Form.TheOpen as form

abbrev pub leaf : ℕ → Term → Leaf
leaf depth t = record { depth = depth; term = t }

abbrev pub leaves_step : form.Form-F (ℕ → List Leaf) → ℕ → List Leaf
leaves_step (form.Atom p ts) depth = map (leaf depth) ts
leaves_step (form.Eq l r) depth = leaf depth l ∷ leaf depth r ∷ []
leaves_step (form.Not a) depth = a depth
leaves_step (form.And as_) depth = flat_map (λ a. a depth) as_
leaves_step (form.Or as_) depth = flat_map (λ a. a depth) as_
leaves_step (form.Imp a b) depth = a depth ++ b depth
leaves_step (form.Iff a b) depth = a depth ++ b depth
leaves_step (form.All s a) depth = a (depth + 1)
leaves_step (form.Ex s a) depth = a (depth + 1)

-- the terms of the formula, which itself stands under so many quantifiers
unfoldable pub leaves_of : ℕ → Form → List Leaf
leaves_of depth a = fold-Form (ℕ → List Leaf) leaves_step a depth
