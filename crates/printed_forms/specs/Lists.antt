-- Formulas that the TPTP language can write (TPTP BNF): it has no conjunction and no disjunction of one member.
use Rattle.std.specs.Prelude.{◌&&◌, not, Bool, true, false, List, [], ◌∷◌}
use Rattle.std.specs.List.{list_all}
use Rattle.fof_terms.specs.declared.form.Form.{Form}
use Rattle.fof_terms.specs.declared.form.Form.TheFolds.{fold-Form}
use Rattle.fof_terms.specs.declared.form.Form.TheOpen as form

abbrev pub is_one : {X : Type 0} → List X → Bool
is_one [] = false
is_one (x ∷ []) = true
is_one (x ∷ y ∷ xs) = false

-- the list has not one member, and each of its members is so
abbrev pub are_listed : List Bool → Bool
are_listed parts = not (is_one parts) && list_all (λ part. part) parts

abbrev pub listed_step : form.Form-F Bool → Bool
listed_step (form.Atom p args) = true
listed_step (form.Eq l r) = true
listed_step (form.Not a) = a
listed_step (form.And as_) = are_listed as_
listed_step (form.Or as_) = are_listed as_
listed_step (form.Imp a b) = a && b
listed_step (form.Iff a b) = a && b
listed_step (form.All s a) = a
listed_step (form.Ex s a) = a

-- no conjunction and no disjunction in the formula has one member alone
unfoldable pub has_no_list_of_one : Form → Bool
has_no_list_of_one = fold-Form Bool listed_step
