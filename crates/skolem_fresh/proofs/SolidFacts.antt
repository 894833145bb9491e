-- Lemmas on what specs/code/Solid defines.
use Rattle.std.specs.Prelude.{ℕ, ◌≡◌, ◌⊎◌, Bool, true, List, [], ◌∷◌}
use Rattle.fof_terms.specs.Variables.{has_variable}
use Rattle.fof_terms.specs.declared.term.Term.{Term}
use Rattle.fof_terms.specs.declared.form.Form.{Form, Atom, Eq, Not}
use Rattle.clause_form.specs.Norm.{node, quantifier}
use Rattle.skolem_fresh.specs.code.Solid.{IsSolid, AreSolid}
use Rattle.fof_terms.specs.declared.form.Form.TheOpen as form

-- the formula is an atom or an equation
abbrev pub IsAtomic : Form → Type 0
IsAtomic a = ((p : ℕ) × (ts : List Term) × (a ≡ Atom p ts)) ⊎ ((l : Term) × (r : Term) × (a ≡ Eq l r))

-- there is one, and each is solid
abbrev pub AreSome : List Form → Type 0
AreSome [] = ⊥
AreSome (a ∷ as_) = AreSolid (a ∷ as_)

-- what it takes, for each kind of formula
abbrev pub SolidIn : form.Form-F Form → Type 0
SolidIn (form.Atom p ts) = Unit {0}
SolidIn (form.Eq l r) = Unit {0}
SolidIn (form.Not a) = IsAtomic a
SolidIn (form.And as_) = AreSome as_
SolidIn (form.Or as_) = AreSome as_
SolidIn (form.Imp a b) = ⊥
SolidIn (form.Iff a b) = ⊥
SolidIn (form.All s a) = (has_variable 0 a ≡ true) × IsSolid a
SolidIn (form.Ex s a) = (has_variable 0 a ≡ true) × IsSolid a
