-- The clause that a closed clause is.
use Rattle.std.specs.Prelude.{ℕ, ◌≡◌, Bool, true, false, List, [], ◌∷◌, map, Some, refl}
use Rattle.std.proofs.Common.{ap}
use Rattle.fof_terms.specs.declared.form.Form.{Form, All}
use Rattle.clause_form.specs.declared.clause.AtomOf.{AtomOf}
use Rattle.clause_form.specs.declared.clause.AtomOf.TheVariants.{Pred, Eq as Equation, True, False}
use Rattle.clause_form.specs.declared.clause.Lit.{Lit}
use Rattle.clause_form.specs.declared.clause.Clause.{Clause}
use Rattle.clause_form.specs.Norm.{signed}
use Rattle.clause_form.specs.ClauseView.{View, view_of, clause_of, all_there, stated, open_clause, within, form_of_atom, form_of_lit, form_of_lits, closed_by, closed, IsLoneFalsehood}
use Rattle.clause_form.proofs.ClauseViewFacts.{view_of-Atom, view_of-Eq, view_of-Not, view_of-And, view_of-Or, view_of-All}

atom_view : (a : AtomOf) → (view_of (form_of_atom a)).atom ≡ Some a
atom_view (Pred p ts) = rw view_of-Atom refl
atom_view (Equation l r) = rw view_of-Eq refl
atom_view True = rw view_of-And refl
atom_view False = rw view_of-Or refl

stated_view : (a : AtomOf) → (view_of (form_of_atom a)).lit ≡ Some (stated a)
stated_view (Pred p ts) = rw view_of-Atom refl
stated_view (Equation l r) = rw view_of-Eq refl
stated_view True = rw view_of-And refl
stated_view False = rw view_of-Or refl

signed_view : (g : Bool) (a : AtomOf) → (view_of (signed g (form_of_atom a))).lit ≡ Some (record { positive = g; atom = a })
signed_view true a = stated_view a
signed_view false a = rw (view_of-Not, atom_view a) refl

pub lit_view : (l : Lit) → (view_of (form_of_lit l)).lit ≡ Some l
lit_view l = signed_view l.positive l.atom

lits_view : (lits : List Lit) → all_there (map (λ (u : View). u.lit) (map view_of (map form_of_lit lits))) ≡ Some lits
lits_view [] = refl
lits_view (l ∷ lits) = rw (lit_view l, lits_view lits) refl

lone_view : (g : Bool) (a : AtomOf) → (record { positive = g; atom = a } ≡ stated False → ⊥) → (view_of (signed g (form_of_atom a))).clause ≡ Some (open_clause (record { positive = g; atom = a } ∷ []))
lone_view true (Pred p ts) other = rw view_of-Atom refl
lone_view true (Equation l r) other = rw view_of-Eq refl
lone_view true True other = rw view_of-And refl
lone_view true False other = absurd (other refl)
lone_view false a other = rw (view_of-Not, atom_view a) refl

body_view : (lits : List Lit) → (lits ≡ stated False ∷ [] → ⊥) → (view_of (form_of_lits lits)).clause ≡ Some (open_clause lits)
body_view [] other = rw view_of-Or refl
body_view (l ∷ []) other = lone_view l.positive l.atom (λ e. other (ap (λ (k : Lit). k ∷ []) e))
body_view (l ∷ k ∷ lits) other = rw view_of-Or (rw (lits_view (l ∷ k ∷ lits)) refl)

all_view : (s : ℕ) (b : Form) (c : Clause) → (view_of b).clause ≡ Some c → (view_of (All s b)).clause ≡ Some (within s c)
all_view s b c e = rw view_of-All (rw e refl)

over_view : (sorts : List ℕ) (lits : List Lit) (a : Form) → (view_of a).clause ≡ Some (open_clause lits) → (view_of (closed_by sorts a)).clause ≡ Some (record { sorts = sorts; lits = lits })
over_view [] lits a e = e
over_view (s ∷ sorts) lits a e = all_view s (closed_by sorts a) (record { sorts = sorts; lits = lits }) (over_view sorts lits a e)

pub closed_view : (c : Clause) → (IsLoneFalsehood c → ⊥) → clause_of (closed c) ≡ Some c
closed_view c other = over_view c.sorts c.lits (form_of_lits c.lits) (body_view c.lits other)
