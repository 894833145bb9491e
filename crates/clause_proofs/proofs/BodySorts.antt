-- Which bodies, literals and scopes are well-sorted.
use Rattle.std.specs.Prelude.{ℕ, ◌≡◌, ◌+◌, ◌<◌, ◌≤◌, Bool, true, false, not, List, [], ◌∷◌, ◌++◌, length, map, reverse, get_or, slice_get, Some, refl}
use Rattle.std.specs.List.{AllByRecursion}
use Rattle.std.proofs.Common.{ap, sym, subst, ◌∙◌, arith, append_assoc, append-nil, length-append}
use Rattle.std.proofs.lemmas.List.{reverse-append, length-reverse}
use Rattle.std.proofs.lemmas.List.Elements.{All-from_recursion, recursion_from_All}
use Rattle.std.proofs.lemmas.Option.{slice_get-get_or}
use Rattle.fof_terms.specs.declared.form.Form.{Form, Or, All}
use Rattle.fof_terms.specs.Vocabulary.{Vocabulary}
use Rattle.fof_terms.specs.Sorts.{IsScope, SortedTo, Sorted, is_sorted, binder_depth}
use Rattle.fof_terms.proofs.Scoped.{sorted_of_all, sorted_of_or, member_of}
use Rattle.fof_terms.proofs.SortsFacts.{is_sorted-Atom, is_sorted-Eq, is_sorted-Not, is_sorted-And, is_sorted-Or, binder_depth-Atom, binder_depth-Eq, binder_depth-Not, binder_depth-And, binder_depth-Or}
use Rattle.clause_form.specs.declared.clause.AtomOf.{AtomOf}
use Rattle.clause_form.specs.declared.clause.AtomOf.TheVariants.{Pred, Eq as Equation, True, False}
use Rattle.clause_form.specs.declared.clause.Lit.{Lit}
use Rattle.clause_form.specs.Norm.{signed}
use Rattle.clause_form.specs.ClauseView.{form_of_atom, form_of_lit, closed_by}
use Rattle.clause_form.specs.Covers.{is_sorted_atom, negated, AreSorted}
use Rattle.clause_proofs.specs.Bodies.{body_of}

module _ (w : Vocabulary) where
  -- the scope under a clause's quantifiers
  pub under_closed : (sorts v : List ℕ) (a : Form) → length sorts + length v ≤ 2147483647 → Sorted w v (closed_by sorts a) → Sorted w (reverse sorts ++ v) a
  under_closed [] v a room r = r
  under_closed (s ∷ sorts) v a room r =
      let moved : reverse sorts ++ (s ∷ v) ≡ reverse (s ∷ sorts) ++ v = sym (ap (λ (ss : List ℕ). ss ++ v) (reverse-append (s ∷ []) sorts) ∙ append_assoc (reverse sorts) (s ∷ []) v) in
      subst (λ (ss : List ℕ). Sorted w ss a) moved (under_closed sorts (s ∷ v) a (omega arith) (sorted_of_all w v 2147483647 2147483647 s (closed_by sorts a) (omega arith) (omega arith) r))

  module _ (v : List ℕ) where
    atom_fits : (a : AtomOf) → is_sorted w v (form_of_atom a) ≡ is_sorted_atom w v a
    atom_fits (Pred p ts) = is_sorted-Atom w v p ts
    atom_fits (Equation l r) = is_sorted-Eq w v l r
    atom_fits True = is_sorted-And w v []
    atom_fits False = is_sorted-Or w v []

    signed_fits : (g : Bool) (a : AtomOf) → is_sorted w v (signed g (form_of_atom a)) ≡ is_sorted_atom w v a
    signed_fits true a = atom_fits a
    signed_fits false a = is_sorted-Not w v (form_of_atom a) ∙ atom_fits a

    pub lit_fits : (l : Lit) → is_sorted w v (form_of_lit l) ≡ is_sorted_atom w v l.atom
    lit_fits l = signed_fits l.positive l.atom

    lits_fit : (lits : List Lit) → AllByRecursion (Sorted w v) (map form_of_lit lits) → AllByRecursion (λ (l : Lit). is_sorted_atom w v l.atom ≡ true) lits
    lits_fit [] all = tt
    lits_fit (l ∷ lits) all = (sym (lit_fits l) ∙ all.0.fits, lits_fit lits all.1)

    -- the literals of a well-sorted body
    body_fits : (b : Bool) (lits : List Lit) → (b ≡ false → length lits ≡ 1) → Sorted w v (body_of b lits) → AllByRecursion (λ (l : Lit). is_sorted_atom w v l.atom ≡ true) lits
    body_fits true lits alone r = lits_fit lits (sorted_of_or w v 2147483647 (map form_of_lit lits) r)
    body_fits false [] alone r = tt
    body_fits false (l ∷ []) alone r = (sym (lit_fits l) ∙ r.fits, tt)
    body_fits false (l ∷ k ∷ lits) alone r = absurd (omega (arith, alone refl))

    pub body_sorted : (b : Bool) (lits : List Lit) → (b ≡ false → length lits ≡ 1) → Sorted w v (body_of b lits) → AreSorted w v lits
    body_sorted b lits alone r = record { fits = All-from_recursion (λ (l : Lit). is_sorted_atom w v l.atom ≡ true) lits (body_fits b lits alone r) }

    atom_depth : (a : AtomOf) → binder_depth (form_of_atom a) ≡ 0
    atom_depth (Pred p ts) = binder_depth-Atom p ts
    atom_depth (Equation l r) = binder_depth-Eq l r
    atom_depth True = binder_depth-And []
    atom_depth False = binder_depth-Or []

    signed_depth : (g : Bool) (a : AtomOf) → binder_depth (signed g (form_of_atom a)) ≡ 0
    signed_depth true a = atom_depth a
    signed_depth false a = binder_depth-Not (form_of_atom a) ∙ atom_depth a

    pub lit_sorted : (l : Lit) → IsScope w v → is_sorted_atom w v l.atom ≡ true → Sorted w v (form_of_lit l)
    lit_sorted l sc e = record { scope_fits = sc; few_binders = omega (arith, signed_depth l.positive l.atom); fits = lit_fits l ∙ e }

    pub place_sorted : (lits : List Lit) (i : ℕ) (l : Lit) → IsScope w v → AreSorted w v lits → slice_get lits i ≡ Some l → Sorted w v (form_of_lit l)
    place_sorted lits i l sc sorted at = lit_sorted l sc (member_of (λ (k : Lit). is_sorted_atom w v k.atom ≡ true) lits i l (recursion_from_All (λ (k : Lit). is_sorted_atom w v k.atom ≡ true) lits sorted.fits) at)

    signed_same : (g x : Bool) (a : AtomOf) → is_sorted w v (signed g (form_of_atom a)) ≡ is_sorted w v (signed x (form_of_atom a))
    signed_same g x a = signed_fits g a ∙ sym (signed_fits x a)

    pub negated_sorted : (l : Lit) → Sorted w v (form_of_lit l) → Sorted w v (form_of_lit (negated l))
    negated_sorted l s = record { scope_fits = s.scope_fits; few_binders = omega (arith, signed_depth (not l.positive) l.atom); fits = signed_same (not l.positive) l.positive l.atom ∙ s.fits }

-- the member at a place, as code meets it
pub placed : {X : Type 0} (xs : List X) (i : ℕ) (r : X) → i < length xs → r ≡ get_or xs i r → slice_get xs i ≡ Some r
placed xs i r lt is = slice_get-get_or xs i r lt ∙ ap Some (sym is)
