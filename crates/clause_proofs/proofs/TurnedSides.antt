-- Equations turned round, and literals that are the same up to their sides.
use Rattle.std.specs.Prelude.{ℕ, ◌≡◌, ◌+◌, ◌<◌, ◌^◌, ◌↔◌, ◌⊎◌, IsTrue, Bool, true, false, not, List, [], ◌∷◌, length, max, Some, slice_get, refl}
use Rattle.std.proofs.Common.{ap, sym, subst, ◌∙◌, arith, inl, inr, add-one}
use Rattle.fof_terms.specs.declared.term.Term.{Term, Var}
use Rattle.fof_terms.specs.declared.form.Form.{Form, Eq, Not, Or}
use Rattle.fof_terms.specs.Vocabulary.{Vocabulary}
use Rattle.fof_terms.specs.Lift.{lifted_term, lift_term_reach, lift_reach}
use Rattle.fof_terms.proofs.LiftFacts.{lift_reach-Eq}
use Rattle.fof_terms.specs.Instance.{instance_at, instance_term}
use Rattle.fof_terms.proofs.InstanceFacts.{instance_at-Eq}
use Rattle.fof_terms.proofs.LiftingLaws.{here, instance_of_lifted}
use Rattle.fof_terms.specs.Sorts.{sort_of_term, IsScope, Sorted}
use Rattle.fof_terms.proofs.SortsFacts.{sort_of_term-Var}
use Rattle.fof_terms.proofs.Scoped.{eq_sorted, not_sorted, sorted_of_not}
use Rattle.fof_terms.proofs.Reaches.{lift_fits}
use Rattle.fof_terms.proofs.Walks.{lifted_sort}
use Rattle.clause_form.specs.declared.clause.AtomOf.{AtomOf}
use Rattle.clause_form.specs.declared.clause.AtomOf.TheVariants.{Pred, Eq as Equation, True, False}
use Rattle.clause_form.specs.declared.clause.Lit.{Lit}
use Rattle.clause_form.specs.Norm.{signed}
use Rattle.clause_form.specs.ClauseView.{form_of_atom, form_of_lit}
use Rattle.clause_form.specs.Covers.{IsSame, IsSameAtom, turned_atom, turned}
use Rattle.kernel.specs.Statements.{Statements}
use Rattle.kernel.specs.Proves.{Proves}
use Rattle.kernel.proofs.Building.{by_hyp, by_refl, by_subst, by_not_i, by_not_e}
use Rattle.kernel.specs.declared.proof.Proof.{Proof, Hyp, Refl, Subst, NotI, NotE}
use Rattle.clause_proofs.specs.Refuting.{theory_of}
use Rattle.clause_proofs.specs.Turning.{IsTurned}
use Rattle.clause_proofs.specs.code.Refuting.{ShowsFrom}
use Rattle.clause_proofs.proofs.Peeling.{lifted_nothing}

hole_at : (x l : Term) → instance_at x 0 (Eq (Var 0) (lifted_term 1 0 l)) ≡ Eq x l
hole_at x l =
    let filled : instance_term x 0 (Var 0) ≡ x = here x 0 0 refl ∙ lifted_nothing x in
    let own : instance_term x 0 (lifted_term 1 0 l) ≡ l = instance_of_lifted x l 0 0 (omega arith) ∙ lifted_nothing l in
    instance_at-Eq x 0 (Var 0) (lifted_term 1 0 l) ∙ (rw (filled, own) refl)

module _ (w : Vocabulary) (v : List ℕ) where
  pub side_reach : (l r : Term) → Sorted w v (Eq l r) → lift_term_reach 1 0 l < 2 ^ 32
  side_reach l r s = omega (arith, rw lift_reach-Eq at (lift_fits w v (Eq l r) s))

  pub turned_shows : (fs h : List Form) (l r : Term) (s : ℕ) (p : Proof) → length v < 2147483647 → Sorted w v (Eq l r) → sort_of_term w v l ≡ Some s → s < length w.sorts
      → Proves (theory_of w fs) v h p (Eq l r) → Proves (theory_of w fs) v h (Subst s (Eq (Var 0) (lifted_term 1 0 l)) p (Refl l)) (Eq r l)
  turned_shows fs h l r s p room sorted e there shown =
      let t = theory_of w fs in
      let hole = Eq (Var 0) (lifted_term 1 0 l) in
      let sc : IsScope w (s ∷ v) = record { few_variables = omega (arith, room); sorts_exist = (there, sorted.scope_fits.sorts_exist) } in
      let body : Sorted w (s ∷ v) hole = eq_sorted w (s ∷ v) 2147483647 sc (Var 0) (lifted_term 1 0 l) s (rw sort_of_term-Var refl) (lifted_sort w (s ∷ []) v [] l ∙ e) in
      let own : Proves t v h (Refl l) (instance_at l 0 hole) = subst (λ (a : Form). Proves t v h (Refl l) a) (sym (hole_at l l)) (by_refl t v h l s sorted.scope_fits e) in
      subst (λ (a : Form). Proves t v h (Subst s hole p (Refl l)) a) (hole_at r l) (by_subst t v h s hole p (Refl l) l r body shown e own)

  pub hyp_shows : (n : ℕ) (a b : Form) → Sorted w v a → a ≡ b → ShowsFrom w v n a b (Hyp n)
  hyp_shows n a b s e fs h at = subst (λ (c : Form). Proves (theory_of w fs) v h (Hyp n) c) e (by_hyp (theory_of w fs) v h n a s at)

  same_start : (l r : Term) (to : AtomOf) → IsSameAtom (Equation l r) to → ((x : Term) × (to ≡ Equation l x)) → Equation l r ≡ to
  same_start l r to (inl e) b = e
  same_start l r to (inr e) b = let both : Equation r l ≡ Equation l b.0 = e ∙ b.1 in let same : r ≡ l = cc in ap (λ (x : Term). Equation l x) same ∙ ap (λ (x : Term). Equation x l) (sym same) ∙ e

  other_start : (l r : Term) (to : AtomOf) → IsSameAtom (Equation l r) to → ((x : Term) × (to ≡ Equation l x) → ⊥) → Equation r l ≡ to
  other_start l r to (inl e) unlike = absurd (unlike (r, sym e))
  other_start l r to (inr e) unlike = e

  -- the atom by one that is the same
  pub same_side : (n : ℕ) (from to : AtomOf) (l r : Term) (p : Proof) → from ≡ Equation l r → IsSameAtom from to → Sorted w v (form_of_atom from) → ((x : Term) × (to ≡ Equation l x)) → p ≡ Hyp n
      → ShowsFrom w v n (form_of_atom from) (form_of_atom to) p
  same_side n from to l r p is same s b e =
      let eq : from ≡ to = is ∙ same_start l r to (subst (λ (a : AtomOf). IsSameAtom a to) is same) b in
      subst (λ (q : Proof). ShowsFrom w v n (form_of_atom from) (form_of_atom to) q) (sym e) (hyp_shows n (form_of_atom from) (form_of_atom to) s (ap form_of_atom eq))

  pub other_side : (n : ℕ) (from to : AtomOf) (l r : Term) (p made : Proof) → from ≡ Equation l r → IsSameAtom from to → Sorted w v (form_of_atom from) → length v < 2147483647
      → ((x : Term) × (to ≡ Equation l x) → ⊥) → p ≡ Hyp n → IsTurned w v l p made → ShowsFrom w v n (form_of_atom from) (form_of_atom to) made
  other_side n from to l r p made is same s room unlike e t fs h at =
      let back : Equation r l ≡ to = other_start l r to (subst (λ (a : AtomOf). IsSameAtom a to) is same) unlike in
      let form : form_of_atom from ≡ Eq l r = ap form_of_atom is in
      let shown : Proves (theory_of w fs) v h (Hyp n) (Eq l r) = by_hyp (theory_of w fs) v h n (Eq l r) (subst (Sorted w v) form s) (at ∙ ap Some form) in
      let turned = turned_shows fs h l r t.0 (Hyp n) room (subst (Sorted w v) form s) t.1 t.2 shown in
      let tree : made ≡ Subst t.0 (Eq (Var 0) (lifted_term 1 0 l)) (Hyp n) (Refl l) = t.3 ∙ ap (λ (q : Proof). Subst t.0 (Eq (Var 0) (lifted_term 1 0 l)) q (Refl l)) e in
      subst (λ (q : Proof). Proves (theory_of w fs) v h q (form_of_atom to)) (sym tree) (subst (λ (a : AtomOf). Proves (theory_of w fs) v h (Subst t.0 (Eq (Var 0) (lifted_term 1 0 l)) (Hyp n) (Refl l)) (form_of_atom a)) back turned)

  abbrev pub IsEquation : AtomOf → Type 0
  IsEquation a = (l r : Term) × (a ≡ Equation l r)

  fixed : (a : AtomOf) → (IsEquation a → ⊥) → turned_atom a ≡ a
  fixed (Pred p ts) unlike = refl
  fixed (Equation l r) unlike = absurd (unlike (l, r, refl))
  fixed True unlike = refl
  fixed False unlike = refl

  same_atom : (from to : AtomOf) → (IsEquation from → ⊥) → IsSameAtom from to → from ≡ to
  same_atom from to unlike (inl e) = e
  same_atom from to unlike (inr e) = sym (fixed from unlike) ∙ e

  pub no_sides : (n : ℕ) (from to : AtomOf) (p : Proof) → (IsEquation from → ⊥) → IsSameAtom from to → Sorted w v (form_of_atom from) → p ≡ Hyp n → ShowsFrom w v n (form_of_atom from) (form_of_atom to) p
  no_sides n from to p unlike same s e =
      subst (λ (q : Proof). ShowsFrom w v n (form_of_atom from) (form_of_atom to) q) (sym e) (hyp_shows n (form_of_atom from) (form_of_atom to) s (ap form_of_atom (same_atom from to unlike same)))

  -- the same of denials
  pub denial_shows : (n : ℕ) (from to : AtomOf) (own : Proof) → Sorted w v (form_of_atom from) → Sorted w v (form_of_atom to) → ShowsFrom w v 0 (form_of_atom to) (form_of_atom from) own
      → ShowsFrom w v n (Not (form_of_atom from)) (Not (form_of_atom to)) (NotI (form_of_atom to) (NotE (Hyp (n + 1)) own))
  denial_shows n from to own sf st shows fs h at =
      let t = theory_of w fs in
      let g = form_of_atom to ∷ h in
      by_not_i t v h (form_of_atom to) (NotE (Hyp (n + 1)) own) st
      (by_not_e t v g (Hyp (n + 1)) own (form_of_atom from) (by_hyp t v g (n + 1) (Not (form_of_atom from)) (not_sorted w v 2147483647 (form_of_atom from) sf) (rw add-one at)) (shows fs g refl))

-- tests, as code meets them
pub yes : {X : Type 0} (b : Bool) → b ≡ true → (IsTrue b ↔ X) → X
yes b e h = h.0 e

pub no_then : {X : Type 0} (b : Bool) → b ≡ false → (IsTrue b ↔ X) → X → ⊥
no_then b e h x = let t : IsTrue b = h.1 x in cc

module _ (w : Vocabulary) (v : List ℕ) where
  signed_sorted : (g : Bool) (a : Form) → Sorted w v (signed g a) → Sorted w v a
  signed_sorted true a s = s
  signed_sorted false a s = sorted_of_not w v 2147483647 a s

  pub atom_sorted : (l : Lit) → Sorted w v (form_of_lit l) → Sorted w v (form_of_atom l.atom)
  atom_sorted l s = signed_sorted l.positive (form_of_atom l.atom) s

turned_twice : (a : AtomOf) → turned_atom (turned_atom a) ≡ a
turned_twice (Pred p ts) = refl
turned_twice (Equation l r) = refl
turned_twice True = refl
turned_twice False = refl

pub same_back : (a b : AtomOf) → IsSameAtom a b → IsSameAtom b a
same_back a b (inl e) = inl (sym e)
same_back a b (inr e) = inr (ap turned_atom (sym e) ∙ turned_twice a)

pub same_atoms_of : (k l : Lit) → IsSame k l → IsSameAtom k.atom l.atom
same_atoms_of k l (inl e) = inl (ap (λ (x : Lit). x.atom) e)
same_atoms_of k l (inr e) = inr (ap (λ (x : Lit). x.atom) e)

pub same_sign : (k l : Lit) → IsSame k l → l.positive ≡ k.positive
same_sign k l (inl e) = sym (ap (λ (x : Lit). x.positive) e)
same_sign k l (inr e) = sym (ap (λ (x : Lit). x.positive) e)

-- a literal by a hypothesis that is the same
module _ (w : Vocabulary) (v : List ℕ) (n : ℕ) (k l : Lit) where
  pub positive_shows : (p : Proof) → k.positive ≡ true → IsSame k l → ShowsFrom w v n (form_of_atom k.atom) (form_of_atom l.atom) p → ShowsFrom w v n (form_of_lit k) (form_of_lit l) p
  positive_shows p e same shows fs h at =
      let fk : form_of_lit k ≡ form_of_atom k.atom = ap (λ (g : Bool). signed g (form_of_atom k.atom)) e in
      let fl : form_of_lit l ≡ form_of_atom l.atom = ap (λ (g : Bool). signed g (form_of_atom l.atom)) (same_sign k l same ∙ e) in
      subst (λ (a : Form). Proves (theory_of w fs) v h p a) (sym fl) (shows fs h (at ∙ ap Some fk))

  pub negative_shows : (p : Proof) → k.positive ≡ false → IsSame k l → ShowsFrom w v n (Not (form_of_atom k.atom)) (Not (form_of_atom l.atom)) p → ShowsFrom w v n (form_of_lit k) (form_of_lit l) p
  negative_shows p e same shows fs h at =
      let fk : form_of_lit k ≡ Not (form_of_atom k.atom) = ap (λ (g : Bool). signed g (form_of_atom k.atom)) e in
      let fl : form_of_lit l ≡ Not (form_of_atom l.atom) = ap (λ (g : Bool). signed g (form_of_atom l.atom)) (same_sign k l same ∙ e) in
      subst (λ (a : Form). Proves (theory_of w fs) v h p a) (sym fl) (shows fs h (at ∙ ap Some fk))

  same_lit : k.positive ≡ l.positive → k.atom ≡ l.atom → k ≡ l
  same_lit e f = ap (λ (g : Bool). record { positive = g; atom = k.atom }) e ∙ ap (λ (a : AtomOf). record { positive = l.positive; atom = a }) f

  -- where the atoms are one
  pub same_shows : (p : Proof) → IsSame k l → k.atom ≡ l.atom → Sorted w v (form_of_lit k) → p ≡ Hyp n → ShowsFrom w v n (form_of_lit k) (form_of_lit l) p
  same_shows p same e s is =
      subst (λ (q : Proof). ShowsFrom w v n (form_of_lit k) (form_of_lit l) q) (sym is) (hyp_shows w v n (form_of_lit k) (form_of_lit l) s (ap form_of_lit (same_lit (sym (same_sign k l same)) e)))

  pub started_shows : (x y : Term) (p : Proof) → k.atom ≡ Equation x y → IsSame k l → ((r : Term) × (l.atom ≡ Equation x r)) → Sorted w v (form_of_lit k) → p ≡ Hyp n → ShowsFrom w v n (form_of_lit k) (form_of_lit l) p
  started_shows x y p is same b s e = same_shows p same (is ∙ same_start w v x y l.atom (subst (λ (a : AtomOf). IsSameAtom a l.atom) is (same_atoms_of k l same)) b) s e

  pub unsided_shows : (p : Proof) → (IsEquation w v k.atom → ⊥) → IsSame k l → Sorted w v (form_of_lit k) → p ≡ Hyp n → ShowsFrom w v n (form_of_lit k) (form_of_lit l) p
  unsided_shows p unlike same s e = same_shows p same (same_atom w v k.atom l.atom unlike (same_atoms_of k l same)) s e

pub without_sides : (w : Vocabulary) (v : List ℕ) (a : AtomOf) → ((p : ℕ) × (ts : List Term) × (a ≡ Pred p ts)) ⊎ ((a ≡ True) ⊎ (a ≡ False)) → IsEquation w v a → ⊥
without_sides w v a (inl h) e = let same : Pred h.0 h.1 ≡ Equation e.0 e.1 = sym h.2 ∙ e.2 in cc
without_sides w v a (inr (inl h)) e = let same : True ≡ Equation e.0 e.1 = sym h ∙ e.2 in cc
without_sides w v a (inr (inr h)) e = let same : False ≡ Equation e.0 e.1 = sym h ∙ e.2 in cc
