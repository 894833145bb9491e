-- Literals that the line covers, refuted under the negation of its body.
use Rattle.std.specs.Prelude.{ℕ, ◌≡◌, ◌+◌, ◌<◌, ◌⊎◌, Bool, true, false, List, [], ◌∷◌, length, map, get_or, Some, slice_get, refl}
use Rattle.std.specs.Option.{option_map}
use Rattle.std.proofs.Common.{ap, sym, subst, ◌∙◌, arith, inl, inr, zero, suc}
use Rattle.std.proofs.lemmas.Option.{slice_get-map, slice_get_within, slice_get-get_or}
use Rattle.fof_terms.specs.declared.term.Term.{Term}
use Rattle.fof_terms.specs.declared.form.Form.{Form, Eq, Not, And, Or}
use Rattle.fof_terms.specs.Vocabulary.{Vocabulary}
use Rattle.fof_terms.specs.Sorts.{IsScope, SortedTo, Sorted}
use Rattle.fof_terms.proofs.Scoped.{not_sorted, sorted_of_not, sorted_of_eq, member_of, sorted_of_or}
use Rattle.clause_form.specs.declared.clause.AtomOf.{AtomOf}
use Rattle.clause_form.specs.declared.clause.AtomOf.TheVariants.{Pred, Eq as Equation, True, False}
use Rattle.clause_form.specs.declared.clause.Lit.{Lit}
use Rattle.clause_form.specs.Norm.{signed}
use Rattle.clause_form.specs.ClauseView.{form_of_atom, form_of_lit}
use Rattle.clause_form.specs.Covers.{IsSame, Denies, IsAbsurd, IsCovered}
use Rattle.kernel.specs.Statements.{Statements}
use Rattle.kernel.specs.Proves.{Proves}
use Rattle.kernel.proofs.Building.{by_hyp, by_refl, by_not_e, by_or_i, by_and_i}
use Rattle.kernel.specs.declared.proof.Proof.{Proof, Hyp, Refl, NotE, AndI}
use Rattle.clause_proofs.specs.declared.opening.Opened.{Opened}
use Rattle.clause_proofs.specs.Bodies.{body_of}
use Rattle.clause_proofs.specs.Refuting.{theory_of, Refutes, IsGoal, body, injected_tree}
use Rattle.clause_proofs.specs.code.Refuting.{ShowsFrom, IsAbsurdity}

pub injected_shows : (t : Statements) (v : List ℕ) (h : List Form) (b : Bool) (lits : List Lit) (k : ℕ) (l : Lit) (p : Proof) → (b ≡ false → length lits ≡ 1) → Sorted t.vocabulary v (body_of b lits) → slice_get lits k ≡ Some l
    → Proves t v h p (form_of_lit l) → Proves t v h (injected_tree b lits k p) (body_of b lits)
injected_shows t v h true lits k l p alone r at shown = by_or_i t v h (map form_of_lit lits) k p (form_of_lit l) r (slice_get-map form_of_lit lits k ∙ ap (option_map form_of_lit) at) shown
injected_shows t v h false [] k l p alone r at shown = cc
injected_shows t v h false (x ∷ []) zero l p alone r at shown = let same : x ≡ l = cc in subst (λ (y : Lit). Proves t v h p (form_of_lit y)) (sym same) shown
injected_shows t v h false (x ∷ []) (suc k) l p alone r at shown = cc
injected_shows t v h false (x ∷ y ∷ lits) k l p alone r at shown = absurd (omega (arith, alone refl))

module _ (w : Vocabulary) (v : List ℕ) where
  pub against_shows : (n : ℕ) (o : Opened) (lit l : Lit) (k : ℕ) (own : Proof) → IsGoal w v o → slice_get o.clause.lits k ≡ Some l → ShowsFrom w v 0 (form_of_lit lit) (form_of_lit l) own
      → Refutes w v n (body o) (form_of_lit lit) (NotE (Hyp n) (injected_tree o.is_or o.clause.lits k own))
  against_shows n o lit l k own g at shows fs h first denied =
      let t = theory_of w fs in
      by_not_e t v h (Hyp n) _ (body o) (by_hyp t v h n (Not (body o)) (not_sorted w v 2147483647 (body o) g.sorted) denied)
      (injected_shows t v h o.is_or o.clause.lits k l own g.alone g.sorted at (shows fs h first))

  signed_sorted : (g : Bool) (a : Form) → Sorted w v (signed g a) → Sorted w v a
  signed_sorted true a s = s
  signed_sorted false a s = sorted_of_not w v 2147483647 a s

  pub atom_sorted : (l : Lit) → Sorted w v (form_of_lit l) → Sorted w v (form_of_atom l.atom)
  atom_sorted l s = signed_sorted l.positive (form_of_atom l.atom) s

  line_member : (b : Bool) (lits : List Lit) (k : ℕ) (l : Lit) → (b ≡ false → length lits ≡ 1) → Sorted w v (body_of b lits) → slice_get lits k ≡ Some l → Sorted w v (form_of_lit l)
  line_member true lits k l alone r at = member_of (Sorted w v) (map form_of_lit lits) k (form_of_lit l) (sorted_of_or w v 2147483647 (map form_of_lit lits) r) (slice_get-map form_of_lit lits k ∙ ap (option_map form_of_lit) at)
  line_member false [] k l alone r at = cc
  line_member false (x ∷ []) zero l alone r at = let same : x ≡ l = cc in subst (λ (y : Lit). Sorted w v (form_of_lit y)) same r
  line_member false (x ∷ []) (suc k) l alone r at = cc
  line_member false (x ∷ y ∷ lits) k l alone r at = absurd (omega (arith, alone refl))

  pub in_line_sorted : (o : Opened) (k : ℕ) (l : Lit) → IsGoal w v o → slice_get o.clause.lits k ≡ Some l → Sorted w v (form_of_lit l)
  in_line_sorted o k l g at = line_member o.is_or o.clause.lits k l g.alone g.sorted at

  pub refutes_absurd : (n : ℕ) (g : Form) (l : Lit) (p : Proof) → IsAbsurdity l p → Sorted w v (form_of_lit l) → Refutes w v n g (form_of_lit l) p
  refutes_absurd n g l p a s fs h first denied = a (theory_of w fs) v h s first

-- literals that are false by their form
signed_at : (g x : Bool) (a b : AtomOf) → g ≡ x → a ≡ b → signed g (form_of_atom a) ≡ signed x (form_of_atom b)
signed_at g x a b e f = ap (λ (y : Bool). signed y (form_of_atom a)) e ∙ ap (λ (c : AtomOf). signed x (form_of_atom c)) f

hyp_at : (t : Statements) (v : List ℕ) (h : List Form) (a b : Form) → Sorted t.vocabulary v a → slice_get h 0 ≡ Some a → a ≡ b → Proves t v h (Hyp 0) b
hyp_at t v h a b s at e = subst (λ (c : Form). Proves t v h (Hyp 0) c) e (by_hyp t v h 0 a s at)

pub absurd_true : (l : Lit) → l.atom ≡ True → IsAbsurd l → IsAbsurdity l (NotE (Hyp 0) (AndI []))
absurd_true l e d t v h s at =
    let negative : l.positive ≡ false = subst (λ (a : AtomOf). Denies a l.positive) e d in
    by_not_e t v h (Hyp 0) (AndI []) (And []) (hyp_at t v h (form_of_lit l) (Not (And [])) s at (signed_at l.positive false l.atom True negative e)) (by_and_i t v h [] [] s.scope_fits tt)

pub absurd_false : (l : Lit) → l.atom ≡ False → IsAbsurd l → IsAbsurdity l (Hyp 0)
absurd_false l e d t v h s at =
    let positive : l.positive ≡ true = subst (λ (a : AtomOf). Denies a l.positive) e d in
    hyp_at t v h (form_of_lit l) (Or []) s at (signed_at l.positive true l.atom False positive e)

pub absurd_pred : (l : Lit) (q : ℕ) (ts : List Term) (p : Proof) → l.atom ≡ Pred q ts → IsAbsurd l → IsAbsurdity l p
absurd_pred l q ts p e d = absurd (subst (λ (a : AtomOf). Denies a l.positive) e d)

pub absurd_eq : (l : Lit) (x y : Term) → l.atom ≡ Equation x y → IsAbsurd l → IsAbsurdity l (NotE (Hyp 0) (Refl x))
absurd_eq l x y e d t v h s at =
    let both : Denies (Equation x y) l.positive = subst (λ (a : AtomOf). Denies a l.positive) e d in
    let form : form_of_lit l ≡ Not (Eq x x) = signed_at l.positive false l.atom (Equation x x) both.0 (e ∙ ap (λ (z : Term). Equation x z) (sym both.1)) in
    let sides = sorted_of_eq t.vocabulary v 2147483647 x x (sorted_of_not t.vocabulary v 2147483647 (Eq x x) (subst (Sorted t.vocabulary v) form s)) in
    by_not_e t v h (Hyp 0) (Refl x) (Eq x x) (hyp_at t v h (form_of_lit l) (Not (Eq x x)) s at form) (by_refl t v h x sides.0 s.scope_fits sides.1)

pub absurd_then : (lits : List Lit) (k : Lit) → IsCovered lits k → ((i : ℕ) (l : Lit) → slice_get lits i ≡ Some l → IsSame k l → ⊥) → IsAbsurd k
absurd_then lits k (inl h) none = absurd (none h.0 h.1 h.2 h.3)
absurd_then lits k (inr a) none = a

pub absurd_other : (l : Lit) → ((p : ℕ) × (ts : List Term) × (l.atom ≡ Pred p ts)) ⊎ (l.atom ≡ False) → IsAbsurd l → IsAbsurdity l (Hyp 0)
absurd_other l (inl h) d = absurd_pred l h.0 h.1 (Hyp 0) h.2 d
absurd_other l (inr h) d = absurd_false l h d

-- the literal at a place, as code meets it
pub there_at : (lits lent : List Lit) (k : ℕ) (l r : Lit) → lent ≡ lits → slice_get lits k ≡ Some l → r ≡ get_or lent k r → r ≡ l
there_at lits lent k l r same at is =
    let found : Some l ≡ Some (get_or lits k r) = sym at ∙ slice_get-get_or lits k r (slice_get_within lits k l at) in
    let value : l ≡ get_or lits k r = cc in
    is ∙ ap (λ (xs : List Lit). get_or xs k r) same ∙ sym value
