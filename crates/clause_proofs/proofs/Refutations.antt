-- Falsehood by the literals of an instance.
use Rattle.std.specs.Prelude.{ℕ, ◌≡◌, ◌+◌, ◌<◌, ◌≤◌, Bool, true, false, not, List, [], ◌∷◌, ◌++◌, length, map, take, get_or, Some, slice_get, refl}
use Rattle.std.proofs.Common.{ap, sym, subst, ◌∙◌, arith, inl, inr, zero, suc, add-one}
use Rattle.fof_terms.specs.declared.form.Form.{Form, Not, Or}
use Rattle.fof_terms.specs.Vocabulary.{Vocabulary}
use Rattle.fof_terms.specs.Sorts.{IsScope, SortedTo, Sorted}
use Rattle.fof_terms.proofs.Scoped.{not_sorted, sorted_of_not, or_sorted}
use Rattle.clause_form.specs.declared.clause.AtomOf.{AtomOf}
use Rattle.clause_form.specs.declared.clause.AtomOf.TheVariants.{Pred, Eq as Equation, True, False}
use Rattle.clause_form.specs.declared.clause.Lit.{Lit}
use Rattle.clause_form.specs.Norm.{signed}
use Rattle.clause_form.specs.ClauseView.{form_of_atom, form_of_lit}
use Rattle.clause_form.specs.Covers.{IsSame, IsSameAtom, AreComplementary, IsCovered, turned_atom, negated}
use Rattle.kernel.specs.Statements.{Statements}
use Rattle.kernel.specs.Proves.{Proves}
use Rattle.kernel.specs.Rules.{ProveEach}
use Rattle.kernel.proofs.Building.{by_hyp, by_not_i, by_not_e, by_raa}
use Rattle.kernel.specs.declared.proof.Proof.{Proof, Hyp, NotI, NotE, Raa}
use Rattle.clause_proofs.specs.declared.opening.Opened.{Opened}
use Rattle.clause_proofs.proofs.TurnedSides.{same_back}
use Rattle.clause_proofs.specs.Bodies.{body_of}
use Rattle.clause_proofs.specs.Refuting.{theory_of, Refutes, ShowsUnder, IsDenial, IsSettled}
use Rattle.clause_proofs.specs.code.Refuting.{ShowsFrom, RefutesUnder, AllRefute}

positive_form : (l : Lit) → l.positive ≡ true → form_of_lit l ≡ form_of_atom l.atom
positive_form l e = ap (λ (g : Bool). signed g (form_of_atom l.atom)) e

negative_form : (l : Lit) → l.positive ≡ false → form_of_lit l ≡ Not (form_of_atom l.atom)
negative_form l e = ap (λ (g : Bool). signed g (form_of_atom l.atom)) e

pub denial_positive : (l : Lit) (p : Proof) → l.positive ≡ true → IsDenial l p (NotI (form_of_atom l.atom) p)
denial_positive l p e t v h s shown =
    let form = positive_form l e in
    let other : form_of_lit (negated l) ≡ Not (form_of_atom l.atom) = ap (λ (g : Bool). signed (not g) (form_of_atom l.atom)) e in
    subst (λ (a : Form). Proves t v h (NotI (form_of_atom l.atom) p) a) (sym other)
    (by_not_i t v h (form_of_atom l.atom) p (subst (Sorted t.vocabulary v) form s) (subst (λ (a : Form). Proves t v (a ∷ h) p (Or [])) form shown))

pub denial_negative : (l : Lit) (p : Proof) → l.positive ≡ false → IsDenial l p (Raa (form_of_atom l.atom) p)
denial_negative l p e t v h s shown =
    let form = negative_form l e in
    let other : form_of_lit (negated l) ≡ form_of_atom l.atom = ap (λ (g : Bool). signed (not g) (form_of_atom l.atom)) e in
    let sorted = sorted_of_not t.vocabulary v 2147483647 (form_of_atom l.atom) (subst (Sorted t.vocabulary v) form s) in
    subst (λ (a : Form). Proves t v h (Raa (form_of_atom l.atom) p) a) (sym other)
    (by_raa t v h (form_of_atom l.atom) p sorted (subst (λ (a : Form). Proves t v (a ∷ h) p (Or [])) form shown))

-- complementary literals
pub complementary_sign : (k l : Lit) → AreComplementary k l → l.positive ≡ not k.positive
complementary_sign k l (inl e) = sym (ap (λ (x : Lit). x.positive) e)
complementary_sign k l (inr e) = sym (ap (λ (x : Lit). x.positive) e)

pub complementary_atoms : (k l : Lit) → AreComplementary k l → IsSameAtom k.atom l.atom
complementary_atoms k l (inl e) = inl (ap (λ (x : Lit). x.atom) e)
complementary_atoms k l (inr e) = inr (ap (λ (x : Lit). x.atom) e)

module _ (w : Vocabulary) (v : List ℕ) where
  pub clash_positive : (g : Form) (k other : Lit) (own : Proof) → k.positive ≡ true → AreComplementary k other → Sorted w v (form_of_lit other) → ShowsFrom w v 0 (form_of_atom k.atom) (form_of_atom other.atom) own
      → RefutesUnder w v g (form_of_lit other) (form_of_lit k) (NotE (Hyp 1) own)
  clash_positive g k other own e c s shows fs h =
      let t = theory_of w fs in
      let hs = form_of_lit k ∷ form_of_lit other ∷ Not g ∷ h in
      let form : form_of_lit other ≡ Not (form_of_atom other.atom) = negative_form other (complementary_sign k other c ∙ ap not e) in
      by_not_e t v hs (Hyp 1) own (form_of_atom other.atom) (by_hyp t v hs 1 (Not (form_of_atom other.atom)) (subst (Sorted w v) form s) (ap Some form)) (shows fs hs (ap Some (positive_form k e)))

  pub clash_negative : (g : Form) (k other : Lit) (own : Proof) → k.positive ≡ false → AreComplementary k other → Sorted w v (form_of_lit k) → ShowsFrom w v 1 (form_of_atom other.atom) (form_of_atom k.atom) own
      → RefutesUnder w v g (form_of_lit other) (form_of_lit k) (NotE (Hyp 0) own)
  clash_negative g k other own e c s shows fs h =
      let t = theory_of w fs in
      let hs = form_of_lit k ∷ form_of_lit other ∷ Not g ∷ h in
      let form : form_of_lit k ≡ Not (form_of_atom k.atom) = negative_form k e in
      by_not_e t v hs (Hyp 0) own (form_of_atom k.atom) (by_hyp t v hs 0 (Not (form_of_atom k.atom)) (subst (Sorted w v) form s) (ap Some form)) (shows fs hs (ap Some (positive_form other (complementary_sign k other c ∙ ap not e))))

  pub refutes_under : (g b a : Form) (p : Proof) → Refutes w v 2 g a p → RefutesUnder w v g b a p
  refutes_under g b a p r fs h = r fs (a ∷ b ∷ Not g ∷ h) refl refl

  pub covered_then : (line : List Lit) (other k : Lit) → IsSettled line other k → (AreComplementary k other → ⊥) → IsCovered line k
  covered_then line other k (inl c) unlike = c
  covered_then line other k (inr c) unlike = absurd (unlike c)

  pub no_arms : (g b : Form) (lits : List Lit) → AllRefute w v g b (take 0 lits) []
  no_arms g b [] = tt
  no_arms g b (l ∷ lits) = tt

  pub more_arms : (g b : Form) (lits : List Lit) (arms : List Proof) (i : ℕ) (d : Lit) (p : Proof) → i < length lits → AllRefute w v g b (take i lits) arms → RefutesUnder w v g b (form_of_lit (get_or lits i d)) p
      → AllRefute w v g b (take (i + 1) lits) (arms ++ p ∷ [])
  more_arms g b [] arms i d p lt all r = absurd (omega arith)
  more_arms g b (l ∷ lits) [] zero d p lt all r = (r, no_arms g b lits)
  more_arms g b (l ∷ lits) (q ∷ arms) zero d p lt all r = absurd all
  more_arms g b (l ∷ lits) [] (suc i) d p lt all r = absurd all
  more_arms g b (l ∷ lits) (q ∷ arms) (suc i) d p lt all r =
      let rest = more_arms g b lits arms i d p (omega arith) all.1 r in
      rw add-one (all.0, rw add-one at rest)

  pub each_under : (g b : Form) (fs h : List Form) (lits : List Lit) (arms : List Proof) → AllRefute w v g b lits arms → ProveEach (theory_of w fs) v (b ∷ Not g ∷ h) arms (map form_of_lit lits) (Or [])
  each_under g b fs h [] [] all = tt
  each_under g b fs h [] (p ∷ arms) all = absurd all
  each_under g b fs h (l ∷ lits) [] all = absurd all
  each_under g b fs h (l ∷ lits) (p ∷ arms) all = (all.0 fs h, each_under g b fs h lits arms all.1)

  body_first : (lits : List Lit) (l : Lit) → slice_get lits 0 ≡ Some l → body_of false lits ≡ form_of_lit l
  body_first [] l at = cc
  body_first (k ∷ lits) l at = let same : k ≡ l = cc in ap form_of_lit same

  -- by the cases of a disjunction, and by one literal
  pub cases_refute : (g b none : Form) (is_or : Bool) (lits : List Lit) (arms : List Proof) (part q p : Proof) → q ≡ part → none ≡ Or [] → is_or ≡ true → IsScope w v → AllRefute w v g b lits arms
      → ((t : Statements) (v : List ℕ) (h as_ : List Form) → Sorted t.vocabulary v none → Proves t v h q (Or as_) → ProveEach t v h arms as_ none → Proves t v h p none)
      → (formulas h : List Form) → ShowsUnder w v formulas (b ∷ Not g ∷ h) (body_of is_or lits) part → ShowsUnder w v formulas (b ∷ Not g ∷ h) (Or []) p
  cases_refute g b none is_or lits arms part q p own is e sc all build formulas h shows =
      let t = theory_of w formulas in
      let hs = b ∷ Not g ∷ h in
      let choice : Proves t v hs q (Or (map form_of_lit lits)) = subst (λ (x : Proof). Proves t v hs x (Or (map form_of_lit lits))) (sym own) (subst (λ (x : Bool). Proves t v hs part (body_of x lits)) e shows) in
      let sorted : Sorted w v none = subst (Sorted w v) (sym is) (or_sorted w v 2147483647 sc [] tt) in
      subst (λ (x : Form). Proves t v hs p x) is (build t v hs (map form_of_lit lits) sorted choice (subst (λ (x : Form). ProveEach t v hs arms (map form_of_lit lits) x) (sym is) (each_under g b formulas h lits arms all)))

  pub one_refutes : (g b fact : Form) (is_or : Bool) (lits : List Lit) (l : Lit) (part q arm p : Proof) → q ≡ part → slice_get lits 0 ≡ Some l → is_or ≡ false → fact ≡ form_of_lit l → RefutesUnder w v g b (form_of_lit l) arm
      → ((t : Statements) (v : List ℕ) (h : List Form) (a : Form) → Proves t v h q fact → Proves t v (fact ∷ h) arm a → Proves t v h p a)
      → (formulas h : List Form) → ShowsUnder w v formulas (b ∷ Not g ∷ h) (body_of is_or lits) part → ShowsUnder w v formulas (b ∷ Not g ∷ h) (Or []) p
  one_refutes g b fact is_or lits l part q arm p own at e is under build formulas h shows =
      let t = theory_of w formulas in
      let hs = b ∷ Not g ∷ h in
      let shown : Proves t v hs part (form_of_lit l) = subst (λ (x : Form). Proves t v hs part x) (body_first lits l at) (subst (λ (x : Bool). Proves t v hs part (body_of x lits)) e shows) in
      build t v hs (Or []) (subst (λ (x : Proof). Proves t v hs x fact) (sym own) (subst (λ (x : Form). Proves t v hs part x) (sym is) shown)) (subst (λ (x : Form). Proves t v (x ∷ hs) arm (Or [])) (sym is) (under formulas h))
