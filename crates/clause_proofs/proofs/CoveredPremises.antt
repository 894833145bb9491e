-- Premises that a line covers.
use Rattle.std.specs.Prelude.{ℕ, ◌≡◌, ◌≤◌, List, [], ◌∷◌, length, slice_get, Option, Some, None, refl}
use Rattle.std.specs.Borrow.{Bor}
use Rattle.std.specs.Option.{option_map}
use Rattle.std.proofs.Common.{ap, sym, subst, ◌∙◌, arith, inl}
use Rattle.std.proofs.lemmas.List.{length-reverse}
use Rattle.std.proofs.lemmas.Option.{slice_get-map}
use Rattle.fof_terms.specs.declared.term.Term.{Term}
use Rattle.fof_terms.specs.declared.form.Form.{Form, And, Or, Not}
use Rattle.fof_terms.specs.Vocabulary.{Vocabulary}
use Rattle.fof_terms.specs.Scope.{scope_sorts}
use Rattle.fof_terms.proofs.ScopeFacts.{scope_sorts-Outside}
use Rattle.fof_terms.specs.declared.sorting.Scope.{Outside}
use Rattle.fof_terms.specs.Sorts.{IsScope, Sorted}
use Rattle.fof_terms.proofs.Scoped.{and_sorted}
use Rattle.clause_form.specs.declared.clause.AtomOf.TheVariants.{True}
use Rattle.clause_form.specs.declared.clause.Lit.{Lit}
use Rattle.clause_form.specs.declared.clause.Clause.{Clause}
use Rattle.clause_form.specs.ClauseView.{form_of_lit, stated}
use Rattle.clause_form.specs.Covers.{lit_image, scope_of, CoversBy, IsCovered}
use Rattle.clause_rules.specs.Steps.{AreCovered, images_of_parents, instances}
use Rattle.kernel.specs.Statements.{Statements}
use Rattle.kernel.specs.Proves.{Proves}
use Rattle.kernel.proofs.Building.{by_and_i}
use Rattle.kernel.specs.declared.proof.Proof.{Proof, AndI}
use Rattle.clause_proofs.specs.Refuting.{theory_of, AllSettled, RefutesBody, RefutesIn}

-- truth, which nothing contradicts
pub covered_settled : (line lits : List Lit) (other : Lit) → AreCovered line lits → AllSettled line other lits
covered_settled line lits other covered i k at = inl (covered i k at)

pub truth_sorted : (w : Vocabulary) (v : List ℕ) (other : Lit) → IsScope w v → other ≡ stated True → Sorted w v (form_of_lit other)
truth_sorted w v other sc is = subst (λ (l : Lit). Sorted w v (form_of_lit l)) (sym is) (and_sorted w v 2147483647 sc [] tt)

pub truth_refutes : (w : Vocabulary) (v : List ℕ) (g : Form) (other : Lit) (fact : Form) (truth rest p : Proof) → IsScope w v → other ≡ stated True → fact ≡ form_of_lit other → truth ≡ AndI []
    → ((t : Statements) (v : List ℕ) (h : List Form) (a : Form) → Proves t v h truth fact → Proves t v (fact ∷ h) rest a → Proves t v h p a)
    → (formulas : List Form) → RefutesIn w v formulas g (form_of_lit other) rest → RefutesBody w v formulas g p
truth_refutes w v g other fact truth rest p sc is e own build formulas refutes h =
    let t = theory_of w formulas in
    let hs = Not g ∷ h in
    let form : And [] ≡ fact = sym (e ∙ ap form_of_lit is) in
    let shown : Proves t v hs truth (And []) = subst (λ (q : Proof). Proves t v hs q (And [])) (sym own) (by_and_i t v hs [] [] sc tt) in
    build t v hs (Or []) (subst (λ (x : Form). Proves t v hs truth x) form shown) (subst (λ (x : Form). Proves t v (x ∷ hs) rest (Or [])) (sym e) (refutes h))

-- as code meets them
pub few_here : (lent : Bor (List ℕ)) (sorts : List ℕ) → lent.now ≡ sorts → length sorts ≤ 1000000000 → length (scope_sorts (Outside lent)) ≤ 1000000000
few_here lent sorts e few = omega (arith, ap length (scope_sorts-Outside lent), length-reverse lent.now, ap length e)

pub image_there : (s : ℕ → Term) (lits : List Lit) (i : ℕ) (k : Lit) (o : Option Lit) → slice_get lits i ≡ o → option_map (lit_image s) o ≡ Some k → (l : Lit) × (slice_get lits i ≡ Some l) × (lit_image s l ≡ k)
image_there s lits i k None e f = cc
image_there s lits i k (Some l) e f = (l, e, cc)

pub covers_here : (w : Vocabulary) (images : List Term) (c e x z : Clause) → CoversBy w (scope_of c) c.lits e (scope_of c) (images_of_parents e images) → x ≡ c → z ≡ e → AreCovered z.lits (instances (images_of_parents z images) x.lits)
covers_here w images c e x z covers f g =
    let own : AreCovered e.lits (instances (images_of_parents e images) c.lits) =
    λ i k at. let l = image_there (images_of_parents e images) c.lits i k (slice_get c.lits i) refl (sym (slice_get-map (lit_image (images_of_parents e images)) c.lits i) ∙ at) in
    subst (IsCovered e.lits) l.2 (covers.covered i l.0 l.1) in
    subst (λ (y : Clause). AreCovered y.lits (instances (images_of_parents y images) x.lits)) (sym g) (subst (λ (y : Clause). AreCovered e.lits (instances (images_of_parents e images) y.lits)) (sym f) own)
