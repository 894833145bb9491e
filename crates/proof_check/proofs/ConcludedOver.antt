-- What a node of quantifiers and equations concludes, from what its parts conclude.
use Rattle.std.specs.Prelude.{ℕ, ◌≡◌, ◌↔◌, ◌+◌, ◌≤◌, ◌<◌, ◌^◌, List, ◌∷◌, Some, None, Option, refl}
use Rattle.std.proofs.Common.{ap, sym, subst, ◌∙◌, arith}
use Rattle.fof_terms.specs.Vocabulary.{Vocabulary}
use Rattle.fof_terms.specs.declared.term.Term.{Term}
use Rattle.fof_terms.specs.declared.form.Form.{Form, Eq, All, Ex}
use Rattle.fof_terms.specs.Sorts.{IsScope, Sorted, SortedTo, sort_of_term, binder_depth}
use Rattle.fof_terms.proofs.SortsFacts.{binder_depth-All, binder_depth-Ex}
use Rattle.fof_terms.proofs.Scoped.{all_sorted, ex_sorted, sorted_of_eq, sorted_of_ex}
use Rattle.fof_terms.specs.Instance.{instance_at, instance_reach}
use Rattle.fof_terms.proofs.MoreReaches.{instance_reach_fits}
use Rattle.fof_terms.proofs.Trees.{All-injective, Ex-injective, Eq-injective}
use Rattle.kernel.specs.Statements.{Statements}
use Rattle.kernel.specs.Proves.{Proves, over, all_over}
use Rattle.kernel.proofs.RuleEquivalences.{Proves-AllI, Proves-AllE, Proves-ExI, Proves-ExE, Proves-Refl, Proves-Subst, Proves-Inhabit}
use Rattle.kernel.proofs.Building.{shown_sorted, by_all_i, by_all_e, by_ex_e, by_refl, by_subst, by_inhabit}
use Rattle.proof_check.specs.Concludes.{Concludes}
use Rattle.proof_check.specs.code.Concludes.{ConcludesUnder}
use Rattle.kernel.specs.declared.proof.Proof.{Proof, AllI, AllE, ExI, ExE, Refl, Subst, Inhabit}
use Rattle.proof_check.proofs.Concluded.{some_same, only}

-- the body of what holds for all, or of what there is one for, has fewer binders
fewer_all : (v : Vocabulary) (scope : List ℕ) (s : ℕ) (b : Form) → Sorted v scope (All s b) → binder_depth b ≤ 2147483646
fewer_all v scope s b r = let few : binder_depth b + 1 ≤ 2147483647 = rw binder_depth-All at r.few_binders in omega arith

fewer_ex : (v : Vocabulary) (scope : List ℕ) (s : ℕ) (b : Form) → Sorted v scope (Ex s b) → binder_depth b ≤ 2147483646
fewer_ex v scope s b r = let few : binder_depth b + 1 ≤ 2147483647 = rw binder_depth-Ex at r.few_binders in omega arith

fewer : (v : Vocabulary) (scope : List ℕ) (b : Form) → binder_depth b ≤ 2147483646 → Sorted v scope b → SortedTo 2147483646 v scope b
fewer v scope b few r = record { scope_fits = r.scope_fits; few_binders = few; fits = r.fits }

pub reach_of_all : (v : Vocabulary) (scope : List ℕ) (x : Term) (s : ℕ) (b : Form) → sort_of_term v scope x ≡ Some s → Sorted v scope (All s b) → instance_reach x 0 b < 2 ^ 32
reach_of_all v scope x s b e r = let few = fewer_all v scope s b r in instance_reach_fits v scope x s b e r.scope_fits.few_variables (omega arith)

pub reach_of_body : (v : Vocabulary) (scope : List ℕ) (x : Term) (s : ℕ) (b : Form) → IsScope v scope → sort_of_term v scope x ≡ Some s → Sorted v (s ∷ scope) b → instance_reach x 0 b < 2 ^ 32
reach_of_body v scope x s b sc e r = instance_reach_fits v scope x s b e sc.few_variables r.few_binders

pub right_sort : (v : Vocabulary) (scope : List ℕ) (l r : Term) (s : ℕ) → Sorted v scope (Eq l r) → sort_of_term v scope l ≡ Some s → sort_of_term v scope r ≡ Some s
right_sort v scope l r s fits e = let sides = sorted_of_eq v scope 2147483647 l r fits in sides.2 ∙ (sym sides.1 ∙ e)

module _ (t : Statements) (v : List ℕ) (h : List Form) where
  pub all_i_yes : (s : ℕ) (p : Proof) (shown r : Option Form) (b : Form) → Concludes t (s ∷ v) (all_over h) p shown → shown ≡ Some b → binder_depth b ≤ 2147483646 → r ≡ Some (All s b)
      → Concludes t v h (AllI s p) r
  all_i_yes s p shown r b co e few er a = (
    λ x.
        let w = (co b).0 e in
        let fits = all_sorted t.vocabulary v 2147483646 s b (fewer t.vocabulary (s ∷ v) b few (shown_sorted t (s ∷ v) (all_over h) p b w)) in
        subst (Proves t v h (AllI s p)) (some_same (sym er ∙ x)) (by_all_i t v h s b p fits w),
    λ w.
        let g = (Proves-AllI t v h s p a).0 w in
        let one : b ≡ g.1.0 = some_same (sym e ∙ (co g.1.0).1 g.1.2) in
        er ∙ ap Some (ap (All s) one ∙ sym g.1.1),
  )

  pub all_i_no : (s : ℕ) (p : Proof) (shown : Option Form) (b : Form) → Concludes t (s ∷ v) (all_over h) p shown → shown ≡ Some b → (binder_depth b ≤ 2147483646 → ⊥) → Concludes t v h (AllI s p) None
  all_i_no s p shown b co e none a = (
    λ x. cc,
    λ w.
        let g = (Proves-AllI t v h s p a).0 w in
        let one : b ≡ g.1.0 = some_same (sym e ∙ (co g.1.0).1 g.1.2) in
        absurd (none (subst (λ c. binder_depth c ≤ 2147483646) (sym one) (fewer_all t.vocabulary v s g.1.0 (subst (Sorted t.vocabulary v) g.1.1 g.0)))),
  )

  pub all_i_none : (s : ℕ) (p : Proof) (shown : Option Form) → Concludes t (s ∷ v) (all_over h) p shown → shown ≡ None → Concludes t v h (AllI s p) None
  all_i_none s p shown co e a = (
    λ x. cc,
    λ w. let g = (Proves-AllI t v h s p a).0 w in let both : None ≡ Some g.1.0 = sym e ∙ (co g.1.0).1 g.1.2 in cc,
  )

  pub all_e_yes : (y : Term) (p : Proof) (shown r : Option Form) (s : ℕ) (b : Form) → Concludes t v h p shown → shown ≡ Some (All s b) → sort_of_term t.vocabulary v y ≡ Some s
      → r ≡ Some (instance_at y 0 b) → Concludes t v h (AllE y p) r
  all_e_yes y p shown r s b cp e es er a = (
    λ x. subst (Proves t v h (AllE y p)) (some_same (sym er ∙ x)) (by_all_e t v h y p s b es ((cp (All s b)).0 e)),
    λ w.
        let g = ((Proves-AllE t v h y p a).0 w).1 in
        let one = All-injective s g.0 b g.1 (only t v h p shown (All s b) (All g.0 g.1) cp e g.2) in
        er ∙ ap Some (ap (instance_at y 0) one.1 ∙ sym g.4),
  )

  pub all_e_no : (y : Term) (p : Proof) (shown : Option Form) (s : ℕ) (b : Form) → Concludes t v h p shown → shown ≡ Some (All s b) → (sort_of_term t.vocabulary v y ≡ Some s → ⊥)
      → Concludes t v h (AllE y p) None
  all_e_no y p shown s b cp e none a = (
    λ x. cc,
    λ w.
        let g = ((Proves-AllE t v h y p a).0 w).1 in
        let one = All-injective s g.0 b g.1 (only t v h p shown (All s b) (All g.0 g.1) cp e g.2) in
        absurd (none (g.3 ∙ ap Some (sym one.0))),
  )

  pub all_e_none : (y : Term) (p : Proof) (shown : Option Form) → Concludes t v h p shown → ((s : ℕ) (b : Form) → shown ≡ Some (All s b) → ⊥) → Concludes t v h (AllE y p) None
  all_e_none y p shown cp none a = (λ x. cc, λ w. let g = ((Proves-AllE t v h y p a).0 w).1 in absurd (none g.0 g.1 ((cp (All g.0 g.1)).1 g.2)))

  pub ex_i_yes : (s : ℕ) (b : Form) (y : Term) (p : Proof) (shown r : Option Form) → Concludes t v h p shown → IsScope t.vocabulary v → Sorted t.vocabulary (s ∷ v) b → binder_depth b ≤ 2147483646
      → sort_of_term t.vocabulary v y ≡ Some s → shown ≡ Some (instance_at y 0 b) → r ≡ Some (Ex s b) → Concludes t v h (ExI s b y p) r
  ex_i_yes s b y p shown r cp sc body few es e er a = (
    λ x.
        let fits = ex_sorted t.vocabulary v 2147483646 s b (fewer t.vocabulary (s ∷ v) b few body) in
        subst (Proves t v h (ExI s b y p)) (some_same (sym er ∙ x)) ((Proves-ExI t v h s b y p (Ex s b)).1 (fits, refl, body, es, (cp (instance_at y 0 b)).0 e)),
    λ w. er ∙ ap Some (sym ((Proves-ExI t v h s b y p a).0 w).1),
  )

  pub ex_i_no : (s : ℕ) (b : Form) (y : Term) (p : Proof) (shown : Option Form) → Concludes t v h p shown
      → (Sorted t.vocabulary (s ∷ v) b → binder_depth b ≤ 2147483646 → sort_of_term t.vocabulary v y ≡ Some s → shown ≡ Some (instance_at y 0 b) → ⊥) → Concludes t v h (ExI s b y p) None
  ex_i_no s b y p shown cp none a = (
    λ x. cc,
    λ w.
        let g = (Proves-ExI t v h s b y p a).0 w in
        absurd (none g.2 (fewer_ex t.vocabulary v s b (subst (Sorted t.vocabulary v) g.1 g.0)) g.3 ((cp (instance_at y 0 b)).1 g.4)),
  )

  pub refl_yes : (y : Term) (r : Option Form) (s : ℕ) → IsScope t.vocabulary v → sort_of_term t.vocabulary v y ≡ Some s → r ≡ Some (Eq y y) → Concludes t v h (Refl y) r
  refl_yes y r s sc e er a = (
    λ x. subst (Proves t v h (Refl y)) (some_same (sym er ∙ x)) (by_refl t v h y s sc e),
    λ w. er ∙ ap Some (sym ((Proves-Refl t v h y a).0 w).1),
  )

  pub refl_no : (y : Term) → sort_of_term t.vocabulary v y ≡ None → Concludes t v h (Refl y) None
  refl_no y e a = (
    λ x. cc,
    λ w.
        let g = (Proves-Refl t v h y a).0 w in
        let sides = sorted_of_eq t.vocabulary v 2147483647 y y (subst (Sorted t.vocabulary v) g.1 g.0) in
        let both : None ≡ Some sides.0 = sym e ∙ sides.1 in
        cc,
  )

  pub subst_yes : (s : ℕ) (b : Form) (p q : Proof) (sides shown r : Option Form) (l m : Term) → Concludes t v h p sides → Concludes t v h q shown → sides ≡ Some (Eq l m)
      → sort_of_term t.vocabulary v l ≡ Some s → Sorted t.vocabulary (s ∷ v) b → shown ≡ Some (instance_at l 0 b) → r ≡ Some (instance_at m 0 b) → Concludes t v h (Subst s b p q) r
  subst_yes s b p q sides shown r l m cp cq e es body ei er a = (
    λ x. subst (Proves t v h (Subst s b p q)) (some_same (sym er ∙ x)) (by_subst t v h s b p q l m body ((cp (Eq l m)).0 e) es ((cq (instance_at l 0 b)).0 ei)),
    λ w.
        let g = ((Proves-Subst t v h s b p q a).0 w).2 in
        let one = Eq-injective l m g.0 g.1 (only t v h p sides (Eq l m) (Eq g.0 g.1) cp e g.2) in
        er ∙ ap Some (ap (λ y. instance_at y 0 b) one.1 ∙ sym g.5),
  )

  pub subst_no : (s : ℕ) (b : Form) (p q : Proof) (sides shown : Option Form) (l m : Term) → Concludes t v h p sides → Concludes t v h q shown → sides ≡ Some (Eq l m)
      → (sort_of_term t.vocabulary v l ≡ Some s → Sorted t.vocabulary (s ∷ v) b → shown ≡ Some (instance_at l 0 b) → ⊥) → Concludes t v h (Subst s b p q) None
  subst_no s b p q sides shown l m cp cq e none a = (
    λ x. cc,
    λ w.
        let whole = (Proves-Subst t v h s b p q a).0 w in
        let g = whole.2 in
        let one = (Eq-injective l m g.0 g.1 (only t v h p sides (Eq l m) (Eq g.0 g.1) cp e g.2)).0 in
        absurd (none (ap (sort_of_term t.vocabulary v) one ∙ g.3) whole.1 ((cq (instance_at g.0 0 b)).1 g.4 ∙ ap Some (ap (λ y. instance_at y 0 b) (sym one)))),
  )

  pub subst_none : (s : ℕ) (b : Form) (p q : Proof) (sides : Option Form) → Concludes t v h p sides → ((l m : Term) → sides ≡ Some (Eq l m) → ⊥) → Concludes t v h (Subst s b p q) None
  subst_none s b p q sides cp none a = (
    λ x. cc,
    λ w. let g = ((Proves-Subst t v h s b p q a).0 w).2 in absurd (none g.0 g.1 ((cp (Eq g.0 g.1)).1 g.2)),
  )

  -- a goal that was shown over one variable more
  abbrev pub SameOver : Form → Option Form → Option Form → Type 0
  SameOver g shown r = (a : Form) → (r ≡ Some a) ↔ ((a ≡ g) × Sorted t.vocabulary v g × (shown ≡ Some (over g)))

  pub ex_e_some : (g : Form) (p q : Proof) (shown rest r : Option Form) (s : ℕ) (b : Form) → Concludes t v h p shown → shown ≡ Some (Ex s b)
      → ConcludesUnder t (s ∷ v) (all_over h) b q rest → SameOver g rest r → Concludes t v h (ExE g p q) r
  ex_e_some g p q shown rest r s b cp e cu same a = (
    λ x.
        let k = (same a).0 x in
        subst (Proves t v h (ExE g p q)) (sym k.0) (by_ex_e t v h g p q s b k.1 ((cp (Ex s b)).0 e) ((cu (over g)).0 k.2).1),
    λ w.
        let w' = (Proves-ExE t v h g p q a).0 w in
        let i = w'.2 in
        let one = Ex-injective s i.0 b i.1 (only t v h p shown (Ex s b) (Ex i.0 i.1) cp e i.2) in
        let inner : Proves t (s ∷ v) (b ∷ all_over h) q (over a) =
        subst (λ x. Proves t (x ∷ v) (b ∷ all_over h) q (over a)) (sym one.0) (subst (λ x. Proves t (i.0 ∷ v) (x ∷ all_over h) q (over a)) (sym one.1) i.3) in
        let scope = (shown_sorted t (s ∷ v) (b ∷ all_over h) q (over a) inner).scope_fits in
        let body = sorted_of_ex t.vocabulary v 2147483647 2147483647 s b (omega arith) (omega (arith, scope.few_variables)) (shown_sorted t v h p (Ex s b) ((cp (Ex s b)).0 e)) in
        (same a).1 (w'.1, subst (Sorted t.vocabulary v) w'.1 w'.0, (cu (over g)).1 (body, subst (λ x. Proves t (s ∷ v) (b ∷ all_over h) q (over x)) w'.1 inner)),
  )

  pub ex_e_none : (g : Form) (p q : Proof) (shown : Option Form) → Concludes t v h p shown → ((s : ℕ) (b : Form) → shown ≡ Some (Ex s b) → ⊥) → Concludes t v h (ExE g p q) None
  ex_e_none g p q shown cp none a = (λ x. cc, λ w. let i = ((Proves-ExE t v h g p q a).0 w).2 in absurd (none i.0 i.1 ((cp (Ex i.0 i.1)).1 i.2)))

  pub inhabit_shown : (s : ℕ) (g : Form) (p : Proof) (shown r : Option Form) → Concludes t (s ∷ v) (all_over h) p shown → SameOver g shown r → Concludes t v h (Inhabit s g p) r
  inhabit_shown s g p shown r co same a = (
    λ x. let k = (same a).0 x in subst (Proves t v h (Inhabit s g p)) (sym k.0) (by_inhabit t v h s g p ((co (over g)).0 k.2)),
    λ w.
        let i = (Proves-Inhabit t v h s g p a).0 w in
        (same a).1 (i.1, subst (Sorted t.vocabulary v) i.1 i.0, (co (over g)).1 (subst (λ x. Proves t (s ∷ v) (all_over h) p (over x)) i.1 i.2)),
  )
