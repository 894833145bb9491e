-- Lemmas on what specs/Numbering defines.
use Rattle.std.specs.Prelude.{ℕ, ◌+◌, ◌-◌, ◌≡◌, ◌<◌, ◌≤◌, List, [], ◌∷◌, length, slice_get, Some, refl}
use Rattle.std.specs.List.{AllByRecursion}
use Rattle.std.proofs.Common.{ap, subst, ◌∙◌, arith, inl, inr, suc}
use Rattle.fof_terms.specs.declared.term.Term.{Var}
use Rattle.fof_terms.specs.declared.form.Form.{Form, All}
use Rattle.fof_terms.specs.Vocabulary.{Vocabulary}
use Rattle.fof_terms.specs.Lift.{lifted, lifted_term}
use Rattle.fof_terms.proofs.LiftFacts.{lifted-All}
use Rattle.fof_terms.specs.Instance.{instance_term, instance_at}
use Rattle.fof_terms.proofs.LiftingLaws.{below_or_above, stays, moves, here, smaller, greater}
use Rattle.fof_terms.proofs.SortsFacts.{sort_of_term-Var}
use Rattle.fof_terms.specs.Sorts.{IsScope, SortedTo, Sorted}
use Rattle.fof_terms.proofs.Scoped.{raised, all_sorted}
use Rattle.fof_terms.proofs.Walks.{both_terms, both_walks, lifting_term, lifting, placing_term, placing, same_terms, same_forms, same_depth}
use Rattle.clause_form.specs.ClauseView.{closed_by}
use Rattle.clause_form.specs.Reached.{around}
use Rattle.clause_form.proofs.ReachedFacts.{around_length, fits_over}
use Rattle.kernel.specs.Statements.{Statements}
use Rattle.kernel.specs.Proves.{Proves, all_over}
use Rattle.kernel.proofs.Building.{by_all_i, by_all_e}
use Rattle.kernel.specs.declared.proof.Proof.{Proof, AllE}
use Rattle.norm_proofs.specs.Numbering.{general, near}
use Rattle.derive_kit.proofs.Around.{all_around}

place_var : (m d k : ℕ) → instance_term (Var m) d (lifted_term (m + 1) (d + 1) (Var k)) ≡ lifted_term m d (Var k)
place_var m d k =
    elim (below_or_above k (d + 1)) [
      | inl h ↦
          elim (below_or_above k d) [
            | inl g ↦ rw (stays (m + 1) (d + 1) k h, stays m d k g) (smaller (Var m) d k g)
            | inr g ↦
                let same : m + d ≡ k + m = omega arith in
                rw (stays (m + 1) (d + 1) k h, here (Var m) d k (omega arith), moves d 0 m (omega arith), moves m d k g, same) refl
          ]
      | inr h ↦
          let same : k + (m + 1) - 1 ≡ k + m = omega arith in
          rw (moves (m + 1) (d + 1) k h, greater (Var m) d (k + (m + 1)) (omega arith), moves m d k (omega arith), same) refl
    ]

place_form : (m : ℕ) (a : Form) (d : ℕ) → instance_at (Var m) d (lifted (m + 1) (d + 1) a) ≡ lifted m d a
place_form m =
    same_forms _ _ _ _
    (both_walks _ _ _ _ (placing (Var m) (λ d. d) (λ d. refl)) (lifting (m + 1) (λ d. d + 1) (λ d. refl)))
    (lifting m (λ d. d) (λ d. refl))
    (λ d. same_terms _ _ (both_terms _ _ (placing_term (Var m) d) (lifting_term (m + 1) (d + 1))) (lifting_term m d) (place_var m d))

pub closed_sorted : (w : Vocabulary) (d : ℕ) (sorts v : List ℕ) (b : Form) → SortedTo d w (around sorts v) b → SortedTo (d + length sorts) w v (closed_by sorts b)
closed_sorted w d [] v b r = raised w v d (d + 0) b (omega arith) r
closed_sorted w d (s ∷ sorts) v b r =
    raised w v (d + length sorts + 1) (d + length (s ∷ sorts)) (All s (closed_by sorts b)) (omega arith) (all_sorted w v (d + length sorts) s (closed_by sorts b) (closed_sorted w d sorts (s ∷ v) b r))

pub by_general : (t : Statements) (d : ℕ) (sorts v : List ℕ) (h : List Form) (p : Proof) (b : Form) → d + length sorts ≤ 2147483647 → SortedTo d t.vocabulary (around sorts v) b
    → Proves t (around sorts v) (all_around sorts h) p b → Proves t v h (general sorts p) (closed_by sorts b)
by_general t d [] v h p b few r w = w
by_general t d (s ∷ sorts) v h p b few r w =
    by_all_i t v h s (closed_by sorts b) (general sorts p) (raised t.vocabulary v (d + length (s ∷ sorts)) 2147483647 (All s (closed_by sorts b)) few (closed_sorted t.vocabulary d (s ∷ sorts) v b r))
    (by_general t d sorts (s ∷ v) (all_over h) p b (omega arith) r w)

-- the variables from number e on have these sorts, that of the outermost first
abbrev pub StandAt : List ℕ → ℕ → List ℕ → Type 0
StandAt scope e [] = Unit {0}
StandAt scope e (s ∷ sorts) = (slice_get scope (e + length sorts) ≡ Some s) × StandAt scope e sorts

deep : (xs scope : List ℕ) (k : ℕ) → slice_get (around xs scope) (length xs + k) ≡ slice_get scope k
deep [] scope k = let same : 0 + k ≡ k = omega arith in rw same refl
deep (x ∷ xs) scope k = let same : length (x ∷ xs) + k ≡ length xs + suc k = omega arith in rw same (deep xs (x ∷ scope) (suc k))

pub stand_between : (near_ sorts far : List ℕ) → StandAt (around near_ (around sorts far)) (length near_) sorts
stand_between near_ [] far = tt
stand_between near_ (s ∷ sorts) far =
    let same : length sorts ≡ length sorts + 0 = omega arith in
    (deep near_ (around sorts (s ∷ far)) (length sorts) ∙ ap (λ n. slice_get (around sorts (s ∷ far)) n) same ∙ deep sorts (s ∷ far) 0, stand_between near_ sorts (s ∷ far))

-- a closed formula over e nearer variables, its own and f further ones, at its own
pub near_shows : (t : Statements) (scope : List ℕ) (h : List Form) (e f : ℕ) (sorts : List ℕ) (j : ℕ) (a : Form) (p : Proof) → StandAt scope e sorts
    → Proves t scope h p (lifted (e + length sorts) 0 (lifted f j (closed_by sorts a))) → Proves t scope h (near e (length sorts) p) (lifted e 0 (lifted f (j + length sorts) a))
near_shows t scope h e f [] j a p at w =
    let one : e + 0 ≡ e = omega arith in
    let two : j + 0 ≡ j = omega arith in
    rw two (rw one at w)
near_shows t scope h e f (s ∷ sorts) j a p at w =
    let b = closed_by sorts a in
    let m = e + length sorts in
    let c = lifted (m + 1) 1 (lifted f (j + 1) b) in
    let more : e + length (s ∷ sorts) ≡ m + 1 = omega arith in
    let form : lifted (e + length (s ∷ sorts)) 0 (lifted f j (All s b)) ≡ All s c = rw (more, lifted-All, lifted-All) refl in
    let inst : Proves t scope h (AllE (Var m) p) (instance_at (Var m) 0 c) = by_all_e t scope h (Var m) p s c (sort_of_term-Var t.vocabulary scope m ∙ at.0) (subst (λ (x : Form). Proves t scope h p x) form w) in
    let rest = near_shows t scope h e f sorts (j + 1) a (AllE (Var m) p) at.1 (subst (λ (x : Form). Proves t scope h (AllE (Var m) p) x) (place_form m (lifted f (j + 1) b) 0) inst) in
    let last : j + length (s ∷ sorts) ≡ j + 1 + length sorts = omega arith in
    rw last rest

-- a formula over the variables of these sorts
pub around_sorted : (w : Vocabulary) (new v : List ℕ) (a : Form) → IsScope w (around new v) → Sorted w v a → Sorted w (around new v) (lifted (length new) 0 a)
around_sorted w new v a sc s = record {
  scope_fits = sc;
  few_binders = rw (same_depth _ _ (lifting (length new) (λ d. d) (λ d. refl)) a 0) s.few_binders;
  fits = fits_over w new v a ∙ s.fits;
}

sorts_around : (w : Vocabulary) (sorts v : List ℕ) → AllByRecursion (λ s. s < length w.sorts) sorts → AllByRecursion (λ s. s < length w.sorts) v → AllByRecursion (λ s. s < length w.sorts) (around sorts v)
sorts_around w [] v all rest = rest
sorts_around w (s ∷ sorts) v all rest = sorts_around w sorts (s ∷ v) all.1 (all.0, rest)

pub around_scope : (w : Vocabulary) (sorts v : List ℕ) → length sorts + length v ≤ 2147483647 → AllByRecursion (λ s. s < length w.sorts) sorts → IsScope w v → IsScope w (around sorts v)
around_scope w sorts v room all sc = record { few_variables = omega (arith, around_length sorts v); sorts_exist = sorts_around w sorts v all sc.sorts_exist }
