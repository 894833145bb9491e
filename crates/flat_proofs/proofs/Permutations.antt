-- Between the quantifiers that are pulled out, in their own order, and the same in the order of their variables.
use Rattle.std.specs.Prelude.{ℕ, suc, ◌≡◌, ◌+◌, ◌-◌, ◌<◌, ◌≤◌, ◌==◌, nat_lt, if◌then◌else◌, List, [], ◌∷◌, length, Some, slice_get, get_or, refl}
use Rattle.std.proofs.Common.{ap, sym, subst, ◌∙◌, arith, inl, inr}
use Rattle.std.proofs.lemmas.Bool.{lt-ltb, le-ltb, eq-eqb, ne_eqb}
use Rattle.fof_terms.specs.declared.term.Term.{Var}
use Rattle.fof_terms.specs.declared.form.Form.{Form, All}
use Rattle.fof_terms.specs.Instance.{instance_term, instance_at}
use Rattle.fof_terms.proofs.InstanceFacts.{instance_at-All}
use Rattle.fof_terms.proofs.LiftingLaws.{below_or_above, moves, here, smaller, greater}
use Rattle.fof_terms.proofs.SortsFacts.{sort_of_term-Var}
use Rattle.fof_terms.proofs.Walks.{placing, placing_term, same_terms, same_forms}
use Rattle.clause_form.specs.ClauseView.{closed_by}
use Rattle.kernel.specs.Statements.{Statements}
use Rattle.kernel.specs.Proves.{Proves}
use Rattle.kernel.proofs.Building.{by_all_e}
use Rattle.kernel.specs.declared.proof.Proof.{Proof, AllE}
use Rattle.flat_form.specs.Renumbered.{renumbered_term, renumbered}
use Rattle.flat_form.specs.Numbers.{listed}
use Rattle.flat_form.proofs.Placing.{listed_near, listed_far}
use Rattle.flat_form.proofs.Renumbering.{renumbering_term, bound, free, same_numbers, itself, twice}
use Rattle.flat_proofs.specs.code.Permuting.{at_numbers}
use Rattle.flat_proofs.proofs.NormWalk.{further}

-- the variables have these sorts
abbrev pub StandIn : List ℕ → List ℕ → List ℕ → Type 0
StandIn scope [] [] = Unit {0}
StandIn scope [] (s ∷ sorts) = ⊥
StandIn scope (k ∷ ks) [] = ⊥
StandIn scope (k ∷ ks) (s ∷ sorts) = (slice_get scope k ≡ Some s) × StandIn scope ks sorts

-- The instance at a variable renumbers.
abbrev placed_number : ℕ → ℕ → ℕ → ℕ
placed_number m n k = if nat_lt k n then k else (if k == n then m + n else k - 1)

module _ (m n : ℕ) where
  below : (k : ℕ) → k < n → placed_number m n k ≡ k
  below k h = rw (lt-ltb k n h) refl

  at : (k : ℕ) → k ≡ n → placed_number m n k ≡ m + n
  at k e = let le : n ≤ k = omega arith in rw (le-ltb k n le, eq-eqb k n e) refl

  above : (k : ℕ) → n < k → placed_number m n k ≡ k - 1
  above k h = let le : n ≤ k = omega arith in rw (le-ltb k n le, ne_eqb k n (λ e. omega arith)) refl

  place_one : (d k : ℕ) → instance_term (Var m) (n + d) (Var k) ≡ renumbered_term (placed_number m n) d (Var k)
  place_one d k =
      elim (below_or_above k d) [
        | inl h ↦ smaller (Var m) (n + d) k (omega arith) ∙ sym (bound (placed_number m n) d k h)
        | inr h ↦
            elim (below_or_above k (n + d)) [
              | inl g ↦
                  let same : k - d + d ≡ k = omega arith in
                  smaller (Var m) (n + d) k g ∙ sym (free (placed_number m n) d k h ∙ (ap (λ j. Var (j + d)) (below (k - d) (omega arith)) ∙ ap Var same))
              | inr g ↦
                  elim (below_or_above (n + d) k) [
                    | inl b ↦
                        let same : k - d - 1 + d ≡ k - 1 = omega arith in
                        greater (Var m) (n + d) k b ∙ sym (free (placed_number m n) d k h ∙ (ap (λ j. Var (j + d)) (above (k - d) (omega arith)) ∙ ap Var same))
                    | inr b ↦
                        let same : m + n + d ≡ m + (n + d) = omega arith in
                        here (Var m) (n + d) k (omega arith) ∙ (moves (n + d) 0 m (omega arith) ∙ sym (free (placed_number m n) d k h ∙ (ap (λ j. Var (j + d)) (at (k - d) (omega arith)) ∙ ap Var same)))
                  ]
            ]
      ]

  place_all : (a : Form) (d : ℕ) → instance_at (Var m) (n + d) a ≡ renumbered (placed_number m n) d a
  place_all = same_forms _ _ _ _ (placing (Var m) (λ d. n + d) (λ d. omega arith)) (further (placed_number m n) (λ d. d) (λ d. refl)) (λ d. same_terms _ _ (placing_term (Var m) (n + d)) (renumbering_term (placed_number m n) d) (place_one d))

  place_is : (a : Form) → instance_at (Var m) n a ≡ renumbered (placed_number m n) 0 a
  place_is a = let none : n + 0 ≡ n = omega arith in (rw none at (place_all a 0))

closed_instance : (m k : ℕ) (sorts : List ℕ) (a : Form) → instance_at (Var m) k (closed_by sorts a) ≡ closed_by sorts (instance_at (Var m) (k + length sorts) a)
closed_instance m k [] a = ap (λ n. instance_at (Var m) n a) (let same : k ≡ k + 0 = omega arith in same)
closed_instance m k (s ∷ sorts) a =
    instance_at-All (Var m) k s (closed_by sorts a)
    ∙ ap (All s) (closed_instance m (k + 1) sorts a ∙ ap (λ n. closed_by sorts (instance_at (Var m) n a)) (let same : k + 1 + length sorts ≡ k + length (s ∷ sorts) = omega arith in same))

next_number : (m : ℕ) (ks : List ℕ) (j : ℕ) → listed ks 0 (placed_number m (length ks) j) ≡ listed (m ∷ ks) 0 j
next_number m ks j =
    let n = length ks in
    elim (below_or_above j n) [
      | inl h ↦
          let next : suc n - 1 - j ≡ suc (n - 1 - j) = omega arith in
          ap (listed ks 0) (below m n j h) ∙ (listed_near ks 0 j h ∙ sym (listed_near (m ∷ ks) 0 j (omega arith) ∙ ap (λ i. get_or (m ∷ ks) i 0) next))
      | inr h ↦
          elim (below_or_above n j) [
            | inl g ↦
                let same : j - 1 - n + 0 ≡ j - suc n + 0 = omega arith in
                ap (listed ks 0) (above m n j g) ∙ (listed_far ks 0 (j - 1) (omega arith) ∙ (same ∙ sym (listed_far (m ∷ ks) 0 j (omega arith))))
            | inr g ↦
                let first : suc n - 1 - j ≡ 0 = omega arith in
                let same : m + n - n + 0 ≡ m = omega arith in
                ap (listed ks 0) (at m n j (omega arith)) ∙ (listed_far ks 0 (m + n) (omega arith) ∙ (same ∙ sym (listed_near (m ∷ ks) 0 j (omega arith) ∙ ap (λ i. get_or (m ∷ ks) i 0) first)))
          ]
    ]

same_length : (scope ks sorts : List ℕ) → StandIn scope ks sorts → length ks ≡ length sorts
same_length scope [] [] h = refl
same_length scope [] (s ∷ sorts) h = absurd h
same_length scope (k ∷ ks) [] h = absurd h
same_length scope (k ∷ ks) (s ∷ sorts) h = ap suc (same_length scope ks sorts h.1)

-- the instance at variables of these numbers
pub at_numbers_shows : (t : Statements) (scope : List ℕ) (h : List Form) (ks sorts : List ℕ) (a : Form) (p : Proof) → StandIn scope ks sorts → Proves t scope h p (closed_by sorts a)
    → Proves t scope h (at_numbers ks p) (renumbered (listed ks 0) 0 a)
at_numbers_shows t scope h [] [] a p at_ w =
    let own : (k : ℕ) → listed [] 0 k ≡ k = λ k. listed_far [] 0 k (omega arith) ∙ (omega arith) in
    subst (λ (b : Form). Proves t scope h p b) (sym (itself (listed [] 0) own a 0)) w
at_numbers_shows t scope h [] (s ∷ sorts) a p at_ w = absurd at_
at_numbers_shows t scope h (k ∷ ks) [] a p at_ w = absurd at_
at_numbers_shows t scope h (k ∷ ks) (s ∷ sorts) a p at_ w =
    let one = by_all_e t scope h (Var k) p s (closed_by sorts a) (sort_of_term-Var t.vocabulary scope k ∙ at_.0) w in
    let count : length sorts ≡ length ks = sym (same_length scope ks sorts at_.1) in
    let form : instance_at (Var k) 0 (closed_by sorts a) ≡ closed_by sorts (renumbered (placed_number k (length ks)) 0 a) =
    closed_instance k 0 sorts a ∙ ap (closed_by sorts) (ap (λ n. instance_at (Var k) n a) (let same : 0 + length sorts ≡ length ks = omega arith in same) ∙ place_is k (length ks) a) in
    let rest = at_numbers_shows t scope h ks sorts (renumbered (placed_number k (length ks)) 0 a) (AllE (Var k) p) at_.1 (subst (λ (b : Form). Proves t scope h (AllE (Var k) p) b) form one) in
    subst (λ (b : Form). Proves t scope h (at_numbers ks (AllE (Var k) p)) b) (twice (listed ks 0) (placed_number k (length ks)) a 0 ∙ same_numbers _ _ (next_number k ks) a 0) rest
