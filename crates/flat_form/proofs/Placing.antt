-- Where the variables of the bodies of members stand among those of all.
use Rattle.std.specs.Prelude.{ℕ, zero, suc, ◌≡◌, ◌+◌, ◌-◌, ◌<◌, ◌≤◌, Bool, List, [], ◌∷◌, ◌++◌, length, map, get_or, refl}
use Rattle.std.proofs.Common.{ap, sym, ◌∙◌, arith, inl, inr, length-append}
use Rattle.std.proofs.lemmas.Bool.{lt-ltb, le-ltb}
use Rattle.fof_terms.specs.declared.form.Form.{Form}
use Rattle.fof_terms.specs.Lift.{lifted}
use Rattle.fof_terms.proofs.LiftingLaws.{below_or_above}
use Rattle.clause_form.specs.Norm.{node, join}
use Rattle.flat_form.specs.Flat.{Pulled, kept, sorts_of, bodies_of, pulled}
use Rattle.flat_form.specs.Renumbered.{renumbered}
use Rattle.flat_form.specs.Numbers.{listed}
use Rattle.flat_form.specs.code.Numbers.{placed}
use Rattle.flat_form.proofs.Bodies.{placed_bodies}
use Rattle.flat_form.proofs.PulledFacts.{node_sorts, node_body}
use Rattle.flat_form.proofs.Renumbering.{renumbering, same_numbers, itself, twice, lift_number, lift_below, lift_above, lift_is, join_walk}

pub listed_near : (numbers : List ℕ) (outside k : ℕ) → k < length numbers → listed numbers outside k ≡ get_or numbers (length numbers - 1 - k) 0
listed_near numbers outside k h = rw (lt-ltb k (length numbers) h) refl

pub listed_far : (numbers : List ℕ) (outside k : ℕ) → length numbers ≤ k → listed numbers outside k ≡ k - length numbers + outside
listed_far numbers outside k h = rw (le-ltb k (length numbers) h) refl

module _ (places : List ℕ) (total start n : ℕ) where
  pub placed_near : (k : ℕ) → k < n → placed places total start n k ≡ total - 1 - (start + (n - 1 - k))
  placed_near k h = rw (lt-ltb k n h) refl

  pub placed_far : (k : ℕ) → n ≤ k → placed places total start n k ≡ listed places total (k - n)
  placed_far k h = rw (le-ltb k n h) refl

-- a body of m variables among n ones, of which f stand before its own and e behind them
module _ (places : List ℕ) (total start n f m e : ℕ) (is : n ≡ f + m + e) where
  moved_number : (k : ℕ) → placed places total start n (lift_number e 0 (lift_number f m k)) ≡ placed places total (start + f) m k
  moved_number k =
      elim (below_or_above k m) [
        | inl h ↦
            let one : lift_number f m k ≡ k = lift_below f m k h in
            let two : lift_number e 0 k ≡ k + e = lift_above e 0 k (omega arith) in
            let same : total - 1 - (start + (n - 1 - (k + e))) ≡ total - 1 - (start + f + (m - 1 - k)) = omega arith in
            ap (λ j. placed places total start n (lift_number e 0 j)) one ∙ (ap (placed places total start n) two ∙ (placed_near places total start n (k + e) (omega arith) ∙ (same ∙ sym (placed_near places total (start + f) m k h))))
        | inr h ↦
            let one : lift_number f m k ≡ k + f = lift_above f m k h in
            let two : lift_number e 0 (k + f) ≡ k + f + e = lift_above e 0 (k + f) (omega arith) in
            let same : k + f + e - n ≡ k - m = omega arith in
            ap (λ j. placed places total start n (lift_number e 0 j)) one
            ∙ (ap (placed places total start n) two ∙ (placed_far places total start n (k + f + e) (omega arith) ∙ (ap (listed places total) same ∙ sym (placed_far places total (start + f) m k h))))
      ]

  pub moved_body : (a : Form) → renumbered (placed places total (start + f) m) 0 a ≡ renumbered (placed places total start n) 0 (lifted e 0 (lifted f m a))
  moved_body a =
      sym
      (ap (λ b. renumbered (placed places total start n) 0 (lifted e 0 b)) (lift_is f m a)
      ∙ (ap (renumbered (placed places total start n) 0) (lift_is e 0 (renumbered (lift_number f m) 0 a) ∙ twice (lift_number e 0) (lift_number f m) a 0)
      ∙ (twice (placed places total start n) (λ k. lift_number e 0 (lift_number f m k)) a 0 ∙ same_numbers _ _ moved_number a 0)))

pub bodies_placed : (places : List ℕ) (total start n f : ℕ) (ps : List Pulled) → n ≡ f + length (sorts_of ps) → placed_bodies places total (start + f) ps ≡ map (renumbered (placed places total start n) 0) (bodies_of f ps)
bodies_placed places total start n f [] is = refl
bodies_placed places total start n f (p ∷ ps) is =
    let sum : length (p.sorts ++ sorts_of ps) ≡ length p.sorts + length (sorts_of ps) = length-append p.sorts (sorts_of ps) in
    let same : start + f + length p.sorts ≡ start + (f + length p.sorts) = omega arith in
    let rest = bodies_placed places total start n (f + length p.sorts) ps (omega arith) in
    rw (moved_body places total start n f (length p.sorts) (length (sorts_of ps)) (omega arith) p.body, same, rest) refl

-- the body of a node
pub node_placed : (places : List ℕ) (total start : ℕ) (g : Bool) (as_ : List Form)
    → join g (placed_bodies places total start (map pulled as_)) ≡ renumbered (placed places total start (length (pulled (node g as_)).sorts)) 0 (pulled (node g as_)).body
node_placed places total start g as_ =
    let ps = map pulled as_ in
    let n = length (pulled (node g as_)).sorts in
    let count : n ≡ 0 + length (sorts_of ps) = ap length (node_sorts g as_) ∙ (omega arith) in
    let zero_more : start + 0 ≡ start = omega arith in
    let all : placed_bodies places total start ps ≡ map (renumbered (placed places total start n) 0) (bodies_of 0 ps) = (rw zero_more at (bodies_placed places total start n 0 ps count)) in
    ap (join g) all ∙ (sym (join_walk _ _ (renumbering (placed places total start n)) 0 g (bodies_of 0 ps)) ∙ ap (renumbered (placed places total start n) 0) (sym (node_body g as_)))

-- what isn't pulled apart
pub kept_placed : (places : List ℕ) (total start : ℕ) (a : Form) → pulled a ≡ kept a → renumbered (listed places total) 0 a ≡ renumbered (placed places total start (length (pulled a).sorts)) 0 (pulled a).body
kept_placed places total start a is =
    let same : (k : ℕ) → listed places total k ≡ placed places total start 0 k = λ k. let none : k - 0 ≡ k = omega arith in sym (placed_far places total start 0 k (omega arith) ∙ ap (listed places total) none) in
    rw is (same_numbers _ _ same a 0)

at_end : (xs : List ℕ) (x : ℕ) → get_or (xs ++ x ∷ []) (length xs) 0 ≡ x
at_end [] x = refl
at_end (y ∷ xs) x = at_end xs x

before_end : (xs : List ℕ) (x i : ℕ) → i < length xs → get_or (xs ++ x ∷ []) i 0 ≡ get_or xs i 0
before_end [] x i h = absurd (omega arith)
before_end (y ∷ xs) x zero h = refl
before_end (y ∷ xs) x (suc i) h = before_end xs x i (omega arith)

-- under one quantifier more
module _ (places more : List ℕ) (total start n : ℕ) (is : more ≡ places ++ (total - 1 - start) ∷ []) where
  count : length more ≡ length places + 1
  count = rw is (length-append places ((total - 1 - start) ∷ []) ∙ refl)

  beyond : (j i : ℕ) → j ≡ i + 1 → listed more total j ≡ listed places total i
  beyond j i e =
      elim (below_or_above i (length places)) [
        | inl h ↦
            let at : length more - 1 - j ≡ length places - 1 - i = omega (arith, count) in
            listed_near more total j (omega (arith, count))
            ∙ (ap (λ m. get_or more m 0) at
            ∙ (ap (λ xs. get_or xs (length places - 1 - i) 0) is ∙ (before_end places (total - 1 - start) (length places - 1 - i) (omega arith) ∙ sym (listed_near places total i h))))
        | inr h ↦
            let same : j - length more + total ≡ i - length places + total = omega (arith, count) in
            listed_far more total j (omega (arith, count)) ∙ (same ∙ sym (listed_far places total i h))
      ]

  under_number : (k : ℕ) → placed more total (start + 1) n k ≡ placed places total start (n + 1) k
  under_number k =
      elim (below_or_above k n) [
        | inl h ↦
            let same : total - 1 - (start + 1 + (n - 1 - k)) ≡ total - 1 - (start + (n + 1 - 1 - k)) = omega arith in
            placed_near more total (start + 1) n k h ∙ (same ∙ sym (placed_near places total start (n + 1) k (omega arith)))
        | inr h ↦
            elim (below_or_above n k) [
              | inl g ↦ placed_far more total (start + 1) n k h ∙ (beyond (k - n) (k - (n + 1)) (omega arith) ∙ sym (placed_far places total start (n + 1) k (omega arith)))
              | inr g ↦
                  let none : k - n ≡ 0 = omega arith in
                  let at_last : length more - 1 - 0 ≡ length places = omega (arith, count) in
                  let same : total - 1 - start ≡ total - 1 - (start + (n + 1 - 1 - k)) = omega arith in
                  placed_far more total (start + 1) n k h
                  ∙ (ap (listed more total) none
                  ∙ (listed_near more total 0 (omega (arith, count))
                  ∙ (ap (λ i. get_or more i 0) at_last
                  ∙ (ap (λ xs. get_or xs (length places) 0) is ∙ (at_end places (total - 1 - start) ∙ (same ∙ sym (placed_near places total start (n + 1) k (omega arith))))))))
            ]
      ]

  pub under_placed : (a : Form) → renumbered (placed more total (start + 1) n) 0 a ≡ renumbered (placed places total start (n + 1)) 0 a
  under_placed a = same_numbers _ _ under_number a 0

-- at the start
module _ (total : ℕ) where
  start_number : (k : ℕ) → placed [] total 0 total k ≡ k
  start_number k =
      elim (below_or_above k total) [
        | inl h ↦ placed_near [] total 0 total k h ∙ (omega arith)
        | inr h ↦ placed_far [] total 0 total k h ∙ (listed_far [] total (k - total) (omega arith) ∙ (omega arith))
      ]

  pub start_placed : (a : Form) → renumbered (placed [] total 0 total) 0 a ≡ a
  start_placed a = itself (placed [] total 0 total) start_number a 0
