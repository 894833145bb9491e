-- What is chosen takes the places of existential variables as the rule `skolem` has it.
use Rattle.std.specs.Prelude.{ℕ, zero, suc, ◌≡◌, ◌+◌, ◌<◌, ◌≤◌, ◌==◌, ◌||◌, nat_eq, nat_lt, cond, if◌then◌else◌, not, Bool, true, false, List, [], ◌∷◌, ◌++◌, length, take, filter, Option, Some, refl}
use Rattle.std.specs.List.{AllByRecursion as Each, IsDistinct, list_all}
use Rattle.std.proofs.Common.{ap, sym, subst, ◌∙◌, ◌⊎◌, inl, inr, arith}
use Rattle.std.proofs.lemmas.Bool.Decides.{nat_tests}
use Rattle.std.proofs.lemmas.Map.Keys.{IsDistinct-cons}
use Rattle.fof_terms.specs.declared.form.Form.{Form, Ex}
use Rattle.fof_terms.specs.Instance.{instance_of}
use Rattle.fof_terms.specs.Sorts.{is_sorted}
use Rattle.fof_terms.specs.Standing.{is_listed}
use Rattle.fof_terms.specs.Variables.{has_variable}
use Rattle.fof_terms.specs.Vocabulary.{Vocabulary}
use Rattle.fof_terms.proofs.LiftingLaws.{both}
use Rattle.fof_terms.proofs.SortsFacts.{is_sorted-And, is_sorted-Or, is_sorted-All, is_sorted-Ex}
use Rattle.fof_terms.proofs.VariablesFacts.{has_variable-Ex}
use Rattle.fof_terms.proofs.Walks.{instance_fits}
use Rattle.skolem_fresh.specs.declared.just.Use.{Use}
use Rattle.skolem_fresh.specs.SkolemRule.{MayReplace, IsSkolemized, AreSkolemized, an_atom as itself_atom, an_equation as itself_equation, a_negation as itself_negation, a_conjunction as with_and, a_disjunction as with_or, for_each as with_all, for_some as with_some, none as with_none, more as with_more}
use Rattle.skolem_fresh.specs.Uses.{value_of, AreArguments}
use Rattle.skolem_fresh.proofs.Distinct.{among_contains, distinct_none}
use Rattle.step_clauses.specs.Skolems.{nearest}
use Rattle.step_clauses.proofs.FreeFacts.{below}
use Rattle.function_choices.specs.declared.atoms.Placed.{Placed}
use Rattle.function_choices.specs.Arguments.{needed, argument_count, variables_for, arguments_of}
use Rattle.function_choices.specs.Order.{as_told, all_different, may_be_arguments}
use Rattle.function_choices.specs.Reading.{told}
use Rattle.function_choices.specs.Choices.{use_of, with_its_variable, MayStand, IsChosen, AreChosen, an_atom, an_equation, a_negation, a_conjunction, a_disjunction, for_each, for_some, none, more}

or_right : (a b : Bool) → b ≡ true → (a || b) ≡ true
or_right true b e = refl
or_right false b e = e

or_left : (a b : Bool) → a ≡ true → (a || b) ≡ true
or_left a b e = rw e refl

one_of : (a b : Bool) → (a || b) ≡ true → (a ≡ true) ⊎ (b ≡ true)
one_of true b e = inl refl
one_of false b e = inr e

own_number : (k : ℕ) → (k == k) ≡ true
own_number k = grind (arith, nat_tests)

same_number : (j k : ℕ) → (j == k) ≡ true → j ≡ k
same_number j k e = grind (arith, nat_tests)

below_or_last : (k n : ℕ) → k < suc n → (k < n) ⊎ (k ≡ n)
below_or_last zero zero h = inr refl
below_or_last zero (suc n) h = inl (omega arith)
below_or_last (suc k) zero h = absurd (omega arith)
below_or_last (suc k) (suc n) h = elim (below_or_last k n (omega arith)) [
  | inl g ↦ inl (omega arith)
  | inr g ↦ inr (ap suc g)
]

-- The nearest variables, and those of them that pass a test.
listed : (n k : ℕ) → k < n → is_listed (nearest n) k ≡ true
listed zero k h = absurd (omega arith)
listed (suc n) k h = elim (below_or_last k n h) [
  | inl e ↦ or_right (n == k) (is_listed (nearest n) k) (listed n k e)
  | inr e ↦ or_left (n == k) (is_listed (nearest n) k) (rw e (own_number n))
]

module _ (p : ℕ → Bool) where
  first_kept : (b : Bool) (x k : ℕ) (xs : List ℕ) → b ≡ true → (x == k) ≡ true → is_listed (cond b (x ∷ xs) xs) k ≡ true
  first_kept true x k xs e h = or_left (x == k) (is_listed xs k) h
  first_kept false x k xs e h = cc

  later_kept : (b : Bool) (x k : ℕ) (xs : List ℕ) → is_listed xs k ≡ true → is_listed (cond b (x ∷ xs) xs) k ≡ true
  later_kept true x k xs h = or_right (x == k) (is_listed xs k) h
  later_kept false x k xs h = h

  kept : (xs : List ℕ) (k : ℕ) → is_listed xs k ≡ true → p k ≡ true → is_listed (filter p xs) k ≡ true
  kept [] k h e = cc
  kept (x ∷ xs) k h e = elim (one_of (x == k) (is_listed xs k) h) [
    | inl here ↦ first_kept (p x) x k (filter p xs) (ap p (same_number x k here) ∙ e) here
    | inr there ↦ later_kept (p x) x k (filter p xs) (kept xs k there e)
  ]

  apart : (n k : ℕ) → k < n → nat_eq n k ≡ false
  apart n k h = grind (arith, nat_tests)

  also_apart : (n : ℕ) (b : Bool) (x : ℕ) (xs : List ℕ) → x < n → Each (λ y. nat_eq n y ≡ false) xs → Each (λ y. nat_eq n y ≡ false) (cond b (x ∷ xs) xs)
  also_apart n true x xs h all = (apart n x h, all)
  also_apart n false x xs h all = all

  all_apart : (n m : ℕ) → m ≤ n → Each (λ y. nat_eq n y ≡ false) (filter p (nearest m))
  all_apart n zero h = tt
  all_apart n (suc m) h = also_apart n (p m) m (filter p (nearest m)) (omega arith) (all_apart n m (omega arith))

  also_distinct : (b : Bool) (x : ℕ) (xs : List ℕ) → Each (λ y. nat_eq x y ≡ false) xs → IsDistinct nat_eq xs → IsDistinct nat_eq (cond b (x ∷ xs) xs)
  also_distinct true x xs all h = IsDistinct-cons nat_eq x xs all h
  also_distinct false x xs all h = h

  distinct : (n : ℕ) → IsDistinct nat_eq (filter p (nearest n))
  distinct zero = distinct_none
  distinct (suc n) = also_distinct (p n) n (filter p (nearest n)) (all_apart n n (omega arith)) (distinct n)

every : (xs : List ℕ) → filter (λ k. true) xs ≡ xs
every [] = refl
every (x ∷ xs) = ap (λ (ys : List ℕ). x ∷ ys) (every xs)

-- Lists that pass the test of arguments.
not_true : (b : Bool) → not b ≡ true → b ≡ false
not_true true e = sym e
not_true false e = refl

neither : (a b : Bool) → (a || b) ≡ false → (a ≡ false) × (b ≡ false)
neither true b e = absurd (cc)
neither false b e = (refl, e)

other_number : (x y : ℕ) → (y == x) ≡ false → nat_eq x y ≡ false
other_number x y e = grind (arith, nat_tests)

apart_from : (xs : List ℕ) (x : ℕ) → is_listed xs x ≡ false → Each (λ y. nat_eq x y ≡ false) xs
apart_from [] x e = tt
apart_from (y ∷ xs) x e = let parts = neither (y == x) (is_listed xs x) e in (other_number x y parts.0, apart_from xs x parts.1)

all_distinct : (xs : List ℕ) → all_different xs ≡ true → IsDistinct nat_eq xs
all_distinct [] e = distinct_none
all_distinct (x ∷ xs) e =
    let parts = both (not (is_listed xs x)) (all_different xs) e in
    IsDistinct-cons nat_eq x xs (apart_from xs x (not_true (is_listed xs x) parts.0)) (all_distinct xs parts.1)

among_all : (xs ys : List ℕ) (k : ℕ) → list_all (is_listed xs) ys ≡ true → is_listed ys k ≡ true → is_listed xs k ≡ true
among_all xs [] k h e = cc
among_all xs (y ∷ ys) k h e =
    let parts = both (is_listed xs y) (list_all (is_listed xs) ys) h in
    elim (one_of (y == k) (is_listed ys k) e) [
      | inl here ↦ subst (λ n. is_listed xs n ≡ true) (same_number y k here) parts.0
      | inr there ↦ among_all xs ys k parts.1 there
    ]

module _ (v : Vocabulary) (atoms : List Placed) (fs : List ℕ) where
  -- the variables that stand free in the formula are among those that are needed
  are_needed : (scope : List ℕ) (s : ℕ) (a : Form) → is_sorted v scope (Ex s a) ≡ true → (k : ℕ) → has_variable k (Ex s a) ≡ true → is_listed (needed (length scope) a) k ≡ true
  are_needed scope s a e k h = kept (λ j. has_variable (j + 1) a) (nearest (length scope)) k (listed (length scope) k (below v (Ex s a) scope k e h)) (sym (has_variable-Ex k s a) ∙ h)

  as_they_stand : (scope : List ℕ) (s : ℕ) (a : Form) (b : Bool) → is_sorted v scope (Ex s a) ≡ true → AreArguments (if b then nearest (length scope) else needed (length scope) a) (Ex s a)
  as_they_stand scope s a true e = record {
    distinct = subst (IsDistinct nat_eq) (every (nearest (length scope))) (distinct (λ k. true) (length scope));
    all_free = λ k h. among_contains (nearest (length scope)) k (listed (length scope) k (below v (Ex s a) scope k e h));
  }
  as_they_stand scope s a false e = record {
    distinct = distinct (λ k. has_variable (k + 1) a) (length scope);
    all_free = λ k h. among_contains (needed (length scope) a) k (are_needed scope s a e k h);
  }

  -- in the order that is told, where those may be arguments
  by_test : (b : Bool) (xs ys : List ℕ) (a : Form) → ((b ≡ true) → AreArguments xs a) → AreArguments ys a → AreArguments (if b then xs else ys) a
  by_test true xs ys a f h = f refl
  by_test false xs ys a f h = h

  arguments : (scope : List ℕ) (s : ℕ) (a : Form) (told : List (Option ℕ)) (f : ℕ) → is_sorted v scope (Ex s a) ≡ true → AreArguments (arguments_of v told (length scope) a f) (Ex s a)
  arguments scope s a told f e =
      let n = length scope in
      let ks : List ℕ = variables_for v n a f in
      let xs : List ℕ = as_told told ks in
      by_test (may_be_arguments (needed n a) xs) xs ks (Ex s a)
      (λ h.
      let parts = both (all_different xs) (list_all (is_listed xs) (needed n a)) h in
      record {
        distinct = all_distinct xs parts.0;
        all_free = λ k g. among_contains xs k (among_all xs (needed n a) k parts.1 (are_needed scope s a e k g));
      })
      (as_they_stand scope s a (argument_count v f == n) e)

  may_replace : (scope : List ℕ) (before : List Use) (s : ℕ) (a : Form) (f : ℕ) (u : Use) → u ≡ use_of v atoms (length scope) s a f → MayStand v atoms scope before s a f → is_sorted v scope (Ex s a) ≡ true → MayReplace v scope u s a
  may_replace scope before s a f u eu m e = subst (λ x. MayReplace v scope x s a) (sym eu) (record {
    sort = refl;
    arguments = arguments scope s a (told f (take 8 (with_its_variable a)) atoms) f e;
    fits = m.fits;
  })

  mutual
    pub replaced : (scope : List ℕ) (before uses : List Use) (a b : Form) → IsChosen v atoms fs scope before a uses b → is_sorted v scope a ≡ true → IsSkolemized v scope uses a b
    replaced scope before uses a b (an_atom sc bf p ts) e = itself_atom sc p ts
    replaced scope before uses a b (an_equation sc bf l r) e = itself_equation sc l r
    replaced scope before uses a b (a_negation sc bf c) e = itself_negation sc c
    replaced scope before uses a b (a_conjunction sc bf us as_ bs h) e = with_and sc us as_ bs (all_replaced sc bf us as_ bs h (sym (is_sorted-And v sc as_) ∙ e))
    replaced scope before uses a b (a_disjunction sc bf us as_ bs h) e = with_or sc us as_ bs (all_replaced sc bf us as_ bs h (sym (is_sorted-Or v sc as_) ∙ e))
    replaced scope before uses a b (for_each sc bf us s c d h) e =
        let parts = both (nat_lt s (length v.sorts)) (is_sorted v (s ∷ sc) c) (sym (is_sorted-All v sc s c) ∙ e) in
        with_all sc us s c d (replaced (s ∷ sc) bf us c d h parts.1)
    replaced scope before uses a b (for_some sc bf rest s c d f u eu first h) e =
        let parts = both (nat_lt s (length v.sorts)) (is_sorted v (s ∷ sc) c) (sym (is_sorted-Ex v sc s c) ∙ e) in
        let m = may_replace sc bf s c f u eu first.may e in
        let next : is_sorted v sc (instance_of c (value_of u)) ≡ true = instance_fits v (value_of u) s sc (m.fits ∙ ap Some m.sort) c [] ∙ parts.1 in
        with_some sc u rest s c d m (replaced sc (bf ++ u ∷ []) rest (instance_of c (value_of u)) d h next)

    all_replaced : (scope : List ℕ) (before uses : List Use) (as_ bs : List Form) → AreChosen v atoms fs scope before as_ uses bs → list_all (is_sorted v scope) as_ ≡ true → AreSkolemized v scope uses as_ bs
    all_replaced scope before uses as_ bs (none sc bf) e = with_none sc
    all_replaced scope before uses as_ bs (more sc bf first rest a b cs ds h g) e =
        let parts = both (is_sorted v sc a) (list_all (is_sorted v sc) cs) e in
        with_more sc first rest a b cs ds (replaced sc bf first a b h parts.0) (all_replaced sc (bf ++ first) rest cs ds g parts.1)
