-- Formulas over a function's arguments: their sorts, and how they are put back over the variables.
use Rattle.std.specs.Prelude.{ℕ, ◌≡◌, ◌+◌, ◌-◌, ◌<◌, ◌≤◌, ◌==◌, ◌||◌, ◌&&◌, nat_lt, Bool, true, false, if◌then◌else◌, List, [], ◌∷◌, ◌++◌, length, map, reverse, slice_get, Option, Some, None, refl}
use Rattle.std.specs.List.{AllByRecursion, list_any, list_all}
use Rattle.std.proofs.Common.{ap, sym, subst, ◌∙◌, arith, ◌⊎◌, inl, inr, zero, suc, append_assoc, add-one}
use Rattle.std.proofs.lemmas.Bool.Decides.{nat_tests}
use Rattle.std.proofs.lemmas.Bool.{lt-ltb, le-ltb}
use Rattle.std.proofs.lemmas.List.{reverse-append, length-reverse, append-nil}
use Rattle.std.proofs.lemmas.List.Folds.{list_all-map}
use Rattle.std.proofs.lemmas.Simd.{map-map}
use Rattle.fof_terms.specs.declared.term.Term.{Term, Var, App}
use Rattle.fof_terms.specs.declared.form.Form.{Form, Imp, All, Ex}
use Rattle.fof_terms.specs.Vocabulary.{Vocabulary}
use Rattle.fof_terms.proofs.Induction.{term_induction, form_induction}
use Rattle.fof_terms.proofs.LiftingLaws.{both, below_or_above, stays, moves, smaller, greater, here, instance_instance}
use Rattle.fof_terms.specs.Lift.{lifted_term}
use Rattle.fof_terms.specs.Instance.{instance_term, instance_at, instance_of}
use Rattle.fof_terms.proofs.InstanceFacts.{instance_term-App, instance_at-Imp, instance_at-All, instance_at-Ex}
use Rattle.fof_terms.specs.Sorts.{is_sort, are_sorts, applied, holds_of, sort_of_term, is_sorted}
use Rattle.fof_terms.proofs.SortsFacts.{sort_of_term-Var, sort_of_term-App, is_sorted-Atom, is_sorted-Eq, is_sorted-Not, is_sorted-And, is_sorted-Or, is_sorted-Imp, is_sorted-Iff, is_sorted-All, is_sorted-Ex}
use Rattle.fof_terms.proofs.Walks.{TermWalk, FormWalk, staying, staying_term, placing, placing_term, both_walks, both_terms}
use Rattle.kernel.specs.Entries.{for_all, variables}
use Rattle.derive_kit.specs.Instances.{IsInstance}
use Rattle.fof_terms.specs.Standing.{is_listed}
use Rattle.skolem_fresh.specs.code.Only.{only_in_term, only_has}
use Rattle.skolem_fresh.proofs.OnlyFacts.{only_in_term-Var, only_in_term-App, only_has-Atom, only_has-Eq, only_has-Not, only_has-And, only_has-Or, only_has-Imp, only_has-Iff, only_has-All, only_has-Ex}
use Rattle.skolem_fresh.specs.Renamed.{place_of, renamed_term, renamed}
use Rattle.skolem_fresh.proofs.RenamedFacts.{renamed_term-Var, renamed_term-App, renamed-Atom, renamed-Eq, renamed-Not, renamed-And, renamed-Or, renamed-Imp, renamed-Iff, renamed-All, renamed-Ex}
use Rattle.skolem_fresh.specs.Uses.{value}
use Rattle.skolem_fresh.proofs.Freely.{at, each, same_term_where, same_form_where}

pub renaming_term : (xs : List ℕ) (d : ℕ) → TermWalk (renamed_term xs d)
renaming_term xs d = record { app = λ s ts. renamed_term-App xs d s ts }

pub renaming : (xs : List ℕ) → FormWalk (renamed_term xs) (renamed xs)
renaming xs = record {
  atom = λ d p ts. renamed-Atom xs d p ts;
  eq = λ d l r. renamed-Eq xs d l r;
  not = λ d a. renamed-Not xs d a;
  and = λ d as_. renamed-And xs d as_;
  or = λ d as_. renamed-Or xs d as_;
  imp = λ d a b. renamed-Imp xs d a b;
  iff = λ d a b. renamed-Iff xs d a b;
  all = λ d s a. renamed-All xs d s a;
  ex = λ d s a. renamed-Ex xs d s a;
}

one_way : (a b : Bool) → (a || b) ≡ true → (a ≡ true) ⊎ (b ≡ true)
one_way true b e = inl refl
one_way false b e = inr e

either : (b : Bool) → (b ≡ true) ⊎ (b ≡ false)
either true = inl refl
either false = inr refl

pub sort_is : (r : Option ℕ) (s : ℕ) → is_sort r s ≡ true → r ≡ Some s
sort_is None s e = cc
sort_is (Some x) s e = let same : x ≡ s = grind (arith, nat_tests) in ap Some same

is_sort_of : (r : Option ℕ) (s : ℕ) → r ≡ Some s → is_sort r s ≡ true
is_sort_of r s e = let same : (s == s) ≡ true = grind (arith, nat_tests) in rw e same

only_there : (a b : Bool) → a ≡ false → (a || b) ≡ true → b ≡ true
only_there true b e h = cc
only_there false b e h = h

-- in a list turned round, the place behind the rest
behind : (ys back : List ℕ) (s n : ℕ) → length ys ≡ n → slice_get (ys ++ s ∷ back) n ≡ Some s
behind [] back s zero e = refl
behind [] back s (suc n) e = absurd (omega arith)
behind (y ∷ ys) back s zero e = absurd (omega arith)
behind (y ∷ ys) back s (suc n) e = behind ys back s n (omega arith)

at_turn : (xs back : List ℕ) (s : ℕ) → slice_get (reverse xs ++ s ∷ back) (length xs) ≡ Some s
at_turn xs back s = behind (reverse xs) back s (length xs) (length-reverse xs)

pub turn_more : (s : ℕ) (xs back : List ℕ) → reverse (s ∷ xs) ++ back ≡ reverse xs ++ s ∷ back
turn_more s xs back = ap (λ (ss : List ℕ). ss ++ back) (reverse-append (s ∷ []) xs) ∙ append_assoc (reverse xs) (s ∷ []) back

module _ (v : Vocabulary) (old : List ℕ) where
  abbrev pub sorts_at : List ℕ → List (Option ℕ)
  sorts_at xs = map (sort_of_term v old) (map Var xs)

  pub args_length : (xs args : List ℕ) → are_sorts (sorts_at xs) args ≡ true → length args ≡ length xs
  args_length [] [] e = refl
  args_length [] (s ∷ args) e = cc
  args_length (x ∷ xs) [] e = cc
  args_length (x ∷ xs) (s ∷ args) e = let rest = args_length xs args (both (is_sort (sort_of_term v old (Var x)) s) (are_sorts (sorts_at xs) args) e).1 in omega arith

  -- the place of a variable among the arguments has its sort
  pub place_sort : (xs args back : List ℕ) (k : ℕ) → are_sorts (sorts_at xs) args ≡ true → is_listed xs k ≡ true → slice_get (reverse args ++ back) (place_of xs k) ≡ slice_get old k
  place_sort [] args back k e h = cc
  place_sort (x ∷ xs) [] back k e h = cc
  place_sort (x ∷ xs) (s ∷ args) back k e h =
      let parts = both (is_sort (sort_of_term v old (Var x)) s) (are_sorts (sorts_at xs) args) e in
      let turned = turn_more s args back in
      elim (either (x == k)) [
        | inl on_ ↦
            let same : x ≡ k = grind (arith, nat_tests) in
            let sort : slice_get old x ≡ Some s = sym (sort_of_term-Var v old x) ∙ sort_is (sort_of_term v old (Var x)) s parts.0 in
            let many = args_length xs args parts.1 in
            rw (turned, on_, sym many, sym same, sort) (at_turn args back s)
        | inr off ↦
            let there : is_listed xs k ≡ true = only_there (x == k) (is_listed xs k) off h in
            rw (turned, off) (place_sort xs args (s ∷ back) k parts.1 there)
      ]

two_true : (a b : Bool) → a ≡ true → b ≡ true → (a && b) ≡ true
two_true a b e f = rw (e, f) refl

-- the arguments' own variables have the arguments' sorts
pub own_sorts : (v : Vocabulary) (args back : List ℕ) → are_sorts (map (sort_of_term v (reverse args ++ back)) (variables (length args))) args ≡ true
own_sorts v [] back = refl
own_sorts v (s ∷ args) back =
    let sc = reverse args ++ s ∷ back in
    let first : sort_of_term v sc (Var (length args)) ≡ Some s = sort_of_term-Var v sc (length args) ∙ at_turn args back s in
    let others : are_sorts (map (sort_of_term v sc) (variables (length args))) args ≡ true = own_sorts v args (s ∷ back) in
    let here : is_sort (sort_of_term v sc (Var (length args))) s ≡ true = is_sort_of (sort_of_term v sc (Var (length args))) s first in
    subst (λ (x : List ℕ). are_sorts (map (sort_of_term v x) (variables (suc (length args)))) (s ∷ args) ≡ true) (sym (turn_more s args back)) (two_true (is_sort (sort_of_term v sc (Var (length args))) s) (are_sorts (map (sort_of_term v sc) (variables (length args))) args) here others)

-- Sorts over the arguments, of what speaks only of these variables.
place_before : (front back back' : List ℕ) (k : ℕ) → k < length front → slice_get (front ++ back) k ≡ slice_get (front ++ back') k
place_before [] back back' k h = absurd (omega arith)
place_before (x ∷ front) back back' zero h = refl
place_before (x ∷ front) back back' (suc k) h = place_before front back back' k (omega arith)

place_behind : (front back : List ℕ) (k j : ℕ) → j ≡ k + length front → slice_get (front ++ back) j ≡ slice_get back k
place_behind [] back k j e = let same : j ≡ k = omega arith in rw same refl
place_behind (x ∷ front) back k zero e = absurd (omega arith)
place_behind (x ∷ front) back k (suc j) e = place_behind front back k j (omega arith)

map_where : {X Y : Type 0} (f g : X → Y) (p : X → Bool) (ys : List X) → AllByRecursion (λ x. p x ≡ true → f x ≡ g x) ys → list_all p ys ≡ true → map f ys ≡ map g ys
map_where f g p [] e h = refl
map_where f g p (y ∷ ys) e h = let parts = both (p y) (list_all p ys) h in rw (e.0 parts.0, map_where f g p ys e.1 parts.1) refl

all_where : {X : Type 0} (f g p : X → Bool) (ys : List X) → AllByRecursion (λ x. p x ≡ true → f x ≡ g x) ys → list_all p ys ≡ true → list_all f ys ≡ list_all g ys
all_where f g p [] e h = refl
all_where f g p (y ∷ ys) e h = let parts = both (p y) (list_all p ys) h in rw (e.0 parts.0, all_where f g p ys e.1 parts.1) refl

module _ (v : Vocabulary) (xs old new : List ℕ) (places : (k : ℕ) → is_listed xs k ≡ true → slice_get new (place_of xs k) ≡ slice_get old k) where
  renamed_var : (front : List ℕ) (k : ℕ) → (nat_lt k (length front) || is_listed xs (k - length front)) ≡ true
      → sort_of_term v (front ++ new) (renamed_term xs (length front) (Var k)) ≡ sort_of_term v (front ++ old) (Var k)
  renamed_var front k h =
      elim (below_or_above k (length front)) [
        | inl near ↦ rw (renamed_term-Var, lt-ltb k (length front) near, sort_of_term-Var, sort_of_term-Var) (place_before front new old k near)
        | inr far ↦
            let off : nat_lt k (length front) ≡ false = le-ltb k (length front) far in
            let there : is_listed xs (k - length front) ≡ true = only_there (nat_lt k (length front)) (is_listed xs (k - length front)) off h in
            rw (renamed_term-Var, off, sort_of_term-Var, sort_of_term-Var)
            (place_behind front new (place_of xs (k - length front)) (place_of xs (k - length front) + length front) (omega arith)
            ∙ places (k - length front) there
            ∙ sym (place_behind front old (k - length front) k (omega arith)))
      ]

  renamed_sort : (front : List ℕ) (t : Term) → only_in_term xs (length front) t ≡ true → sort_of_term v (front ++ new) (renamed_term xs (length front) t) ≡ sort_of_term v (front ++ old) t
  renamed_sort front = term_induction _ (record {
    var = λ k h. renamed_var front k (rw only_in_term-Var at h);
    app = λ f ts all h. rw (renamed_term-App, sort_of_term-App, sort_of_term-App, map-map)
        (ap (applied (slice_get v.symbols f)) (map_where (λ t. sort_of_term v (front ++ new) (renamed_term xs (length front) t)) (sort_of_term v (front ++ old)) (only_in_term xs (length front)) ts all (rw only_in_term-App at h)));
  })

  deeper : (front : List ℕ) (a : Form) → only_has xs (length front + 1) a ≡ true → only_has xs (suc (length front)) a ≡ true
  deeper front a h = rw add-one at h

  abbrev Kept : List ℕ → Form → Type 0
  Kept front a = only_has xs (length front) a ≡ true → is_sorted v (front ++ new) (renamed xs (length front) a) ≡ is_sorted v (front ++ old) a

  pub renamed_sorted : (a : Form) (front : List ℕ) → Kept front a
  renamed_sorted = form_induction _ (record {
    atom = λ p ts front h. rw (renamed-Atom, is_sorted-Atom, is_sorted-Atom, map-map)
        (ap (holds_of (slice_get v.symbols p)) (map_where (λ t. sort_of_term v (front ++ new) (renamed_term xs (length front) t)) (sort_of_term v (front ++ old)) (only_in_term xs (length front)) ts (each _ ts (renamed_sort front)) (rw only_has-Atom at h)));
    eq = λ l r front h.
        let parts = both (only_in_term xs (length front) l) (only_in_term xs (length front) r) (rw only_has-Eq at h) in
        rw (renamed-Eq, is_sorted-Eq, is_sorted-Eq, renamed_sort front l parts.0, renamed_sort front r parts.1) refl;
    not = λ a ih front h. rw (renamed-Not, is_sorted-Not, is_sorted-Not) (ih front (rw only_has-Not at h));
    and = λ as_ all front h. rw (renamed-And, is_sorted-And, is_sorted-And, list_all-map)
        (all_where (λ a. is_sorted v (front ++ new) (renamed xs (length front) a)) (is_sorted v (front ++ old)) (only_has xs (length front)) as_ (at Kept as_ front all) (rw only_has-And at h));
    or = λ as_ all front h. rw (renamed-Or, is_sorted-Or, is_sorted-Or, list_all-map)
        (all_where (λ a. is_sorted v (front ++ new) (renamed xs (length front) a)) (is_sorted v (front ++ old)) (only_has xs (length front)) as_ (at Kept as_ front all) (rw only_has-Or at h));
    imp = λ a b ih jh front h.
        let parts = both (only_has xs (length front) a) (only_has xs (length front) b) (rw only_has-Imp at h) in
        rw (renamed-Imp, is_sorted-Imp, is_sorted-Imp, ih front parts.0, jh front parts.1) refl;
    iff = λ a b ih jh front h.
        let parts = both (only_has xs (length front) a) (only_has xs (length front) b) (rw only_has-Iff at h) in
        rw (renamed-Iff, is_sorted-Iff, is_sorted-Iff, ih front parts.0, jh front parts.1) refl;
    all = λ s a ih front h. rw (renamed-All, is_sorted-All, is_sorted-All, add-one) (ap (λ b. nat_lt s (length v.sorts) && b) (ih (s ∷ front) (deeper front a (rw only_has-All at h))));
    ex = λ s a ih front h. rw (renamed-Ex, is_sorted-Ex, is_sorted-Ex, add-one) (ap (λ b. nat_lt s (length v.sorts) && b) (ih (s ∷ front) (deeper front a (rw only_has-Ex at h))));
  })

-- Back over the variables: each argument's own variable gives way to the variable that it stands for, the outermost first.
abbrev pub put_term : List ℕ → ℕ → Term → Term
put_term [] d t = t
put_term (x ∷ xs) d t = put_term xs d (instance_term (Var x) (length xs + d) t)

abbrev pub put : List ℕ → ℕ → Form → Form
put [] d a = a
put (x ∷ xs) d a = put xs d (instance_at (Var x) (length xs + d) a)

pub putting_term : (xs : List ℕ) (d : ℕ) → TermWalk (put_term xs d)
putting_term [] d = staying_term
putting_term (x ∷ xs) d = both_terms (put_term xs d) (instance_term (Var x) (length xs + d)) (putting_term xs d) (placing_term (Var x) (length xs + d))

pub putting : (xs : List ℕ) → FormWalk (put_term xs) (put xs)
putting [] = staying
putting (x ∷ xs) = both_walks (put_term xs) (λ d. instance_term (Var x) (length xs + d)) (put xs) (λ d. instance_at (Var x) (length xs + d)) (putting xs) (placing (Var x) (λ d. length xs + d) (λ d. omega arith))

put_near : (xs : List ℕ) (d k : ℕ) → k < d → put_term xs d (Var k) ≡ Var k
put_near [] d k h = refl
put_near (x ∷ xs) d k h = rw (smaller (Var x) (length xs + d) k (omega arith)) (put_near xs d k h)

put_far : (xs : List ℕ) (d k : ℕ) → put_term xs d (Var (k + length xs + d)) ≡ Var (k + d)
put_far [] d k = let same : k + 0 + d ≡ k + d = omega arith in ap Var same
put_far (x ∷ xs) d k =
    let less : k + suc (length xs) + d - 1 ≡ k + length xs + d = omega arith in
    rw (greater (Var x) (length xs + d) (k + suc (length xs) + d) (omega arith), less) (put_far xs d k)

place_less : (xs : List ℕ) (k : ℕ) → is_listed xs k ≡ true → place_of xs k < length xs
place_less [] k h = cc
place_less (x ∷ xs) k h =
    elim (either (x == k)) [
      | inl on_ ↦ rw on_ (omega arith)
      | inr off ↦ let less = place_less xs k (only_there (x == k) (is_listed xs k) off h) in rw off (omega arith)
    ]

put_place : (xs : List ℕ) (d k : ℕ) → is_listed xs k ≡ true → put_term xs d (Var (place_of xs k + d)) ≡ Var (k + d)
put_place [] d k h = cc
put_place (x ∷ xs) d k h =
    elim (either (x == k)) [
      | inl on_ ↦
          let same : x ≡ k = grind (arith, nat_tests) in
          let moved : x + (length xs + d) ≡ k + length xs + d = omega arith in
          rw (on_, here (Var x) (length xs + d) (length xs + d) refl, moves (length xs + d) 0 x (omega arith), moved) (put_far xs d k)
      | inr off ↦
          let there : is_listed xs k ≡ true = only_there (x == k) (is_listed xs k) off h in
          let less = place_less xs k there in
          rw (off, smaller (Var x) (length xs + d) (place_of xs k + d) (omega arith)) (put_place xs d k there)
    ]

back_var : (xs : List ℕ) (d k : ℕ) → (nat_lt k d || is_listed xs (k - d)) ≡ true → put_term xs d (renamed_term xs d (Var k)) ≡ Var k
back_var xs d k h =
    elim (below_or_above k d) [
      | inl near ↦ rw (renamed_term-Var, lt-ltb k d near) (put_near xs d k near)
      | inr far ↦
          let off : nat_lt k d ≡ false = le-ltb k d far in
          let there : is_listed xs (k - d) ≡ true = only_there (nat_lt k d) (is_listed xs (k - d)) off h in
          let same : k - d + d ≡ k = omega arith in
          rw (renamed_term-Var, off) (put_place xs d (k - d) there ∙ ap Var same)
    ]

pub put_back : (xs : List ℕ) (a : Form) (d : ℕ) → only_has xs d a ≡ true → put xs d (renamed xs d a) ≡ a
put_back xs =
    same_form_where xs (λ d t. put_term xs d (renamed_term xs d t)) (λ d t. t) (λ d a. put xs d (renamed xs d a)) (λ d a. a)
    (both_walks (put_term xs) (renamed_term xs) (put xs) (renamed xs) (putting xs) (renaming xs)) staying
    (λ d. same_term_where xs d (λ t. put_term xs d (renamed_term xs d t)) (λ t. t) (both_terms (put_term xs d) (renamed_term xs d) (putting_term xs d) (renaming_term xs d)) staying_term (back_var xs d))

-- an instance, put back
pub put_instance : (xs : List ℕ) (x : Term) (a : Form) → put xs 0 (instance_at x 0 a) ≡ instance_at (put_term xs 0 x) 0 (put xs 1 a)
put_instance [] x a = refl
put_instance (y ∷ xs) x a =
    let swap = instance_instance (Var y) x (length xs + 0) a 0 (length xs + 0) (omega arith) in
    let same : length xs + 0 + 1 ≡ length xs + 1 = omega arith in
    ap (put xs 0) swap ∙ put_instance xs (instance_term (Var y) (length xs + 0) x) (instance_at (Var y) (length xs + 0 + 1) a)
    ∙ ap (λ n. instance_at (put_term (y ∷ xs) 0 x) 0 (put xs 1 (instance_at (Var y) n a))) same

-- the arguments' own variables are put to the variables themselves
put_own : (xs : List ℕ) → map (put_term xs 0) (variables (length xs)) ≡ map Var xs
put_own [] = refl
put_own (x ∷ xs) =
    let moved : x + (length xs + 0) ≡ x + length xs + 0 = omega arith in
    let whole : x + 0 ≡ x = omega arith in
    let first : put_term (x ∷ xs) 0 (Var (length xs)) ≡ Var x =
    rw (here (Var x) (length xs + 0) (length xs) (omega arith), moves (length xs + 0) 0 x (omega arith), moved) (put_far xs 0 x ∙ ap Var whole) in
    rw first (ap (λ (ts : List Term). Var x ∷ ts) (rest (length xs) (omega arith) ∙ put_own xs)) where
      rest : (n : ℕ) → n ≤ length xs → map (put_term (x ∷ xs) 0) (variables n) ≡ map (put_term xs 0) (variables n)
      rest zero le = refl
      rest (suc n) le = rw (smaller (Var x) (length xs + 0) n (omega arith), rest n (omega arith)) refl

pub put_value : (xs : List ℕ) (f : ℕ) → put_term xs 0 (App f (variables (length xs))) ≡ value f xs
put_value xs f = (putting_term xs 0).app f (variables (length xs)) ∙ ap (App f) (put_own xs)

-- The instance of what holds for all arguments at the variables.
instance_for_all : (x : Term) (sorts : List ℕ) (d : ℕ) (a : Form) → instance_at x d (for_all sorts a) ≡ for_all sorts (instance_at x (length sorts + d) a)
instance_for_all x [] d a = let same : 0 + d ≡ d = omega arith in rw same refl
instance_for_all x (s ∷ sorts) d a =
    let same : length sorts + (d + 1) ≡ suc (length sorts) + d = omega arith in
    instance_at-All x d s (for_all sorts a) ∙ ap (All s) (instance_for_all x sorts (d + 1) a ∙ ap (λ n. for_all sorts (instance_at x n a)) same)

pub all_instances : (v : Vocabulary) (scope xs args : List ℕ) (a : Form) → are_sorts (sorts_at v scope xs) args ≡ true → IsInstance v scope (for_all args a) (map Var xs) (put xs 0 a)
all_instances v scope [] [] a e = refl
all_instances v scope [] (s ∷ args) a e = cc
all_instances v scope (x ∷ xs) [] a e = cc
all_instances v scope (x ∷ xs) (s ∷ args) a e =
    let parts = both (is_sort (sort_of_term v scope (Var x)) s) (are_sorts (sorts_at v scope xs) args) e in
    let many = args_length v scope xs args parts.1 in
    let inner : instance_at (Var x) 0 (for_all args a) ≡ for_all args (instance_at (Var x) (length xs + 0) a) = instance_for_all (Var x) args 0 a ∙ ap (λ n. for_all args (instance_at (Var x) (n + 0) a)) many in
    (s, for_all args a, refl, sort_is (sort_of_term v scope (Var x)) s parts.0, subst (λ b. IsInstance v scope b (map Var xs) (put xs 0 (instance_at (Var x) (length xs + 0) a))) (sym inner) (all_instances v scope xs args (instance_at (Var x) (length xs + 0) a) parts.1))
