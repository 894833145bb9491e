-- Laws of lifting and instances.
use Rattle.std.specs.Prelude.{ℕ, ◌+◌, ◌-◌, ◌<◌, ◌≤◌, nat_lt, List, [], ◌∷◌, ◌≡◌, map, refl, true, false, Bool, Option, Some, None, slice_get, length, ◌&&◌}
use Rattle.std.specs.List.{AllByRecursion, list_all}
use Rattle.std.proofs.Common.{ap, sym, ◌∙◌, arith, ◌⊎◌, inl, inr}
use Rattle.std.proofs.lemmas.Simd.{map-map}
use Rattle.std.proofs.lemmas.Bool.Decides.{nat_tests}
use Rattle.std.proofs.lemmas.Bool.{lt-ltb, le-ltb}
use Rattle.fof_terms.specs.declared.term.Term.{Term, Var, App}
use Rattle.fof_terms.specs.declared.form.Form.{Form, Atom, Not, And, Or, All, Ex}
use Rattle.fof_terms.specs.Lift.{lifted_term, lifted}
use Rattle.fof_terms.proofs.LiftFacts.{lifted_term-Var, lifted_term-App, lifted-And, lifted-Or, lifted-Atom, lifted-Eq, lifted-Not, lifted-Imp, lifted-Iff, lifted-All, lifted-Ex}
use Rattle.fof_terms.specs.Instance.{instance_term, instance_at}
use Rattle.fof_terms.proofs.InstanceFacts.{instance_term-Var, instance_term-App, instance_at-And, instance_at-Or, instance_at-Atom, instance_at-Eq, instance_at-Not, instance_at-Imp, instance_at-Iff, instance_at-All, instance_at-Ex}
use Rattle.std.proofs.lemmas.Option.{slice_get_within}
use Rattle.fof_terms.specs.Vocabulary.{Vocabulary}
use Rattle.fof_terms.specs.Sorts.{made_by, applied, stated_by, holds_of, is_sort, are_sorts, one_sort, sort_of_term, is_sorted}
use Rattle.fof_terms.proofs.SortsFacts.{sort_of_term-Var, sort_of_term-App, is_sorted-Atom, is_sorted-Eq, is_sorted-Not, is_sorted-And, is_sorted-Or, is_sorted-Imp, is_sorted-Iff, is_sorted-All, is_sorted-Ex}
use Rattle.fof_terms.specs.declared.signature.Symbol.{Symbol}
use Rattle.fof_terms.specs.declared.signature.Kind.{Kind}
use Rattle.fof_terms.specs.declared.signature.Kind.TheVariants.{Function, Predicate}
use Rattle.fof_terms.proofs.Induction.{term_induction, form_induction}

agree_all : {X Y : Type 0} (f g : X → Y) (xs : List X) → ((x : X) → f x ≡ g x) → map f xs ≡ map g xs
agree_all f g [] e = refl
agree_all f g (x ∷ xs) e = rw (e x, agree_all f g xs e) refl

-- the same for functions of a depth and a bound
agree_at : {X Y : Type 0} (C : ℕ → ℕ → Type 0) (f g : X → ℕ → ℕ → Y) (xs : List X) → AllByRecursion (λ x. (d from : ℕ) → C d from → f x d from ≡ g x d from) xs
    → (d from : ℕ) → C d from → map (λ x. f x d from) xs ≡ map (λ x. g x d from) xs
agree_at C f g [] all d from c = refl
agree_at C f g (x ∷ xs) all d from c = rw (all.0 d from c, agree_at C f g xs all.1 d from c) refl

-- two functions that agree on each element
agree : {X Y : Type 0} (f g : X → Y) (xs : List X) → AllByRecursion (λ x. f x ≡ g x) xs → map f xs ≡ map g xs
agree f g [] e = refl
agree f g (x ∷ xs) e = rw (e.0, agree f g xs e.1) refl

pub below_or_above : (k n : ℕ) → (k < n) ⊎ (n ≤ k)
below_or_above k n = grind arith

-- a variable that stays, and one that moves
pub stays : (by from k : ℕ) → k < from → lifted_term by from (Var k) ≡ Var k
stays by from k h = rw (lifted_term-Var, lt-ltb k from h) refl

pub moves : (by from k : ℕ) → from ≤ k → lifted_term by from (Var k) ≡ Var (k + by)
moves by from k h = rw (lifted_term-Var, le-ltb k from h) refl

-- two lifts, the lower one first
lift_lift_var : (by d n k from : ℕ) → from ≡ d + n → lifted_term by from (lifted_term d 0 (Var k)) ≡ lifted_term d 0 (lifted_term by n (Var k))
lift_lift_var by d n k from e =
    elim (below_or_above k n) [
      | inl h ↦ rw (moves d 0 k (omega arith), stays by n k h, moves d 0 k (omega arith)) (stays by from (k + d) (omega arith))
      | inr h ↦
          let same : (k + d) + by ≡ (k + by) + d = omega arith in
          rw (moves d 0 k (omega arith), moves by n k h, moves d 0 (k + by) (omega arith)) (moves by from (k + d) (omega arith) ∙ ap Var same)
    ]

pub lift_lift : (by d n from : ℕ) → from ≡ d + n → (t : Term) → lifted_term by from (lifted_term d 0 t) ≡ lifted_term d 0 (lifted_term by n t)
lift_lift by d n from e = term_induction _ (record {
  var = λ k. lift_lift_var by d n k from e;
  app = λ f ts all. simp (lifted_term-App, map-map) (ap (App f) (agree _ _ ts all));
})

-- the variable itself, a smaller and a greater one
pub here : (t : Term) (depth k : ℕ) → k ≡ depth → instance_term t depth (Var k) ≡ lifted_term depth 0 t
here t depth k h = grind (arith, nat_tests, instance_term-Var)

pub smaller : (t : Term) (depth k : ℕ) → k < depth → instance_term t depth (Var k) ≡ Var k
smaller t depth k h = rw (instance_term-Var, lt-ltb k depth h) refl

pub greater : (t : Term) (depth k : ℕ) → depth < k → instance_term t depth (Var k) ≡ Var (k - 1)
greater t depth k h = grind (arith, nat_tests, instance_term-Var)

-- lifting above the depth of an instance, in a term
module _ (t : Term) (by n : ℕ) where
  lift_instance_var : (d from : ℕ) → from ≡ d + n → (k : ℕ) → lifted_term by from (instance_term t d (Var k)) ≡ instance_term (lifted_term by n t) d (lifted_term by (from + 1) (Var k))
  lift_instance_var d from e k =
      elim (below_or_above k d) [
        | inl h ↦ rw (smaller t d k h, stays by (from + 1) k (omega arith), smaller (lifted_term by n t) d k h) (stays by from k (omega arith))
        | inr h ↦
            elim (below_or_above d k) [
              | inl g ↦
                  elim (below_or_above k (from + 1)) [
                    | inl b ↦ rw (greater t d k g, stays by (from + 1) k b, greater (lifted_term by n t) d k g) (stays by from (k - 1) (omega arith))
                    | inr b ↦
                        let same : k - 1 + by ≡ k + by - 1 = omega arith in
                        rw (greater t d k g, moves by (from + 1) k b, greater (lifted_term by n t) d (k + by) (omega arith)) (moves by from (k - 1) (omega arith) ∙ ap Var same)
                  ]
              | inr g ↦
                  let it : k ≡ d = omega arith in
                  rw (here t d k it, stays by (from + 1) k (omega arith), here (lifted_term by n t) d k it) (lift_lift by d n from e t)
            ]
      ]

  pub lift_instance_term : (d from : ℕ) → from ≡ d + n → (u : Term) → lifted_term by from (instance_term t d u) ≡ instance_term (lifted_term by n t) d (lifted_term by (from + 1) u)
  lift_instance_term d from e = term_induction _ (record {
    var = lift_instance_var d from e;
    app = λ f ts all. simp (lifted_term-App, instance_term-App, map-map) (ap (App f) (agree _ _ ts all));
  })

  -- the same in a formula
  pub lift_instance : (a : Form) (d from : ℕ) → from ≡ d + n → lifted by from (instance_at t d a) ≡ instance_at (lifted_term by n t) d (lifted by (from + 1) a)
  lift_instance = form_induction _ (record {
    atom = λ p ts d from e. simp (lifted-Atom, instance_at-Atom, map-map) (ap (Atom p) (agree_all _ _ ts (lift_instance_term d from e)));
    eq = λ l r d from e. simp (instance_at-Eq, lifted-Eq) (rw (lift_instance_term d from e l, lift_instance_term d from e r) refl);
    not = λ a ih d from e. simp (instance_at-Not, lifted-Not) (ap Not (ih d from e));
    and = λ as_ all d from e. simp (lifted-And, instance_at-And, map-map) (ap And (agree_at (λ d from. from ≡ d + n) (λ a d from. lifted by from (instance_at t d a)) (λ a d from. instance_at (lifted_term by n t) d (lifted by (from + 1) a)) as_ all d from e));
    or = λ as_ all d from e. simp (lifted-Or, instance_at-Or, map-map) (ap Or (agree_at (λ d from. from ≡ d + n) (λ a d from. lifted by from (instance_at t d a)) (λ a d from. instance_at (lifted_term by n t) d (lifted by (from + 1) a)) as_ all d from e));
    imp = λ a b ih jh d from e. simp (instance_at-Imp, lifted-Imp) (rw (ih d from e, jh d from e) refl);
    iff = λ a b ih jh d from e. simp (instance_at-Iff, lifted-Iff) (rw (ih d from e, jh d from e) refl);
    all = λ s a ih d from e. simp (instance_at-All, lifted-All) (ap (All s) (ih (d + 1) (from + 1) (omega arith)));
    ex = λ s a ih d from e. simp (instance_at-Ex, lifted-Ex) (ap (Ex s) (ih (d + 1) (from + 1) (omega arith)));
  })

-- what was lifted over a place has nothing there
pub instance_of_lifted : (x s : Term) (d m : ℕ) → d ≤ m → instance_term x d (lifted_term (m + 1) 0 s) ≡ lifted_term m 0 s
instance_of_lifted x s d m le = term_induction (λ s. instance_term x d (lifted_term (m + 1) 0 s) ≡ lifted_term m 0 s) (record {
  var = λ k.
      let same : k + (m + 1) - 1 ≡ k + m = omega arith in
      rw (moves (m + 1) 0 k (omega arith), moves m 0 k (omega arith), greater x d (k + (m + 1)) (omega arith)) (ap Var same);
  app = λ f ts all. simp (lifted_term-App, instance_term-App, map-map) (ap (App f) (agree _ _ ts all));
}) s

-- two lifts of the whole are one
pub lift_twice : (d n from : ℕ) → from ≡ d + n → (s : Term) → lifted_term d 0 (lifted_term n 0 s) ≡ lifted_term from 0 s
lift_twice d n from e = term_induction _ (record {
  var = λ k.
      let same : k + n + d ≡ k + from = omega arith in
      rw (moves n 0 k (omega arith), moves from 0 k (omega arith)) (moves d 0 (k + n) (omega arith) ∙ ap Var same);
  app = λ f ts all. simp (lifted_term-App, map-map) (ap (App f) (agree _ _ ts all));
})

module _ (s : Term) (n d from : ℕ) (e : from ≡ d + n) where
  lifted_instance_var : (k : ℕ) → instance_term s from (lifted_term d 0 (Var k)) ≡ lifted_term d 0 (instance_term s n (Var k))
  lifted_instance_var k =
      elim (below_or_above k n) [
        | inl h ↦ rw (moves d 0 k (omega arith), smaller s n k h, moves d 0 k (omega arith)) (smaller s from (k + d) (omega arith))
        | inr h ↦
            elim (below_or_above n k) [
              | inl g ↦
                  let same : k + d - 1 ≡ k - 1 + d = omega arith in
                  rw (moves d 0 k (omega arith), greater s n k g, moves d 0 (k - 1) (omega arith)) (greater s from (k + d) (omega arith) ∙ ap Var same)
              | inr g ↦ rw (moves d 0 k (omega arith), here s n k (omega arith)) (here s from (k + d) (omega arith) ∙ sym (lift_twice d n from e s))
            ]
      ]

  pub lifted_instance : (t : Term) → instance_term s from (lifted_term d 0 t) ≡ lifted_term d 0 (instance_term s n t)
  lifted_instance = term_induction _ (record {
    var = lifted_instance_var;
    app = λ f ts all. simp (lifted_term-App, instance_term-App, map-map) (ap (App f) (agree _ _ ts all));
  })

-- an instance of an instance, in a term
module _ (s t : Term) (n : ℕ) where
  instance_instance_var : (d from : ℕ) → from ≡ d + n → (k : ℕ) → instance_term s from (instance_term t d (Var k)) ≡ instance_term (instance_term s n t) d (instance_term s (from + 1) (Var k))
  instance_instance_var d from e k =
      elim (below_or_above k d) [
        | inl h ↦ rw (smaller t d k h, smaller s (from + 1) k (omega arith), smaller (instance_term s n t) d k h) (smaller s from k (omega arith))
        | inr h ↦
            elim (below_or_above d k) [
              | inl g ↦
                  elim (below_or_above k (from + 1)) [
                    | inl b ↦ rw (greater t d k g, smaller s (from + 1) k b, greater (instance_term s n t) d k g) (smaller s from (k - 1) (omega arith))
                    | inr b ↦
                        elim (below_or_above (from + 1) k) [
                          | inl a ↦ rw (greater t d k g, greater s (from + 1) k a, greater (instance_term s n t) d (k - 1) (omega arith)) (greater s from (k - 1) (omega arith))
                          | inr a ↦
                              rw (greater t d k g, here s (from + 1) k (omega arith), instance_of_lifted (instance_term s n t) s d from (omega arith)) (here s from (k - 1) (omega arith))
                        ]
                  ]
              | inr g ↦
                  let it : k ≡ d = omega arith in
                  rw (here t d k it, smaller s (from + 1) k (omega arith), here (instance_term s n t) d k it) (lifted_instance s n d from e t)
            ]
      ]

  pub instance_instance_term : (d from : ℕ) → from ≡ d + n → (u : Term) → instance_term s from (instance_term t d u) ≡ instance_term (instance_term s n t) d (instance_term s (from + 1) u)
  instance_instance_term d from e = term_induction _ (record {
    var = instance_instance_var d from e;
    app = λ f ts all. simp (instance_term-App, map-map) (ap (App f) (agree _ _ ts all));
  })

  -- the same in a formula
  pub instance_instance : (a : Form) (d from : ℕ) → from ≡ d + n → instance_at s from (instance_at t d a) ≡ instance_at (instance_term s n t) d (instance_at s (from + 1) a)
  instance_instance = form_induction _ (record {
    atom = λ p ts d from e. simp (instance_at-Atom, map-map) (ap (Atom p) (agree_all _ _ ts (instance_instance_term d from e)));
    eq = λ l r d from e. simp instance_at-Eq (rw (instance_instance_term d from e l, instance_instance_term d from e r) refl);
    not = λ a ih d from e. simp instance_at-Not (ap Not (ih d from e));
    and = λ as_ all d from e. simp (instance_at-And, map-map) (ap And (agree_at (λ d from. from ≡ d + n) (λ a d from. instance_at s from (instance_at t d a)) (λ a d from. instance_at (instance_term s n t) d (instance_at s (from + 1) a)) as_ all d from e));
    or = λ as_ all d from e. simp (instance_at-Or, map-map) (ap Or (agree_at (λ d from. from ≡ d + n) (λ a d from. instance_at s from (instance_at t d a)) (λ a d from. instance_at (instance_term s n t) d (instance_at s (from + 1) a)) as_ all d from e));
    imp = λ a b ih jh d from e. simp instance_at-Imp (rw (ih d from e, jh d from e) refl);
    iff = λ a b ih jh d from e. simp instance_at-Iff (rw (ih d from e, jh d from e) refl);
    all = λ x a ih d from e. simp instance_at-All (ap (All x) (ih (d + 1) (from + 1) (omega arith)));
    ex = λ x a ih d from e. simp instance_at-Ex (ap (Ex x) (ih (d + 1) (from + 1) (omega arith)));
  })

-- What is well-sorted over fewer variables than `from` doesn't move.
pub both : (a b : Bool) → a && b ≡ true → (a ≡ true) × (b ≡ true)
both true b e = (refl, e)
both false b e = (cc, cc)

pub found : (r : Option ℕ) (s : ℕ) → is_sort r s ≡ true → (x : ℕ) × (r ≡ Some x)
found None s e = cc
found (Some x) s e = (x, refl)

pub one_found : (l r : Option ℕ) → one_sort l r ≡ true → ((x : ℕ) × (l ≡ Some x)) × ((y : ℕ) × (r ≡ Some y))
one_found l None e = cc
one_found l (Some y) e = (found l y e, (y, refl))

made : (k : Kind) (fits : Bool) (result r : ℕ) → made_by k fits result ≡ Some r → fits ≡ true
made Function true result r e = refl
made Function false result r e = cc
made Predicate fits result r e = cc

stated : (k : Kind) (fits : Bool) → stated_by k fits ≡ true → fits ≡ true
stated Function fits e = cc
stated Predicate fits e = e

pub all_found : {X : Type 0} (f : X → Option ℕ) (xs : List X) (sorts : List ℕ) → are_sorts (map f xs) sorts ≡ true → AllByRecursion (λ x. (s : ℕ) × (f x ≡ Some s)) xs
all_found f [] sorts e = tt
all_found f (x ∷ xs) [] e = cc
all_found f (x ∷ xs) (s ∷ sorts) e =
    let parts = both (is_sort (f x) s) (are_sorts (map f xs) sorts) e in
    (found (f x) s parts.0, all_found f xs sorts parts.1)

pub applied_found : {X : Type 0} (f : X → Option ℕ) (xs : List X) (symbol : Option Symbol) (r : ℕ) → applied symbol (map f xs) ≡ Some r → AllByRecursion (λ x. (s : ℕ) × (f x ≡ Some s)) xs
applied_found f xs None r e = cc
applied_found f xs (Some s) r e = all_found f xs s.args (made s.kind (are_sorts (map f xs) s.args) s.result r e)

pub holds_found : {X : Type 0} (f : X → Option ℕ) (xs : List X) (symbol : Option Symbol) → holds_of symbol (map f xs) ≡ true → AllByRecursion (λ x. (s : ℕ) × (f x ≡ Some s)) xs
holds_found f xs None e = cc
holds_found f xs (Some s) e = all_found f xs s.args (stated s.kind (are_sorts (map f xs) s.args) e)

-- a list whose members stay where a fact holds of them
stay : {X : Type 0} (f : X → X) (P : X → Type 0) (xs : List X) → AllByRecursion (λ x. P x → f x ≡ x) xs → AllByRecursion P xs → map f xs ≡ xs
stay f P [] e h = refl
stay f P (x ∷ xs) e h = rw (e.0 h.0, stay f P xs e.1 h.1) refl

pub each_true : {X : Type 0} (f : X → Bool) (xs : List X) → list_all f xs ≡ true → AllByRecursion (λ x. f x ≡ true) xs
each_true f [] e = tt
each_true f (x ∷ xs) e = let parts = both (f x) (list_all f xs) e in (parts.0, each_true f xs parts.1)

module _ (v : Vocabulary) (by : ℕ) where
  pub closed_term_stays : (scope : List ℕ) (from : ℕ) → length scope ≤ from → (t : Term) → (s : ℕ) × (sort_of_term v scope t ≡ Some s) → lifted_term by from t ≡ t
  closed_term_stays scope from le = term_induction _ (record {
    var = λ k h. stays by from k (omega (arith, slice_get_within scope k h.0 (rw sort_of_term-Var at h.1)));
    app = λ f ts all h.
        let each = applied_found (sort_of_term v scope) ts (slice_get v.symbols f) h.0 (rw sort_of_term-App at h.1) in
        rw lifted_term-App (ap (App f) (stay (lifted_term by from) (λ t. (s : ℕ) × (sort_of_term v scope t ≡ Some s)) ts all each));
  })

  terms_stay : (scope : List ℕ) (from : ℕ) → length scope ≤ from → (ts : List Term) → AllByRecursion (λ t. (s : ℕ) × (sort_of_term v scope t ≡ Some s)) ts → map (lifted_term by from) ts ≡ ts
  terms_stay scope from le [] h = refl
  terms_stay scope from le (t ∷ ts) h = rw (closed_term_stays scope from le t h.0, terms_stay scope from le ts h.1) refl

  forms_stay : (scope : List ℕ) (from : ℕ) → length scope ≤ from → (as_ : List Form)
      → AllByRecursion (λ a. (scope : List ℕ) (from : ℕ) → length scope ≤ from → is_sorted v scope a ≡ true → lifted by from a ≡ a) as_
      → AllByRecursion (λ a. is_sorted v scope a ≡ true) as_ → map (lifted by from) as_ ≡ as_
  forms_stay scope from le [] e h = refl
  forms_stay scope from le (a ∷ as_) e h = rw (e.0 scope from le h.0, forms_stay scope from le as_ e.1 h.1) refl

  pub closed_stays : (a : Form) (scope : List ℕ) (from : ℕ) → length scope ≤ from → is_sorted v scope a ≡ true → lifted by from a ≡ a
  closed_stays = form_induction _ (record {
    atom = λ p ts scope from le h. rw lifted-Atom (ap (Atom p) (terms_stay scope from le ts (holds_found (sort_of_term v scope) ts (slice_get v.symbols p) (rw is_sorted-Atom at h))));
    eq = λ l r scope from le h.
        let sides = one_found (sort_of_term v scope l) (sort_of_term v scope r) (rw is_sorted-Eq at h) in
        rw (lifted-Eq, closed_term_stays scope from le l sides.0, closed_term_stays scope from le r sides.1) refl;
    not = λ a ih scope from le h. rw lifted-Not (ap Not (ih scope from le (rw is_sorted-Not at h)));
    and = λ as_ all scope from le h. rw lifted-And (ap And (forms_stay scope from le as_ all (each_true _ as_ (rw is_sorted-And at h))));
    or = λ as_ all scope from le h. rw lifted-Or (ap Or (forms_stay scope from le as_ all (each_true _ as_ (rw is_sorted-Or at h))));
    imp = λ a b ih jh scope from le h.
        let parts = both (is_sorted v scope a) (is_sorted v scope b) (rw is_sorted-Imp at h) in
        rw (lifted-Imp, ih scope from le parts.0, jh scope from le parts.1) refl;
    iff = λ a b ih jh scope from le h.
        let parts = both (is_sorted v scope a) (is_sorted v scope b) (rw is_sorted-Iff at h) in
        rw (lifted-Iff, ih scope from le parts.0, jh scope from le parts.1) refl;
    all = λ s a ih scope from le h.
        let parts = both (nat_lt s (length v.sorts)) (is_sorted v (s ∷ scope) a) (rw is_sorted-All at h) in
        rw lifted-All (ap (All s) (ih (s ∷ scope) (from + 1) (omega arith) parts.1));
    ex = λ s a ih scope from le h.
        let parts = both (nat_lt s (length v.sorts)) (is_sorted v (s ∷ scope) a) (rw is_sorted-Ex at h) in
        rw lifted-Ex (ap (Ex s) (ih (s ∷ scope) (from + 1) (omega arith) parts.1));
  })
