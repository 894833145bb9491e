-- Places, as code goes through them.
use Rattle.std.specs.Prelude.{ℕ, ◌≡◌, ◌+◌, ◌<◌, ◌≤◌, ◌==◌, false, List, [], ◌∷◌, ◌++◌, length, map, take, drop, get_or, slice_get, slice_set, Option, Some, None, Result, Ok, Err, OnOk, refl}
use Rattle.std.proofs.Common.{ap, sym, ◌∙◌, arith, zero, suc, append_assoc, append-nil, inl, inr, ◌⊎◌}
use Rattle.std.proofs.lemmas.Option.{slice_get-get_or}
use Rattle.fof_terms.specs.declared.term.Term.{Term, Var, App}
use Rattle.clause_form.specs.declared.clause.AtomOf.TheVariants.{Pred, Eq, True, False}
use Rattle.clause_form.specs.declared.clause.Lit.{Lit}
use Rattle.clause_rules.specs.Places.{args_of, with_args, term_at, put_at, args_of_atom, sides_of, lit_term_at}
use Rattle.clause_rules.specs.PlaceSearch.{numbered, places_within}
use Rattle.clause_rules.specs.code.PlaceSearch.{go_on, below, set_on, put_below}
use Rattle.clause_rules.proofs.PlaceSearchFacts.{places_within-App}
use Rattle.clause_rules.proofs.TakenLists.{mapped_more, take_all}
use Rattle.clause_rules.proofs.PlaceLaws.{args_of-Var, args_of-App, with_args-Var, with_args-App, term_below, put_is_below}

numbered_more : (gs : List (List ℕ → List (List ℕ))) (g : List ℕ → List (List ℕ)) (steps : List ℕ) (n : ℕ) → numbered (gs ++ g ∷ []) steps n ≡ numbered gs steps n ++ g (steps ++ (n + length gs) ∷ [])
numbered_more [] g steps n = append-nil (g (steps ++ n ∷ [])) ∙ ap (λ k. g (steps ++ k ∷ [])) (omega arith)
numbered_more (h ∷ gs) g steps n =
    let same : suc n + length gs ≡ n + suc (length gs) = omega arith in
    ap (λ ps. h (steps ++ n ∷ []) ++ ps) (numbered_more gs g steps (suc n) ∙ ap (λ k. numbered gs steps (suc n) ++ g (steps ++ k ∷ [])) same) ∙ sym (append_assoc (h (steps ++ n ∷ [])) (numbered gs steps (suc n)) (g (steps ++ (n + suc (length gs)) ∷ [])))

length_taken : {X Y : Type 0} (f : X → Y) (xs : List X) (i : ℕ) → i ≤ length xs → length (map f (take i xs)) ≡ i
length_taken f xs zero h = refl
length_taken f [] (suc i) h = absurd (omega arith)
length_taken f (x ∷ xs) (suc i) h = ap (λ n. suc n) (length_taken f xs i (omega arith))

pub record ListedSoFar (terms : List Term) (i : ℕ) (before : List (List ℕ)) (steps : List ℕ) (places : List (List ℕ)) (now : List ℕ) : Type 0 where
  pub places_are : places ≡ before ++ numbered (map places_within (take i terms)) steps 0
  pub steps_are : now ≡ steps

pub listed_none : (terms : List Term) (before : List (List ℕ)) (steps : List ℕ) → ListedSoFar terms 0 before steps before steps
listed_none terms before steps = record { places_are = sym (append-nil before); steps_are = refl }

pub listed_more : (terms : List Term) (i number : ℕ) (before : List (List ℕ)) (steps : List ℕ) (places : List (List ℕ)) (now : List ℕ) (term : Term) (places' : List (List ℕ)) (now' : List ℕ) → i < length terms → term ≡ get_or terms i term → number ≡ i → ListedSoFar terms i before steps places now
    → (places' ≡ places ++ places_within term (now ++ number ∷ [])) × (now' ≡ now) → ListedSoFar terms (i + 1) before steps places' now'
listed_more terms i number before steps places now term places' now' h e n so step =
    let gs = map places_within (take i terms) in
    let next = mapped_more places_within terms i term h e in
    let size : 0 + length gs ≡ i = omega (arith, length_taken places_within terms i (omega arith)) in
    record {
      places_are = step.0 ∙ ap (λ ps. ps ++ places_within term (now ++ number ∷ [])) so.places_are ∙ ap (λ (ns : List ℕ). (before ++ numbered gs steps 0) ++ places_within term ns) (ap (λ (ns : List ℕ). ns ++ number ∷ []) so.steps_are ∙ ap (λ k. steps ++ k ∷ []) (n ∙ sym size))
          ∙ append_assoc before (numbered gs steps 0) (places_within term (steps ++ (0 + length gs) ∷ [])) ∙ ap (λ ps. before ++ ps) (sym (numbered_more gs (places_within term) steps 0) ∙ ap (λ fs. numbered fs steps 0) (sym next));
      steps_are = step.1 ∙ so.steps_are;
    }

pub listed_done : (terms : List Term) (n : ℕ) (before : List (List ℕ)) (steps : List ℕ) (places : List (List ℕ)) (now : List ℕ) → n ≡ length terms → ListedSoFar terms n before steps places now → (places ≡ before ++ numbered (map places_within terms) steps 0) × (now ≡ steps)
listed_done terms n before steps places now e so = (so.places_are ∙ ap (λ ts. before ++ numbered (map places_within ts) steps 0) (take_all terms n e), so.steps_are)

dropped : (xs : List ℕ) (i : ℕ) → i < length xs → drop i xs ≡ get_or xs i 0 ∷ drop (suc i) xs
dropped [] i h = absurd (omega arith)
dropped (x ∷ xs) zero h = refl
dropped (x ∷ xs) (suc i) h = dropped xs i (omega arith)

dropped_next : (xs : List ℕ) (i : ℕ) → i < length xs → drop i xs ≡ get_or xs i 0 ∷ drop (i + 1) xs
dropped_next xs i h = let next : suc i ≡ i + 1 = omega arith in dropped xs i h ∙ ap (λ n. get_or xs i 0 ∷ drop n xs) next

dropped_all : (xs : List ℕ) (i : ℕ) → length xs ≤ i → drop i xs ≡ []
dropped_all [] zero h = refl
dropped_all [] (suc i) h = refl
dropped_all (x ∷ xs) zero h = absurd (omega arith)
dropped_all (x ∷ xs) (suc i) h = dropped_all xs i (omega arith)

pub below_end : (place : List ℕ) (from : ℕ) (t : Term) → length place ≤ from → below (drop from place) t ≡ Some t
below_end place from t h = ap (λ steps. below steps t) (dropped_all place from h)

pub below_app : (place : List ℕ) (from : ℕ) (t : Term) (f : ℕ) (ts : List Term) → t ≡ App f ts → from < length place → below (drop from place) t ≡ go_on (below (drop (from + 1) place)) (slice_get ts (get_or place from 0))
below_app place from t f ts is h =
    ap (λ steps. below steps t) (dropped_next place from h) ∙ ap (λ us. go_on (below (drop (from + 1) place)) (slice_get us (get_or place from 0))) (ap args_of is ∙ args_of-App f ts)

pub below_var : (place : List ℕ) (from : ℕ) (t : Term) (k : ℕ) → t ≡ Var k → from < length place → None ≡ below (drop from place) t
below_var place from t k is h =
    sym (ap (λ steps. below steps t) (dropped_next place from h) ∙ ap (λ us. go_on (below (drop (from + 1) place)) (slice_get us (get_or place from 0))) (ap args_of is ∙ args_of-Var k))

pub within_app : (before before' : List (List ℕ)) (steps : List ℕ) (t : Term) (f : ℕ) (ts lent : List Term) (places : List (List ℕ)) (place : List ℕ) → t ≡ App f ts → lent ≡ ts → place ≡ steps → before' ≡ before ++ place ∷ [] → places ≡ before' ++ numbered (map places_within lent) steps 0
    → places ≡ before ++ places_within t steps
within_app before before' steps t f ts lent places place is same at pushed made =
    made ∙ ap (λ us. before' ++ numbered (map places_within us) steps 0) same ∙ ap (λ ps. ps ++ numbered (map places_within ts) steps 0) (pushed ∙ ap (λ p. before ++ p ∷ []) at)
    ∙ append_assoc before (steps ∷ []) (numbered (map places_within ts) steps 0) ∙ ap (λ ps. before ++ ps) (sym (places_within-App f ts steps) ∙ ap (λ u. places_within u steps) (sym is))

pub in_first : (place : List ℕ) (ts : List Term) → (place ≡ [] → ⊥) → term_at place ts ≡ go_on (below (drop 1 place)) (slice_get ts (get_or place 0 0))
in_first [] ts h = absurd (h refl)
in_first (n ∷ place) ts h = term_below place n ts

pub in_pred : (place : List ℕ) (lit : Lit) (p : ℕ) (ts : List Term) (o : Option Term) → (place ≡ [] → ⊥) → lit.atom ≡ Pred p ts → o ≡ slice_get ts (get_or place 0 0) → lit_term_at place lit ≡ go_on (below (drop 1 place)) o
in_pred place lit p ts o h is at = ap (λ a. term_at place (args_of_atom a)) is ∙ in_first place ts h ∙ ap (go_on (below (drop 1 place))) (sym at)

pub in_equation : (place : List ℕ) (lit : Lit) (l r : Term) (n : ℕ) → (place ≡ [] → ⊥) → lit.atom ≡ Eq l r → get_or place 0 0 ≡ n → lit_term_at place lit ≡ go_on (below (drop 1 place)) (slice_get (l ∷ r ∷ []) n)
in_equation place lit l r n h is at = ap (λ a. term_at place (args_of_atom a)) is ∙ in_first place (l ∷ r ∷ []) h ∙ ap (λ k. go_on (below (drop 1 place)) (slice_get (l ∷ r ∷ []) k)) at

pub in_neither : (place : List ℕ) (lit : Lit) → (place ≡ [] → ⊥) → (lit.atom ≡ True) ⊎ (lit.atom ≡ False) → None ≡ lit_term_at place lit
in_neither place lit h (inl is) = sym (ap (λ a. term_at place (args_of_atom a)) is ∙ in_first place [] h)
in_neither place lit h (inr is) = sym (ap (λ a. term_at place (args_of_atom a)) is ∙ in_first place [] h)

pub added : {X E : Type 0} (r : Result X E) (before before' : List (List ℕ)) (steps : List ℕ) (t : Term) (f : ℕ) (ts lent : List Term) (places : List (List ℕ)) (now place : List ℕ) → t ≡ App f ts → lent ≡ ts → place ≡ steps → before' ≡ before ++ place ∷ []
    → OnOk r ((places ≡ before' ++ numbered (map places_within lent) steps 0) × (now ≡ steps)) → OnOk r ((places ≡ before ++ places_within t steps) × (now ≡ steps))
added (Ok x) before before' steps t f ts lent places now place is same at pushed h = (within_app before before' steps t f ts lent places place is same at pushed h.0, h.1)
added (Err e) before before' steps t f ts lent places now place is same at pushed h = tt

pub not_empty : (place : List ℕ) → false ≡ (length place == 0) → place ≡ [] → ⊥
not_empty [] h e = let f = h in cc
not_empty (n ∷ place) h e = cc

abbrev IsStep : List ℕ → ℕ → Type 0
IsStep [] n = ⊥
IsStep (m ∷ place) n = n ≡ m

set_length : (ts : List Term) (n : ℕ) (u : Term) → length (slice_set ts n u) ≡ length ts
set_length [] n u = refl
set_length (t ∷ ts) zero u = refl
set_length (t ∷ ts) (suc n) u = ap (λ k. suc k) (set_length ts n u)

on_length : (way : Term → Term) (o : Option Term) (n : ℕ) (ts : List Term) → length (set_on way o n ts) ≡ length ts
on_length way None n ts = refl
on_length way (Some t) n ts = set_length ts n (way t)

put_length : (place : List ℕ) (u : Term) (ts : List Term) → length (put_at place u ts) ≡ length ts
put_length [] u ts = refl
put_length (n ∷ place) u ts = ap length (put_is_below place n u ts) ∙ on_length (put_below place u) (slice_get ts n) n ts

set_here : (ts : List Term) (n : ℕ) (u d : Term) → n < length ts → get_or (slice_set ts n u) n d ≡ u
set_here [] n u d h = absurd (omega arith)
set_here (t ∷ ts) zero u d h = refl
set_here (t ∷ ts) (suc n) u d h = set_here ts n u d (omega arith)

set_other : (ts : List Term) (n i : ℕ) (u d : Term) → (i ≡ n → ⊥) → get_or (slice_set ts n u) i d ≡ get_or ts i d
set_other [] n i u d h = refl
set_other (t ∷ ts) zero zero u d h = absurd (h refl)
set_other (t ∷ ts) zero (suc i) u d h = refl
set_other (t ∷ ts) (suc n) zero u d h = refl
set_other (t ∷ ts) (suc n) (suc i) u d h = set_other ts n i u d (λ e. h (ap (λ k. suc k) e))

on_other : (way : Term → Term) (o : Option Term) (n i : ℕ) (ts : List Term) (d : Term) → (i ≡ n → ⊥) → get_or (set_on way o n ts) i d ≡ get_or ts i d
on_other way None n i ts d h = refl
on_other way (Some t) n i ts d h = set_other ts n i (way t) d h

-- the term at the step is changed, and each other one is the same
pub put_here : (place : List ℕ) (u : Term) (ts : List Term) (i : ℕ) (t d : Term) → slice_get ts i ≡ Some t → i < length ts → get_or (put_at (i ∷ place) u ts) i d ≡ put_below place u t
put_here place u ts i t d at h = ap (λ us. get_or us i d) (put_is_below place i u ts ∙ ap (λ o. set_on (put_below place u) o i ts) at) ∙ set_here ts i (put_below place u t) d h

pub put_other : (place : List ℕ) (u : Term) (ts : List Term) (i : ℕ) (d : Term) → (IsStep place i → ⊥) → get_or (put_at place u ts) i d ≡ get_or ts i d
put_other [] u ts i d h = refl
put_other (n ∷ place) u ts i d h = ap (λ us. get_or us i d) (put_is_below place n u ts) ∙ on_other (put_below place u) (slice_get ts n) n i ts d h

snoc_taken : (xs : List Term) (i : ℕ) (d x : Term) → i < length xs → get_or xs i d ≡ x → take (i + 1) xs ≡ take i xs ++ x ∷ []
snoc_taken [] i d x h e = absurd (omega arith)
snoc_taken (y ∷ xs) zero d x h e = ap (λ z. z ∷ []) e
snoc_taken (y ∷ xs) (suc i) d x h e = let next : suc i + 1 ≡ suc (i + 1) = omega arith in ap (λ n. take n (y ∷ xs)) next ∙ ap (λ ys. y ∷ ys) (snoc_taken xs i d x (omega arith) e)

-- one term more
pub put_more_here : (place : List ℕ) (from : ℕ) (u : Term) (ts made made' : List Term) (i : ℕ) (t new : Term) → i < length ts → t ≡ get_or ts i t → from < length place → i ≡ get_or place from 0 → made ≡ take i (put_at (drop from place) u ts) → new ≡ put_below (drop (from + 1) place) u t
    → made' ≡ made ++ new ∷ [] → made' ≡ take (i + 1) (put_at (drop from place) u ts)
put_more_here place from u ts made made' i t new h is lt at so n m =
    let steps : drop from place ≡ i ∷ drop (from + 1) place = dropped_next place from lt ∙ ap (λ k. k ∷ drop (from + 1) place) (sym at) in
    let size : length (put_at (drop from place) u ts) ≡ length ts = put_length (drop from place) u ts in
    let here : get_or (put_at (drop from place) u ts) i t ≡ new = ap (λ ps. get_or (put_at ps u ts) i t) steps ∙ put_here (drop (from + 1) place) u ts i t t (slice_get-get_or ts i t h ∙ ap Some (sym is)) h ∙ sym n in
    m ∙ ap (λ us. us ++ new ∷ []) so ∙ sym (snoc_taken (put_at (drop from place) u ts) i t new (omega (arith, size)) here)

pub put_more_other : (place : List ℕ) (from : ℕ) (u : Term) (ts made made' : List Term) (i : ℕ) (t new : Term) → i < length ts → t ≡ get_or ts i t → (from < length place → i ≡ get_or place from 0 → ⊥) → made ≡ take i (put_at (drop from place) u ts) → new ≡ t
    → made' ≡ made ++ new ∷ [] → made' ≡ take (i + 1) (put_at (drop from place) u ts)
put_more_other place from u ts made made' i t new h is other so n m =
    let size : length (put_at (drop from place) u ts) ≡ length ts = put_length (drop from place) u ts in
    let here : get_or (put_at (drop from place) u ts) i t ≡ new = put_other (drop from place) u ts i t (not_step place from i other) ∙ sym is ∙ sym n in
    m ∙ ap (λ us. us ++ new ∷ []) so ∙ sym (snoc_taken (put_at (drop from place) u ts) i t new (omega (arith, size)) here) where
      not_step : (place : List ℕ) (from i : ℕ) → (from < length place → i ≡ get_or place from 0 → ⊥) → IsStep (drop from place) i → ⊥
      not_step [] zero i other s = s
      not_step [] (suc from) i other s = s
      not_step (n ∷ place) zero i other s = other (omega arith) s
      not_step (n ∷ place) (suc from) i other s = not_step place from i (λ lt e. other (omega (arith, lt)) e) s

pub put_done : (place : List ℕ) (from : ℕ) (u : Term) (ts made : List Term) (n : ℕ) → n ≡ length ts → made ≡ take n (put_at (drop from place) u ts) → made ≡ put_at (drop from place) u ts
put_done place from u ts made n e h = h ∙ take_all (put_at (drop from place) u ts) n (e ∙ sym (put_length (drop from place) u ts))

pub put_end : (place : List ℕ) (from : ℕ) (u t : Term) → length place ≤ from → put_below (drop from place) u t ≡ u
put_end place from u t h = ap (λ steps. put_below steps u t) (dropped_all place from h)

pub put_var : (place : List ℕ) (from : ℕ) (u t : Term) (k : ℕ) → t ≡ Var k → from < length place → put_below (drop from place) u t ≡ Var k
put_var place from u t k is h =
    ap (λ steps. put_below steps u t) (dropped_next place from h) ∙ ap (λ y. with_args y (set_on (put_below (drop (from + 1) place) u) (slice_get (args_of t) (get_or place from 0)) (get_or place from 0) (args_of t))) is ∙ with_args-Var k _

pub put_app : (place : List ℕ) (from : ℕ) (u t : Term) (f : ℕ) (ts lent made : List Term) → t ≡ App f ts → lent ≡ ts → from < length place → made ≡ put_at (drop from place) u lent → App f made ≡ put_below (drop from place) u t
put_app place from u t f ts lent made is same h m =
    let n = get_or place from 0 in
    let steps = drop (from + 1) place in
    let list : made ≡ set_on (put_below steps u) (slice_get ts n) n ts = m ∙ ap (put_at (drop from place) u) same ∙ ap (λ ps. put_at ps u ts) (dropped_next place from h) ∙ put_is_below steps n u ts in
    ap (App f) list ∙ sym (ap (λ ps. put_below ps u t) (dropped_next place from h) ∙ ap (λ y. with_args y (set_on (put_below steps u) (slice_get (args_of y) n) n (args_of y))) is ∙ with_args-App f ts _ ∙ ap (λ us. App f (set_on (put_below steps u) (slice_get us n) n us)) (args_of-App f ts))

first_step : (place : List ℕ) → (place ≡ [] → ⊥) → place ≡ get_or place 0 0 ∷ drop 1 place
first_step [] h = absurd (h refl)
first_step (n ∷ place) h = refl

pub no_step : (place : List ℕ) (u l r : Term) → place ≡ [] → sides_of (put_at place u (l ∷ r ∷ [])) ≡ Eq l r
no_step place u l r e = ap (λ ps. sides_of (put_at ps u (l ∷ r ∷ []))) e

side_at : (place : List ℕ) (u l r : Term) → (place ≡ [] → ⊥) → (n : ℕ) → get_or place 0 0 ≡ n → sides_of (put_at place u (l ∷ r ∷ [])) ≡ sides_of (set_on (put_below (drop 1 place) u) (slice_get (l ∷ r ∷ []) n) n (l ∷ r ∷ []))
side_at place u l r h n e = ap (λ ps. sides_of (put_at ps u (l ∷ r ∷ []))) (first_step place h ∙ ap (λ k. k ∷ drop 1 place) e) ∙ ap sides_of (put_is_below (drop 1 place) n u (l ∷ r ∷ []))

pub left_side : (place : List ℕ) (u l r new other : Term) → (place ≡ [] → ⊥) → get_or place 0 0 ≡ 0 → new ≡ put_below (drop 1 place) u l → other ≡ r → Eq new other ≡ sides_of (put_at place u (l ∷ r ∷ []))
left_side place u l r new other h e n o = (rw (n, o) refl) ∙ sym (side_at place u l r h 0 e)

pub right_side : (place : List ℕ) (u l r new other : Term) → (place ≡ [] → ⊥) → get_or place 0 0 ≡ 1 → other ≡ l → new ≡ put_below (drop 1 place) u r → Eq other new ≡ sides_of (put_at place u (l ∷ r ∷ []))
right_side place u l r new other h e o n = (rw (n, o) refl) ∙ sym (side_at place u l r h 1 e)

pub no_side : (place : List ℕ) (u l r new other : Term) → (place ≡ [] → ⊥) → (get_or place 0 0 ≡ 0 → ⊥) → (get_or place 0 0 ≡ 1 → ⊥) → new ≡ l → other ≡ r → Eq new other ≡ sides_of (put_at place u (l ∷ r ∷ []))
no_side place u l r new other h zero_ one_ n o = (rw (n, o) refl) ∙ sym (side_at place u l r h (get_or place 0 0) refl ∙ go (get_or place 0 0) zero_ one_) where
  go : (n : ℕ) → (n ≡ 0 → ⊥) → (n ≡ 1 → ⊥) → sides_of (set_on (put_below (drop 1 place) u) (slice_get (l ∷ r ∷ []) n) n (l ∷ r ∷ [])) ≡ Eq l r
  go zero a b = absurd (a refl)
  go (suc zero) a b = absurd (b refl)
  go (suc (suc n)) a b = refl
