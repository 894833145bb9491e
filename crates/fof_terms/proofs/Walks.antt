-- What lifting and instances have in common: they change variables alone. Their laws are then facts of variables.
use Rattle.std.specs.Prelude.{ℕ, ◌≡◌, ◌+◌, ◌<◌, ◌-◌, ◌&&◌, nat_lt, Bool, List, [], ◌∷◌, ◌++◌, length, map, slice_get, Some, refl}
use Rattle.std.specs.List.{AllByRecursion, list_all}
use Rattle.std.proofs.Common.{ap, sym, ◌∙◌, arith, zero, suc, add-one, inl, inr}
use Rattle.std.proofs.lemmas.Simd.{map-map}
use Rattle.std.proofs.lemmas.List.Folds.{list_all-map}
use Rattle.fof_terms.specs.declared.term.Term.{Term, Var, App}
use Rattle.fof_terms.specs.declared.form.Form.{Form, Atom, Eq, Not, And, Or, Imp, Iff, All, Ex}
use Rattle.fof_terms.specs.Vocabulary.{Vocabulary}
use Rattle.fof_terms.specs.Lift.{greatest, lifted_term, lifted}
use Rattle.fof_terms.proofs.LiftFacts.{lifted_term-App, lifted-Atom, lifted-Eq, lifted-Not, lifted-And, lifted-Or, lifted-Imp, lifted-Iff, lifted-All, lifted-Ex}
use Rattle.fof_terms.specs.Instance.{instance_term, instance_at}
use Rattle.fof_terms.proofs.InstanceFacts.{instance_term-App, instance_at-Atom, instance_at-Eq, instance_at-Not, instance_at-And, instance_at-Or, instance_at-Imp, instance_at-Iff, instance_at-All, instance_at-Ex}
use Rattle.fof_terms.specs.Sorts.{applied, holds_of, sort_of_term, is_sorted, binder_depth}
use Rattle.fof_terms.proofs.SortsFacts.{sort_of_term-Var, sort_of_term-App, is_sorted-Atom, is_sorted-Eq, is_sorted-Not, is_sorted-And, is_sorted-Or, is_sorted-Imp, is_sorted-Iff, is_sorted-All, is_sorted-Ex, binder_depth-Atom, binder_depth-Eq, binder_depth-Not, binder_depth-And, binder_depth-Or, binder_depth-Imp, binder_depth-Iff, binder_depth-All, binder_depth-Ex}
use Rattle.fof_terms.proofs.Induction.{term_induction, form_induction}
use Rattle.fof_terms.proofs.LiftingLaws.{below_or_above, stays, moves, here, smaller, greater}

agree : {X Y : Type 0} (f g : X → Y) (xs : List X) → AllByRecursion (λ x. f x ≡ g x) xs → map f xs ≡ map g xs
agree f g [] e = refl
agree f g (x ∷ xs) e = rw (e.0, agree f g xs e.1) refl

agree_all : {X Y : Type 0} (f g : X → Y) (xs : List X) → ((x : X) → f x ≡ g x) → map f xs ≡ map g xs
agree_all f g [] e = refl
agree_all f g (x ∷ xs) e = rw (e x, agree_all f g xs e) refl

-- what holds at every index holds at one
at : {X I : Type 0} (P : I → X → Type 0) (xs : List X) (i : I) → AllByRecursion (λ x. (i : I) → P i x) xs → AllByRecursion (P i) xs
at P [] i all = tt
at P (x ∷ xs) i all = (all.0 i, at P xs i all.1)

-- a function of terms that changes variables alone
pub record TermWalk (f : Term → Term) : Type 0 where
  pub app : (s : ℕ) (ts : List Term) → f (App s ts) ≡ App s (map f ts)

-- functions of formulas, for each number of binders crossed, that change variables alone, as these functions of terms
pub record FormWalk (f : ℕ → Term → Term) (g : ℕ → Form → Form) : Type 0 where
  pub atom : (d p : ℕ) (ts : List Term) → g d (Atom p ts) ≡ Atom p (map (f d) ts)
  pub eq : (d : ℕ) (l r : Term) → g d (Eq l r) ≡ Eq (f d l) (f d r)
  pub not : (d : ℕ) (a : Form) → g d (Not a) ≡ Not (g d a)
  pub and : (d : ℕ) (as_ : List Form) → g d (And as_) ≡ And (map (g d) as_)
  pub or : (d : ℕ) (as_ : List Form) → g d (Or as_) ≡ Or (map (g d) as_)
  pub imp : (d : ℕ) (a b : Form) → g d (Imp a b) ≡ Imp (g d a) (g d b)
  pub iff : (d : ℕ) (a b : Form) → g d (Iff a b) ≡ Iff (g d a) (g d b)
  pub all : (d s : ℕ) (a : Form) → g d (All s a) ≡ All s (g (d + 1) a)
  pub ex : (d s : ℕ) (a : Form) → g d (Ex s a) ≡ Ex s (g (d + 1) a)

map_same : {X : Type 0} (xs : List X) → map (λ x. x) xs ≡ xs
map_same [] = refl
map_same (x ∷ xs) = rw (map_same xs) refl

pub staying_term : TermWalk (λ t. t)
staying_term = record { app = λ s ts. rw map_same refl }

pub staying : FormWalk (λ d t. t) (λ d a. a)
staying = record {
  atom = λ d p ts. rw map_same refl;
  eq = λ d l r. refl;
  not = λ d a. refl;
  and = λ d as_. rw map_same refl;
  or = λ d as_. rw map_same refl;
  imp = λ d a b. refl;
  iff = λ d a b. refl;
  all = λ d s a. refl;
  ex = λ d s a. refl;
}

pub lifting_term : (by from : ℕ) → TermWalk (lifted_term by from)
lifting_term by from = record { app = λ s ts. lifted_term-App by from s ts }

pub lifting : (by : ℕ) (n : ℕ → ℕ) → ((d : ℕ) → n (d + 1) ≡ n d + 1) → FormWalk (λ d. lifted_term by (n d)) (λ d. lifted by (n d))
lifting by n e = record {
  atom = λ d p ts. lifted-Atom by (n d) p ts;
  eq = λ d l r. lifted-Eq by (n d) l r;
  not = λ d a. lifted-Not by (n d) a;
  and = λ d as_. lifted-And by (n d) as_;
  or = λ d as_. lifted-Or by (n d) as_;
  imp = λ d a b. lifted-Imp by (n d) a b;
  iff = λ d a b. lifted-Iff by (n d) a b;
  all = λ d s a. rw (e d, lifted-All) refl;
  ex = λ d s a. rw (e d, lifted-Ex) refl;
}

pub placing_term : (t : Term) (depth : ℕ) → TermWalk (instance_term t depth)
placing_term t depth = record { app = λ s ts. instance_term-App t depth s ts }

pub placing : (t : Term) (n : ℕ → ℕ) → ((d : ℕ) → n (d + 1) ≡ n d + 1) → FormWalk (λ d. instance_term t (n d)) (λ d. instance_at t (n d))
placing t n e = record {
  atom = λ d p ts. instance_at-Atom t (n d) p ts;
  eq = λ d l r. instance_at-Eq t (n d) l r;
  not = λ d a. instance_at-Not t (n d) a;
  and = λ d as_. instance_at-And t (n d) as_;
  or = λ d as_. instance_at-Or t (n d) as_;
  imp = λ d a b. instance_at-Imp t (n d) a b;
  iff = λ d a b. instance_at-Iff t (n d) a b;
  all = λ d s a. rw (e d, instance_at-All) refl;
  ex = λ d s a. rw (e d, instance_at-Ex) refl;
}

pub both_terms : (f g : Term → Term) → TermWalk f → TermWalk g → TermWalk (λ t. f (g t))
both_terms f g wf wg = record { app = λ s ts. rw (wg.app, wf.app, map-map) refl }

pub both_walks : (f f' : ℕ → Term → Term) (g g' : ℕ → Form → Form) → FormWalk f g → FormWalk f' g' → FormWalk (λ d t. f d (f' d t)) (λ d a. g d (g' d a))
both_walks f f' g g' w w' = record {
  atom = λ d p ts. rw (w'.atom, w.atom, map-map) refl;
  eq = λ d l r. rw (w'.eq, w.eq) refl;
  not = λ d a. rw (w'.not, w.not) refl;
  and = λ d as_. rw (w'.and, w.and, map-map) refl;
  or = λ d as_. rw (w'.or, w.or, map-map) refl;
  imp = λ d a b. rw (w'.imp, w.imp) refl;
  iff = λ d a b. rw (w'.iff, w.iff) refl;
  all = λ d s a. rw (w'.all, w.all) refl;
  ex = λ d s a. rw (w'.ex, w.ex) refl;
}

-- walks that agree on variables agree
pub same_terms : (f g : Term → Term) → TermWalk f → TermWalk g → ((k : ℕ) → f (Var k) ≡ g (Var k)) → (t : Term) → f t ≡ g t
same_terms f g wf wg e = term_induction _ (record { var = e; app = λ s ts all. rw (wf.app, wg.app) (ap (App s) (agree f g ts all)) })

pub same_forms : (f f' : ℕ → Term → Term) (g g' : ℕ → Form → Form) → FormWalk f g → FormWalk f' g' → ((d : ℕ) (t : Term) → f d t ≡ f' d t) → (a : Form) (d : ℕ) → g d a ≡ g' d a
same_forms f f' g g' w w' e = form_induction _ (record {
  atom = λ p ts d. rw (w.atom, w'.atom) (ap (Atom p) (agree_all (f d) (f' d) ts (e d)));
  eq = λ l r d. rw (w.eq, w'.eq, e d l, e d r) refl;
  not = λ a ih d. rw (w.not, w'.not) (ap Not (ih d));
  and = λ as_ all d. rw (w.and, w'.and) (ap And (agree (g d) (g' d) as_ (at (λ d a. g d a ≡ g' d a) as_ d all)));
  or = λ as_ all d. rw (w.or, w'.or) (ap Or (agree (g d) (g' d) as_ (at (λ d a. g d a ≡ g' d a) as_ d all)));
  imp = λ a b ih jh d. rw (w.imp, w'.imp, ih d, jh d) refl;
  iff = λ a b ih jh d. rw (w.iff, w'.iff, ih d, jh d) refl;
  all = λ s a ih d. rw (w.all, w'.all) (ap (All s) (ih (d + 1)));
  ex = λ s a ih d. rw (w.ex, w'.ex) (ap (Ex s) (ih (d + 1)));
})

-- binders stay as deep
pub same_depth : (f : ℕ → Term → Term) (g : ℕ → Form → Form) → FormWalk f g → (a : Form) (d : ℕ) → binder_depth (g d a) ≡ binder_depth a
same_depth f g w = form_induction _ (record {
  atom = λ p ts d. rw (w.atom, binder_depth-Atom, binder_depth-Atom) refl;
  eq = λ l r d. rw (w.eq, binder_depth-Eq, binder_depth-Eq) refl;
  not = λ a ih d. rw (w.not, binder_depth-Not, binder_depth-Not) (ih d);
  and = λ as_ all d. rw (w.and, binder_depth-And, binder_depth-And, map-map) (ap greatest (agree (λ a. binder_depth (g d a)) binder_depth as_ (at (λ d a. binder_depth (g d a) ≡ binder_depth a) as_ d all)));
  or = λ as_ all d. rw (w.or, binder_depth-Or, binder_depth-Or, map-map) (ap greatest (agree (λ a. binder_depth (g d a)) binder_depth as_ (at (λ d a. binder_depth (g d a) ≡ binder_depth a) as_ d all)));
  imp = λ a b ih jh d. rw (w.imp, binder_depth-Imp, binder_depth-Imp, ih d, jh d) refl;
  iff = λ a b ih jh d. rw (w.iff, binder_depth-Iff, binder_depth-Iff, ih d, jh d) refl;
  all = λ s a ih d. rw (w.all, binder_depth-All, binder_depth-All, ih (d + 1)) refl;
  ex = λ s a ih d. rw (w.ex, binder_depth-Ex, binder_depth-Ex, ih (d + 1)) refl;
})

agree_true : {X : Type 0} (f g : X → Bool) (xs : List X) → AllByRecursion (λ x. f x ≡ g x) xs → list_all f xs ≡ list_all g xs
agree_true f g [] e = refl
agree_true f g (x ∷ xs) e = rw (e.0, agree_true f g xs e.1) refl

-- sorts stay the same where those of variables do
module _ (v : Vocabulary) (old new : List ℕ) where
  pub same_sort : (f : Term → Term) → TermWalk f → ((k : ℕ) → sort_of_term v new (f (Var k)) ≡ slice_get old k) → (t : Term) → sort_of_term v new (f t) ≡ sort_of_term v old t
  same_sort f w e = term_induction _ (record {
    var = λ k. rw (sort_of_term-Var) (e k);
    app = λ s ts all. rw (w.app, sort_of_term-App, sort_of_term-App, map-map) (ap (applied (slice_get v.symbols s)) (agree (λ t. sort_of_term v new (f t)) (sort_of_term v old) ts all));
  })

  pub same_sorted : (f : ℕ → Term → Term) (g : ℕ → Form → Form) → FormWalk f g
      → ((front : List ℕ) (t : Term) → sort_of_term v (front ++ new) (f (length front) t) ≡ sort_of_term v (front ++ old) t)
      → (a : Form) (front : List ℕ) → is_sorted v (front ++ new) (g (length front) a) ≡ is_sorted v (front ++ old) a
  same_sorted f g w e = form_induction _ (record {
    atom = λ p ts front. rw (w.atom, is_sorted-Atom, is_sorted-Atom, map-map)
        (ap (holds_of (slice_get v.symbols p)) (agree_all (λ t. sort_of_term v (front ++ new) (f (length front) t)) (sort_of_term v (front ++ old)) ts (e front)));
    eq = λ l r front. rw (w.eq, is_sorted-Eq, is_sorted-Eq, e front l, e front r) refl;
    not = λ a ih front. rw (w.not, is_sorted-Not, is_sorted-Not) (ih front);
    and = λ as_ all front. rw (w.and, is_sorted-And, is_sorted-And, list_all-map)
        (agree_true (λ a. is_sorted v (front ++ new) (g (length front) a)) (is_sorted v (front ++ old)) as_ (at (λ front a. is_sorted v (front ++ new) (g (length front) a) ≡ is_sorted v (front ++ old) a) as_ front all));
    or = λ as_ all front. rw (w.or, is_sorted-Or, is_sorted-Or, list_all-map)
        (agree_true (λ a. is_sorted v (front ++ new) (g (length front) a)) (is_sorted v (front ++ old)) as_ (at (λ front a. is_sorted v (front ++ new) (g (length front) a) ≡ is_sorted v (front ++ old) a) as_ front all));
    imp = λ a b ih jh front. rw (w.imp, is_sorted-Imp, is_sorted-Imp, ih front, jh front) refl;
    iff = λ a b ih jh front. rw (w.iff, is_sorted-Iff, is_sorted-Iff, ih front, jh front) refl;
    all = λ s a ih front. rw (w.all, is_sorted-All, is_sorted-All, add-one) (ap (λ b. nat_lt s (length v.sorts) && b) (ih (s ∷ front)));
    ex = λ s a ih front. rw (w.ex, is_sorted-Ex, is_sorted-Ex, add-one) (ap (λ b. nat_lt s (length v.sorts) && b) (ih (s ∷ front)));
  })

-- The laws.
-- a place before what comes between, and one behind it
place_before : (front back back' : List ℕ) (k : ℕ) → k < length front → slice_get (front ++ back) k ≡ slice_get (front ++ back') k
place_before [] back back' k h = absurd (omega arith)
place_before (x ∷ front) back back' zero h = refl
place_before (x ∷ front) back back' (suc k) h = place_before front back back' k (omega arith)

place_behind : (front back : List ℕ) (k j : ℕ) → j ≡ k + length front → slice_get (front ++ back) j ≡ slice_get back k
place_behind [] back k j e = let same : j ≡ k = omega arith in rw same refl
place_behind (x ∷ front) back k zero e = absurd (omega arith)
place_behind (x ∷ front) back k (suc j) e = place_behind front back k j (omega arith)

module _ (v : Vocabulary) (new back : List ℕ) where
  lifted_place : (front : List ℕ) (k : ℕ) → sort_of_term v (front ++ (new ++ back)) (lifted_term (length new) (length front) (Var k)) ≡ slice_get (front ++ back) k
  lifted_place front k =
      elim (below_or_above k (length front)) [
        | inl h ↦ rw (stays (length new) (length front) k h, sort_of_term-Var) (place_before front (new ++ back) back k h)
        | inr h ↦
            rw (moves (length new) (length front) k h, sort_of_term-Var)
            (place_behind front (new ++ back) (k + length new - length front) (k + length new) (omega arith)
            ∙ place_behind new back (k - length front) (k + length new - length front) (omega arith)
            ∙ sym (place_behind front back (k - length front) k (omega arith)))
      ]

  -- lifting keeps sorts
  pub lifted_sort : (front : List ℕ) (t : Term) → sort_of_term v (front ++ (new ++ back)) (lifted_term (length new) (length front) t) ≡ sort_of_term v (front ++ back) t
  lifted_sort front = same_sort v (front ++ back) (front ++ (new ++ back)) (lifted_term (length new) (length front)) (lifting_term (length new) (length front)) (lifted_place front)

  pub lifted_fits : (a : Form) (front : List ℕ) → is_sorted v (front ++ (new ++ back)) (lifted (length new) (length front) a) ≡ is_sorted v (front ++ back) a
  lifted_fits = same_sorted v back (new ++ back) (λ d. lifted_term (length new) d) (λ d. lifted (length new) d) (lifting (length new) (λ d. d) (λ d. refl)) lifted_sort

module _ (v : Vocabulary) (t : Term) (s : ℕ) (back : List ℕ) (sort : sort_of_term v back t ≡ Some s) where
  placed_place : (front : List ℕ) (k : ℕ) → sort_of_term v (front ++ back) (instance_term t (length front) (Var k)) ≡ slice_get (front ++ s ∷ back) k
  placed_place front k =
      elim (below_or_above k (length front)) [
        | inl h ↦ rw (smaller t (length front) k h, sort_of_term-Var) (place_before front back (s ∷ back) k h)
        | inr h ↦
            elim (below_or_above (length front) k) [
              | inl g ↦
                  rw (greater t (length front) k g, sort_of_term-Var)
                  (place_behind front back (k - length front - 1) (k - 1) (omega arith)
                  ∙ sym (place_behind front (s ∷ back) (suc (k - length front - 1)) k (omega arith)))
              | inr g ↦
                  rw (here t (length front) k (omega arith))
                  (lifted_sort v front back [] t ∙ sort ∙ sym (place_behind front (s ∷ back) 0 k (omega arith)))
            ]
      ]

  -- an instance is sorted as what it is of
  pub instance_fits : (a : Form) (front : List ℕ) → is_sorted v (front ++ back) (instance_at t (length front) a) ≡ is_sorted v (front ++ s ∷ back) a
  instance_fits =
      same_sorted v (s ∷ back) back (λ d. instance_term t d) (λ d. instance_at t d) (placing t (λ d. d) (λ d. refl))
      (λ front. same_sort v (front ++ s ∷ back) (front ++ back) (instance_term t (length front)) (placing_term t (length front)) (placed_place front))

back_var : (d k : ℕ) → instance_term (Var 0) d (lifted_term 1 (d + 1) (Var k)) ≡ Var k
back_var d k =
    elim (below_or_above k (d + 1)) [
      | inl h ↦
          elim (below_or_above k d) [
            | inl g ↦ rw (stays 1 (d + 1) k h) (smaller (Var 0) d k g)
            | inr g ↦ let same : 0 + d ≡ k = omega arith in rw (stays 1 (d + 1) k h, here (Var 0) d k (omega arith), moves d 0 0 (omega arith), same) refl
          ]
      | inr h ↦ let same : k + 1 - 1 ≡ k = omega arith in rw (moves 1 (d + 1) k h, greater (Var 0) d (k + 1) (omega arith), same) refl
    ]

-- over a variable more, the instance at that variable is the formula
pub instance_back : (a : Form) (d : ℕ) → instance_at (Var 0) d (lifted 1 (d + 1) a) ≡ a
instance_back =
    same_forms _ _ _ _
    (both_walks _ _ _ _ (placing (Var 0) (λ d. d) (λ d. refl)) (lifting 1 (λ d. d + 1) (λ d. refl)))
    staying
    (λ d. same_terms _ _ (both_terms _ _ (placing_term (Var 0) d) (lifting_term 1 (d + 1))) staying_term (back_var d))

over_var : (t : Term) (d k : ℕ) → instance_term t d (lifted_term 1 d (Var k)) ≡ Var k
over_var t d k =
    elim (below_or_above k d) [
      | inl h ↦ rw (stays 1 d k h) (smaller t d k h)
      | inr h ↦ let same : k + 1 - 1 ≡ k = omega arith in rw (moves 1 d k h, greater t d (k + 1) (omega arith), same) refl
    ]

-- what was lifted over a variable has no instance but itself
pub instance_over : (t : Term) (a : Form) (d : ℕ) → instance_at t d (lifted 1 d a) ≡ a
instance_over t =
    same_forms _ _ _ _
    (both_walks _ _ _ _ (placing t (λ d. d) (λ d. refl)) (lifting 1 (λ d. d) (λ d. refl)))
    staying
    (λ d. same_terms _ _ (both_terms _ _ (placing_term t d) (lifting_term 1 d)) staying_term (over_var t d))
