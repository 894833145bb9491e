-- The images of the classes are a most general unifier.
use Rattle.std.proofs.Common.{ℕ, ◌+◌, ◌^◌, ◌≡◌, ◌<◌, ◌≤◌, List, [], ◌∷◌, length, map, sum, refl, sym, ap, ◌∙◌, arith, zero, suc, Option, Some, None}
use Rattle.std.specs.Prelude.{slice_get}
use Rattle.std.specs.Borrow.{Bor}
use Rattle.std.proofs.lemmas.Option.{slice_get-get_or}
use Rattle.std.proofs.lemmas.List.Sums.{sum-map, sum_by-cons}
use Rattle.std.proofs.lemmas.Simd.{map-map}
use Rattle.fof_terms.specs.Vocabulary.{Vocabulary}
use Rattle.fof_terms.specs.Count.{symbol_count, count_step}
use Rattle.fof_terms.proofs.Trees.{fold-App}
use Rattle.fof_terms.specs.Sorts.{applied as result_of, sort_of_term}
use Rattle.fof_terms.proofs.SortsFacts.{sort_of_term-Var, sort_of_term-App}
use Rattle.fof_terms.specs.declared.term.Term.{Term, Var, App}
use Rattle.unify_terms.specs.declared.node.Node.{Node}
use Rattle.unify_terms.specs.declared.node.Node.TheVariants.{Open, Rigid, Function}
use Rattle.unify_terms.specs.code.Graph.{IsGraph, Below, term_of, term_at, numbers_of}
use Rattle.unify_terms.specs.code.Classes.{class_of, AllBelow, Joins, Agrees, Closing}
use Rattle.unify_terms.specs.code.Order.{Fits, Among, Ordered}
use Rattle.unify_terms.specs.code.Images.{made_of, made, image_in, FewVariables}
use Rattle.unify_terms.proofs.SubstitutionFacts.{applied-Var, applied-App}
use Rattle.unify_terms.specs.Substitution.{image_at, instance, IsSubstitution}
use Rattle.unify_terms.specs.code.Solved.{value_at}
use Rattle.unify_terms.proofs.SolvedFacts.{IsGeneral}
use Rattle.unify_terms.proofs.Making.{image_made, AllClasses, order_induction}
use Rattle.unify_terms.proofs.Step.{numbers_below}
use Rattle.unify_terms.proofs.Valuations.{valuation}

pub count_App : (f : ℕ) (ts : List Term) → symbol_count (App f ts) ≡ 1 + sum (map symbol_count ts)
count_App f ts = fold-App ℕ count_step f ts

count_cons : (t : Term) (ts : List Term) → sum (map symbol_count (t ∷ ts)) ≡ symbol_count t + sum (map symbol_count ts)
count_cons t ts = sum-map symbol_count (t ∷ ts) ∙ sum_by-cons symbol_count t ts ∙ ap (λ n. symbol_count t + n) (sym (sum-map symbol_count ts))

pub few_variables : (v : Vocabulary) (sorts : List ℕ) (rigid : ℕ) (nodes : List Node) → IsGraph v sorts rigid nodes → length sorts ≤ 2 ^ 32 → FewVariables nodes
few_variables v sorts rigid nodes g few = record {
  opens = λ i e. let h = (g.opens i e).0 in omega arith;
  rigids = λ i e. let h = (g.rigids i e).0 in omega arith;
}

pub closed_fits : (v : Vocabulary) (sorts : List ℕ) (rigid : ℕ) (nodes : List Node) (pairs : List (ℕ × ℕ)) (classes : List ℕ) → IsGraph v sorts rigid nodes → Closing v sorts nodes pairs classes [] → Fits nodes classes
closed_fits v sorts rigid nodes pairs classes g closed = record { size = closed.size; within = closed.within; settled = closed.settled; numbers = numbers_below v sorts rigid nodes g }

module _ (v : Vocabulary) (sorts : List ℕ) (rigid : ℕ) (nodes : List Node) (g : IsGraph v sorts rigid nodes) (pairs : List (ℕ × ℕ)) (classes : List ℕ) (closed : Closing v sorts nodes pairs classes [])
    (order : List ℕ) (ordered : Ordered nodes classes order) (complete : (i : ℕ) → i < length nodes → class_of classes i ≡ i → Among i order) where
  abbrev image : ℕ → Term
  image = image_in nodes classes order

  abbrev class_image : ℕ → Term
  class_image i = image (class_of classes i)

  among : (i : ℕ) → i < length nodes → Among (class_of classes i) order
  among i h = complete (class_of classes i) (closed.within i h) (closed.settled i h)

  made_at : (r : ℕ) → r < length nodes → class_of classes r ≡ r → image r ≡ made nodes classes image r
  made_at r h own = image_made nodes classes order ordered r (complete r h own)

  variable_of : (k : ℕ) (o : Option Node) → slice_get nodes k ≡ o → k < length sorts → term_of o k ≡ Var k
  variable_of k None e h = refl
  variable_of k (Some Open) e h = refl
  variable_of k (Some Rigid) e h = refl
  variable_of k (Some (Function f args numbers)) e h = let past = (g.function k f args numbers e).0 in absurd (omega arith)

  variable_at : (k : ℕ) → k < length sorts → term_at nodes k ≡ Var k
  variable_at k h = variable_of k (slice_get nodes k) refl h

  variable_below : (k : ℕ) → k < length sorts → k < length nodes
  variable_below k h = let vars = g.variables in omega arith

  rigid_of : (k : ℕ) (o : Option Node) → slice_get nodes k ≡ o → k < length sorts → k < rigid → slice_get nodes k ≡ Some Rigid
  rigid_of k None e h low = let there = slice_get-get_or nodes k Open (variable_below k h) in cc
  rigid_of k (Some Open) e h low = let high = (g.opens k e).1 in absurd (omega arith)
  rigid_of k (Some Rigid) e h low = e
  rigid_of k (Some (Function f args numbers)) e h low = let past = (g.function k f args numbers e).0 in absurd (omega arith)

  -- an image has the sort of its class
  abbrev Sorted : ℕ → Type 0
  Sorted i = sort_of_term v sorts (image i) ≡ sort_of_term v sorts (term_at nodes i)

  sorts_same : (numbers : List ℕ) → Below (length nodes) numbers → AllClasses nodes classes Sorted numbers → map (sort_of_term v sorts) (map class_image numbers) ≡ map (sort_of_term v sorts) (map (term_at nodes) numbers)
  sorts_same [] below all = refl
  sorts_same (j ∷ numbers) below all = rw (all.0 ∙ closed.sorted j below.0, sorts_same numbers below.1 all.1) refl

  sorted_of : (r : ℕ) (o : Option Node) → slice_get nodes r ≡ o → AllClasses nodes classes Sorted (numbers_of o) → sort_of_term v sorts (made_of o classes image r) ≡ sort_of_term v sorts (term_of o r)
  sorted_of r None e all = refl
  sorted_of r (Some Open) e all = refl
  sorted_of r (Some Rigid) e all = refl
  sorted_of r (Some (Function f args numbers)) e all =
      let was = g.function r f args numbers e in
      sort_of_term-App v sorts f (map class_image numbers) ∙ ap (result_of (slice_get v.symbols f)) (sorts_same numbers was.2 all ∙ ap (map (sort_of_term v sorts)) (sym was.1)) ∙ sym (sort_of_term-App v sorts f args.now)

  sorted_image : (i : ℕ) → Among i order → Sorted i
  sorted_image = order_induction nodes classes Sorted (λ r h own all. ap (sort_of_term v sorts) (made_at r h own) ∙ sorted_of r (slice_get nodes r) refl all) order ordered

  module _ (target : List ℕ) (other : List Term) (sub : IsSubstitution v sorts rigid target other) (joins : Joins (value_at nodes other) pairs) where
    agrees : Agrees (value_at nodes other) (length nodes) classes
    agrees = (closed.complete target (value_at nodes other) (valuation v sorts rigid target other sub nodes g) joins).0

    -- a unifier doesn't see the images
    abbrev Absorbed : ℕ → Type 0
    Absorbed i = instance other (image i) ≡ value_at nodes other i

    absorbed_same : (numbers : List ℕ) → Below (length nodes) numbers → AllClasses nodes classes Absorbed numbers → map (instance other) (map class_image numbers) ≡ map (instance other) (map (term_at nodes) numbers)
    absorbed_same [] below all = refl
    absorbed_same (j ∷ numbers) below all = rw (all.0 ∙ sym (agrees j below.0), absorbed_same numbers below.1 all.1) refl

    absorbed_of : (r : ℕ) (o : Option Node) → slice_get nodes r ≡ o → AllClasses nodes classes Absorbed (numbers_of o) → instance other (made_of o classes image r) ≡ instance other (term_of o r)
    absorbed_of r None e all = refl
    absorbed_of r (Some Open) e all = refl
    absorbed_of r (Some Rigid) e all = refl
    absorbed_of r (Some (Function f args numbers)) e all =
        let was = g.function r f args numbers e in
        applied-App (image_at other) f (map class_image numbers) ∙ ap (App f) (absorbed_same numbers was.2 all ∙ ap (map (instance other)) (sym was.1)) ∙ sym (applied-App (image_at other) f args.now)

    absorbed : (i : ℕ) → Among i order → Absorbed i
    absorbed = order_induction nodes classes Absorbed (λ r h own all. ap (instance other) (made_at r h own) ∙ absorbed_of r (slice_get nodes r) refl all) order ordered

    absorbed_variable : (k : ℕ) → k < length sorts → image_at other k ≡ instance other (class_image k)
    absorbed_variable k h =
        sym (applied-Var (image_at other) k) ∙ ap (instance other) (sym (variable_at k h)) ∙ agrees k (variable_below k h) ∙ sym (absorbed (class_of classes k) (among k (variable_below k h)))

  module _ (images : List Term) (size : length images ≡ length sorts) (are : (k : ℕ) → k < length sorts → image_at images k ≡ class_image k) where
    -- each node's value is the image of its class
    abbrev Shown : ℕ → Type 0
    Shown i = value_at nodes images i ≡ class_image i

    shown_same : (most : ℕ) → ((j : ℕ) → symbol_count (term_at nodes j) < most → j < length nodes → Shown j) → (numbers : List ℕ) → Below (length nodes) numbers → sum (map symbol_count (map (term_at nodes) numbers)) < most
        → map (instance images) (map (term_at nodes) numbers) ≡ map class_image numbers
    shown_same most ih [] below small = refl
    shown_same most ih (j ∷ numbers) below small =
        let total = count_cons (term_at nodes j) (map (term_at nodes) numbers) in
        let total' : sum (map symbol_count (map (term_at nodes) (j ∷ numbers))) ≡ symbol_count (term_at nodes j) + sum (map symbol_count (map (term_at nodes) numbers)) = total in
        rw (ih j (omega arith) below.0, shown_same most ih numbers below.1 (omega arith)) refl

    congruent_numbers : (i f : ℕ) (args : Bor (List Term)) (numbers : List ℕ) → slice_get nodes i ≡ Some (Function f args numbers) → i < length nodes → App f (map class_image numbers) ≡ class_image i
    congruent_numbers i f args numbers e h =
        let same = (closed.sound (class_of classes) (λ j lt. sym (closed.settled j lt)) tt).0 i f args numbers e in
        ap (App f) (sym (map-map image (class_of classes) numbers) ∙ ap (map image) same.3 ∙ map-map image (class_of classes) same.1)
        ∙ ap (λ o. made_of o classes image (class_of classes i)) (sym same.2) ∙ sym (made_at (class_of classes i) (closed.within i h) (closed.settled i h))

    shown_of : (most i : ℕ) → ((j : ℕ) → symbol_count (term_at nodes j) < most → j < length nodes → Shown j) → (o : Option Node) → slice_get nodes i ≡ o → i < length nodes → symbol_count (term_of o i) < suc most
        → instance images (term_of o i) ≡ class_image i
    shown_of most i ih None e h small = let there = slice_get-get_or nodes i Open h in cc
    shown_of most i ih (Some Open) e h small = applied-Var (image_at images) i ∙ are i (g.opens i e).0
    shown_of most i ih (Some Rigid) e h small = applied-Var (image_at images) i ∙ are i (g.rigids i e).0
    shown_of most i ih (Some (Function f args numbers)) e h small =
        let was = g.function i f args numbers e in
        let count = count_App f args.now in
        let count' : sum (map symbol_count args.now) ≡ sum (map symbol_count (map (term_at nodes) numbers)) = ap (λ ts. sum (map symbol_count ts)) was.1 in
        applied-App (image_at images) f args.now ∙ ap (App f) (ap (map (instance images)) was.1 ∙ shown_same most ih numbers was.2 (omega arith)) ∙ congruent_numbers i f args numbers e h

    shown : (most i : ℕ) → symbol_count (term_at nodes i) < most → i < length nodes → Shown i
    shown zero i small h = absurd (omega arith)
    shown (suc most) i small h = shown_of most i (shown most) (slice_get nodes i) refl h small

    shown_at : (i : ℕ) → i < length nodes → Shown i
    shown_at i h = shown (symbol_count (term_at nodes i) + 1) i (omega arith) h

    rigid_image : (k : ℕ) → k < length sorts → k < rigid → class_image k ≡ Var k
    rigid_image k h low =
        let at = rigid_of k (slice_get nodes k) refl h low in
        let own = closed.rigids k at in
        ap image own ∙ made_at k (variable_below k h) own ∙ ap (λ o. made_of o classes image k) at

    all_joined : (ps : List (ℕ × ℕ)) → AllBelow (length nodes) ps → Joins (class_of classes) ps → Joins (value_at nodes images) ps
    all_joined [] below j = tt
    all_joined (p ∷ ps) below j = (shown_at p.0 below.0.0 ∙ ap image j.0 ∙ sym (shown_at p.1 below.0.1), all_joined ps below.1 j.1)

    pub general : AllBelow (length nodes) pairs → IsGeneral v sorts rigid nodes pairs images
    general below = record {
      is_substitution = record {
        size = size;
        sorted = λ k h.
            ap (sort_of_term v sorts) (are k h) ∙ sorted_image (class_of classes k) (among k (variable_below k h)) ∙ closed.sorted k (variable_below k h)
            ∙ ap (sort_of_term v sorts) (variable_at k h) ∙ sort_of_term-Var v sorts k;
        rigids = λ k h low. are k h ∙ rigid_image k h low;
      };
      joins = all_joined pairs below (closed.sound (class_of classes) (λ j lt. sym (closed.settled j lt)) tt).1;
      general = λ target other sub joins k h. absorbed_variable target other sub joins k h ∙ ap (instance other) (sym (are k h));
    }
