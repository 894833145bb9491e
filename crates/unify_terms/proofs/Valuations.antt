-- Substitutions as valuations of nodes, and pairs of terms as pairs of nodes.
use Rattle.std.proofs.Common.{ℕ, ◌+◌, ◌≡◌, ◌≢◌, ◌<◌, ◌≤◌, ◌++◌, List, [], ◌∷◌, length, map, take, get_or, refl, sym, ap, subst, ◌∙◌, arith, length-append, append_assoc, append-nil, Some, None, inl, inr}
use Rattle.std.specs.Prelude.{slice_get, Result, Ok, Err, OnOk}
use Rattle.std.specs.List.{AllByRecursion}
use Rattle.std.proofs.lemmas.Option.{slice_get-get_or, slice_get_past}
use Rattle.std.proofs.lemmas.List.{take_more}
use Rattle.std.proofs.lemmas.Simd.{map-map}
use Rattle.fof_terms.specs.Vocabulary.{Vocabulary}
use Rattle.fof_terms.proofs.Induction.{term_induction}
use Rattle.fof_terms.specs.Sorts.{applied as result_of, sort_of_term}
use Rattle.fof_terms.proofs.SortsFacts.{sort_of_term-Var, sort_of_term-App}
use Rattle.fof_terms.specs.declared.term.Term.{Term, Var, App}
use Rattle.unify_terms.specs.declared.node.Node.{Node}
use Rattle.unify_terms.specs.declared.node.Node.TheVariants.{Open, Rigid}
use Rattle.unify_terms.specs.declared.pair.Pair.{Pair}
use Rattle.unify_terms.specs.code.Graph.{IsGraph, term_of, term_at, Fit, IsAdded, AreVariables, Stand, AddedPairs, ArePairsAdded, AddsPairs, IsGraphOf}
use Rattle.unify_terms.specs.code.Classes.{AllBelow, Joins, IsValuation}
use Rattle.unify_terms.proofs.SubstitutionFacts.{applied-Var, applied-App}
use Rattle.unify_terms.specs.Substitution.{applied, image_at, instance, IsSubstitution}
use Rattle.unify_terms.specs.Unifiers.{IsMostGeneral, Unifies, AreSorted}
use Rattle.unify_terms.specs.code.Solved.{value_at}
use Rattle.unify_terms.proofs.SolvedFacts.{IsGeneral}
use Rattle.unify_terms.proofs.Adding.{fit_args, term_stays, below_or_past}

module _ (v : Vocabulary) (sorts target : List ℕ) (image : ℕ → Term) (fits : (k : ℕ) → k < length sorts → sort_of_term v target (image k) ≡ slice_get sorts k) where
  in_scope : (i : ℕ) → slice_get sorts i ≢ None → i < length sorts
  in_scope i ne = elim (below_or_past i (length sorts)) [
    | inl h ↦ h
    | inr h ↦ absurd (ne (slice_get_past sorts i h))
  ]

  abbrev Keeps : Term → Type 0
  Keeps t = sort_of_term v sorts t ≢ None → sort_of_term v target (applied image t) ≡ sort_of_term v sorts t

  keeps_all : (ts : List Term) → AllByRecursion Keeps ts → Fit v sorts ts → map (sort_of_term v target) (map (applied image) ts) ≡ map (sort_of_term v sorts) ts
  keeps_all [] all fit = refl
  keeps_all (t ∷ ts) all fit = rw (all.0 fit.0, keeps_all ts all.1 fit.1) refl

  -- where images have the sorts of their variables, an instance has the sort of the term
  pub keeps_sorts : (t : Term) → Keeps t
  keeps_sorts = term_induction Keeps (record {
    var = λ k ne.
        let is = sort_of_term-Var v sorts k in
        ap (sort_of_term v target) (applied-Var image k) ∙ fits k (in_scope k (λ e. ne (is ∙ e))) ∙ sym is;
    app = λ f ts all ne.
        ap (sort_of_term v target) (applied-App image f ts) ∙ sort_of_term-App v target f (map (applied image) ts)
        ∙ ap (result_of (slice_get v.symbols f)) (keeps_all ts all (fit_args v sorts f ts ne)) ∙ sym (sort_of_term-App v sorts f ts);
  })

module _ (v : Vocabulary) (sorts : List ℕ) (rigid : ℕ) (target : List ℕ) (other : List Term) (sub : IsSubstitution v sorts rigid target other) where
  module _ (nodes : List Node) (g : IsGraph v sorts rigid nodes) where
    pub valuation : IsValuation v sorts target nodes (value_at nodes other)
    valuation = record {
      functions = λ i f args numbers at.
          ap (λ o. instance other (term_of o i)) at ∙ applied-App (image_at other) f args.now
          ∙ ap (λ ts. App f (map (instance other) ts)) (g.function i f args numbers at).1 ∙ ap (App f) (map-map (instance other) (term_at nodes) numbers);
      rigids = λ i at.
          ap (λ o. instance other (term_of o i)) at ∙ applied-Var (image_at other) i ∙ sub.rigids i (g.rigids i at).0 (g.rigids i at).1;
      sorted = λ i h. keeps_sorts v sorts target (image_at other) sub.sorted (term_at nodes i) (g.sorted i h);
    }

module _ (nodes : List Node) (images : List Term) where
  pub joins_unify : (pairs : List Pair) (numbers : List (ℕ × ℕ)) → Stand nodes pairs numbers → Joins (value_at nodes images) numbers → Unifies images pairs
  joins_unify [] [] s j = tt
  joins_unify [] (n ∷ numbers) s j = absurd s
  joins_unify (p ∷ pairs) [] s j = absurd s
  joins_unify (p ∷ pairs) (n ∷ numbers) s j = (sym (ap (instance images) s.0.2) ∙ j.0 ∙ ap (instance images) s.0.3, joins_unify pairs numbers s.1 j.1)

  pub unify_joins : (pairs : List Pair) (numbers : List (ℕ × ℕ)) → Stand nodes pairs numbers → Unifies images pairs → Joins (value_at nodes images) numbers
  unify_joins [] [] s u = tt
  unify_joins [] (n ∷ numbers) s u = absurd s
  unify_joins (p ∷ pairs) [] s u = absurd s
  unify_joins (p ∷ pairs) (n ∷ numbers) s u = (ap (instance images) s.0.2 ∙ u.0 ∙ sym (ap (instance images) s.0.3), unify_joins pairs numbers s.1 u.1)

pub stand_below : (nodes : List Node) (pairs : List Pair) (numbers : List (ℕ × ℕ)) → Stand nodes pairs numbers → AllBelow (length nodes) numbers
stand_below nodes [] [] s = tt
stand_below nodes [] (n ∷ numbers) s = absurd s
stand_below nodes (p ∷ pairs) [] s = absurd s
stand_below nodes (p ∷ pairs) (n ∷ numbers) s = ((s.0.0, s.0.1), stand_below nodes pairs numbers s.1)

stand_more : (old more : List Node) (pairs : List Pair) (numbers : List (ℕ × ℕ)) → Stand old pairs numbers → Stand (old ++ more) pairs numbers
stand_more old more [] [] s = tt
stand_more old more [] (n ∷ numbers) s = absurd s
stand_more old more (p ∷ pairs) [] s = absurd s
stand_more old more (p ∷ pairs) (n ∷ numbers) s =
    let size = length-append old more in
    let l = s.0.0 in
    let r = s.0.1 in
    ((omega arith, omega arith, term_stays old more n.0 l ∙ s.0.2, term_stays old more n.1 r ∙ s.0.3), stand_more old more pairs numbers s.1)

stand_end : (nodes : List Node) (pairs : List Pair) (numbers : List (ℕ × ℕ)) (p : Pair) (n : ℕ × ℕ) → Stand nodes pairs numbers → n.0 < length nodes → n.1 < length nodes → term_at nodes n.0 ≡ p.left → term_at nodes n.1 ≡ p.right
    → Stand nodes (pairs ++ p ∷ []) (numbers ++ n ∷ [])
stand_end nodes [] [] p n s h k e d = ((h, k, e, d), tt)
stand_end nodes [] (m ∷ numbers) p n s h k e d = absurd s
stand_end nodes (q ∷ pairs) [] p n s h k e d = absurd s
stand_end nodes (q ∷ pairs) (m ∷ numbers) p n s h k e d = (s.0, stand_end nodes pairs numbers p n s.1 h k e d)

sorted_front : (v : Vocabulary) (sorts : List ℕ) (ps qs : List Pair) → AreSorted v sorts (ps ++ qs) → AreSorted v sorts ps
sorted_front v sorts [] qs s = tt
sorted_front v sorts (p ∷ ps) qs s = (s.0, sorted_front v sorts ps qs s.1)

sorted_back : (v : Vocabulary) (sorts : List ℕ) (ps qs : List Pair) → AreSorted v sorts (ps ++ qs) → AreSorted v sorts qs
sorted_back v sorts [] qs s = s
sorted_back v sorts (p ∷ ps) qs s = sorted_back v sorts ps qs s.1

pair_more : (old mid half new : List Node) (given : List Pair) (item : Pair) (numbers more : List (ℕ × ℕ)) (left right : ℕ)
    → ArePairsAdded old given mid numbers → IsAdded mid item.left half left → IsAdded half item.right new right → more ≡ numbers ++ (left, right) ∷ [] → ArePairsAdded old (given ++ item ∷ []) new more
pair_more old mid half new given item numbers more left right before first second e v sorts rigid g fits =
    let was = before v sorts rigid g (sorted_front v sorts given (item ∷ []) fits) in
    let here = (sorted_back v sorts given (item ∷ []) fits).0 in
    let l = first v sorts rigid was.graph here.0 in
    let r = second v sorts rigid l.graph here.1 in
    let stand : Stand new given numbers = subst (λ ns. Stand ns given numbers) (sym r.extends) (stand_more half r.more given numbers
    (subst (λ ns. Stand ns given numbers) (sym l.extends) (stand_more mid l.more given numbers was.stand))) in
    let longer : length half ≤ length new = omega (arith, ap length r.extends, length-append half r.more) in
    let left_is : term_at new left ≡ item.left = ap (λ ns. term_at ns left) r.extends ∙ term_stays half r.more left l.below ∙ l.is in
    let left_below = l.below in
    subst (AddedPairs v sorts rigid (given ++ item ∷ []) new) (sym e)
    (record { graph = r.graph; stand = stand_end new given numbers item (left, right) stand (omega arith) r.below left_is r.is })

pub pairs_turn : (first second half third : List Node) (pairs : List Pair) (i : ℕ) (item : Pair) (start numbers more : List (ℕ × ℕ)) (left right : ℕ) → i < length pairs → item ≡ get_or pairs i item
    → AddsPairs (take i pairs) first start second numbers → IsAdded second item.left half left → IsAdded half item.right third right → more ≡ numbers ++ (left, right) ∷ [] → AddsPairs (take (i + 1) pairs) first start third more
pairs_turn first second half third pairs i item start numbers more left right h is before l r e old given a =
    let front : take (i + 1) pairs ≡ take i pairs ++ item ∷ [] = take_more pairs i item h ∙ ap (λ t. take i pairs ++ t ∷ []) (sym is) in
    let all : given ++ take (i + 1) pairs ≡ (given ++ take i pairs) ++ item ∷ [] = ap (λ ps. given ++ ps) front ∙ sym (append_assoc given (take i pairs) (item ∷ [])) in
    subst (λ ps. ArePairsAdded old ps third more) (sym all) (pair_more old second half third (given ++ take i pairs) item numbers more left right (before old given a) l r e)

-- what holds where a result is Ok
pub ok_both : {X E : Type 0} {P Q : Type 0} (r : Result X E) → (P → Q) → OnOk r P → OnOk r Q
ok_both (Ok x) f p = f p
ok_both (Err e) f p = p

pub adds_none : (nodes : List Node) (numbers : List (ℕ × ℕ)) → AddsPairs [] nodes numbers nodes numbers
adds_none nodes numbers old given a = subst (λ ps. ArePairsAdded old ps nodes numbers) (sym (append-nil given)) a

pub adds_both : (first second third : List Node) (some more all : List (ℕ × ℕ)) (ps qs : List Pair) → AddsPairs ps first some second more → AddsPairs qs second more third all → AddsPairs (ps ++ qs) first some third all
adds_both first second third some more all ps qs a b old given was = subst (λ rs. ArePairsAdded old rs third all) (append_assoc given ps qs) (b old (given ++ ps) (a old given was))

pub variables_graph : (v : Vocabulary) (sorts : List ℕ) (rigid : ℕ) (nodes : List Node) → AreVariables sorts rigid nodes → IsGraph v sorts rigid nodes
variables_graph v sorts rigid nodes a = record {
  variables = let e = a.0 in omega arith;
  opens = λ i at. let h = within i (λ e. let q = at in cc) in (
    let e = a.0 in omega arith,
    elim (a.1 i h) [
      | inl p ↦ let q = p.1 in absurd (open_rigid (sym at ∙ q))
      | inr p ↦ p.0
    ],
  );
  rigids = λ i at. let h = within i (λ e. let q = at in cc) in (
    let e = a.0 in omega arith,
    elim (a.1 i h) [
      | inl p ↦ p.0
      | inr p ↦ let q = p.1 in absurd (open_rigid (sym q ∙ at))
    ],
  );
  function = λ i f args numbers at. let h = within i (λ e. let q = at in cc) in elim (a.1 i h) [
    | inl p ↦ let q = p.1 in cc
    | inr p ↦ let q = p.1 in cc
  ];
  sorted = λ i h. elim (a.1 i h) [
    | inl p ↦ variable_sorted i (ap (λ o. term_of o i) p.1) (let e = a.0 in omega arith)
    | inr p ↦ variable_sorted i (ap (λ o. term_of o i) p.1) (let e = a.0 in omega arith)
  ];
}
  where
    within : (i : ℕ) → slice_get nodes i ≢ None → i < length nodes
    within i ne = elim (below_or_past i (length nodes)) [
      | inl h ↦ h
      | inr h ↦ absurd (ne (slice_get_past nodes i h))
    ]

    open_rigid : Some Open ≡ Some Rigid → ⊥
    open_rigid e = cc

    variable_sorted : (i : ℕ) → term_at nodes i ≡ Var i → i < length sorts → sort_of_term v sorts (term_at nodes i) ≢ None
    variable_sorted i is h none =
        let there = slice_get-get_or sorts i 0 h in
        let gone = sym (sort_of_term-Var v sorts i) ∙ ap (sort_of_term v sorts) (sym is) ∙ none in
        cc

-- the graph of pairs, from the nodes of the variables
pub graph_of_pairs : (sorts : List ℕ) (rigid : ℕ) (pairs : List Pair) (first new : List Node) (numbers : List (ℕ × ℕ)) → AreVariables sorts rigid first → AddsPairs pairs first [] new numbers → IsGraphOf sorts rigid pairs new numbers
graph_of_pairs sorts rigid pairs first new numbers vars adds v fits =
    adds first [] (λ w s r g none. record { graph = g; stand = tt }) v sorts rigid (variables_graph v sorts rigid first vars) fits

pub most_general : (v : Vocabulary) (sorts : List ℕ) (rigid : ℕ) (nodes : List Node) (pairs : List Pair) (numbers : List (ℕ × ℕ)) (images : List Term) → Stand nodes pairs numbers → IsGeneral v sorts rigid nodes numbers images → IsMostGeneral v sorts rigid pairs images
most_general v sorts rigid nodes pairs numbers images stand g = record {
  is_substitution = g.is_substitution;
  unifies = joins_unify nodes images pairs numbers stand g.joins;
  general = λ target other sub u. record { by = other; is_substitution = sub; instances = g.general target other sub (unify_joins nodes other pairs numbers stand u) };
}
