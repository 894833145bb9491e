-- Variables that are bound while terms are made equal.
use Rattle.std.proofs.Common.{ℕ, ◌+◌, ◌≡◌, ◌≢◌, ◌<◌, ◌≤◌, ◌++◌, List, [], ◌∷◌, length, map, take, get_or, refl, sym, ap, subst, ◌∙◌, arith, zero, suc, below_more, Option, Some, None, ◌⊎◌, inl, inr}
use Rattle.std.specs.Prelude.{slice_get, IfSome}
use Rattle.std.specs.Borrow.{Bor}
use Rattle.std.proofs.Math.ListN.{set}
use Rattle.std.proofs.lemmas.List.{get_or-set_same, get_or-set_other, get_or_past, length-set, length-map, take_more}
use Rattle.fof_terms.specs.Vocabulary.{Vocabulary}
use Rattle.fof_terms.specs.Sorts.{sort_of_term}
use Rattle.fof_terms.proofs.SortsFacts.{sort_of_term-Var}
use Rattle.fof_terms.specs.declared.term.Term.{Term, Var, App}
use Rattle.unify_terms.specs.declared.pair.Pair.{Pair}
use Rattle.unify_terms.specs.declared.binding.Equating.{Equating}
use Rattle.unify_terms.specs.declared.binding.Equating.TheVariants.{Equal, Clash, Unknown}
use Rattle.unify_terms.specs.Substitution.{image_at, instance}
use Rattle.unify_terms.specs.Unifiers.{AreSorted, Unifies}
use Rattle.unify_terms.specs.code.Binding.{bound_of, bound_at, Obeys, AreBound, IsResolved, Same, AllSame, Adds, Equated}
use Rattle.unify_terms.proofs.Adding.{below_or_past}
use Rattle.unify_terms.proofs.Heads.{App-injective}
use Rattle.unify_terms.proofs.SubstitutionFacts.{applied-Var, applied-App}

same_or_not : (k n : ℕ) → (k ≡ n) ⊎ (k ≢ n)
same_or_not zero zero = inl refl
same_or_not zero (suc n) = inr (λ e. omega arith)
same_or_not (suc k) zero = inr (λ e. omega arith)
same_or_not (suc k) (suc n) = elim (same_or_not k n) [
  | inl e ↦ inl (ap suc e)
  | inr ne ↦ inr (λ e. ne (omega arith))
]

module _ (bound : List (Option (Bor Term))) where
  pub free_at : (k : ℕ) → get_or bound k None ≡ None → bound_at bound k ≡ Var k
  free_at k free = ap (λ o. bound_of o k) free

  free_value : (images : List Term) (k : ℕ) → get_or bound k None ≡ None → image_at images k ≡ instance images (bound_at bound k)
  free_value images k free = sym (ap (instance images) (free_at k free) ∙ applied-Var (image_at images) k)

  module _ (none : (k : ℕ) → get_or bound k None ≡ None) where
    pub obeys_none : (images : List Term) → Obeys images bound
    obeys_none images = record { values = λ k. free_value images k (none k) }

    pub none_are : (v : Vocabulary) (sorts : List ℕ) (rigid : ℕ) → length bound ≡ length sorts → AreBound v sorts rigid bound
    none_are v sorts rigid size = record {
      size = size;
      sorted = λ k h. ap (sort_of_term v sorts) (free_at k (none k)) ∙ sort_of_term-Var v sorts k;
      rigids = λ k h. free_at k (none k);
    }

  pub adds_none : (P : List Term → Type 0) → ((images : List Term) → P images) → Adds bound bound P
  adds_none P all = record { forth = λ images o. (o, all images); back = λ images o p. o }

  pub resolved_self : (t : Term) → IsResolved bound t t
  resolved_self t = record { same = λ images o. refl; sorted = λ v sorts rigid a. refl }

  pub resolved_then : (a b c : Term) → IsResolved bound a b → IsResolved bound b c → IsResolved bound a c
  resolved_then a b c first second = record {
    same = λ images o. first.same images o ∙ second.same images o;
    sorted = λ v sorts rigid are. second.sorted v sorts rigid are ∙ first.sorted v sorts rigid are;
  }

  pub resolved_sorted : (v : Vocabulary) (sorts : List ℕ) (rigid : ℕ) (lent : List (Option (Bor Term))) (a b : Term) → lent ≡ bound → AreBound v sorts rigid bound → IsResolved lent a b → sort_of_term v sorts a ≢ None
      → sort_of_term v sorts b ≢ None
  resolved_sorted v sorts rigid lent a b same are r ne e = ne (sym (r.sorted v sorts rigid (subst (AreBound v sorts rigid) (sym same) are)) ∙ e)

  bound_within : (k : ℕ) (t : Bor Term) → get_or bound k None ≡ Some t → k < length bound
  bound_within k t at = elim (below_or_past k (length bound)) [
    | inl h ↦ h
    | inr h ↦ let past = get_or_past bound k None h in cc
  ]

  pub resolved_variable : (k : ℕ) (t : Bor Term) → get_or bound k None ≡ Some t → IsResolved bound (Var k) t.now
  resolved_variable k t at = record {
    same = λ images o. applied-Var (image_at images) k ∙ o.values k ∙ ap (instance images) (ap (λ o. bound_of o k) at);
    sorted = λ v sorts rigid are.
        let within = bound_within k t at in
        let size = are.size in
        ap (sort_of_term v sorts) (sym (ap (λ o. bound_of o k) at)) ∙ are.sorted k (omega arith) ∙ sym (sort_of_term-Var v sorts k);
  }

  pub resolved_next : (k : ℕ) (o : Option (Bor Term)) → o ≡ get_or bound k None → IfSome o (λ next. IsResolved bound (Var k) next.now)
  resolved_next k None e = tt
  resolved_next k (Some t) e = resolved_variable k t (sym e)

  module _ (at : ℕ) (t : Bor Term) (within : at < length bound) where
    bound_here : bound_at (set bound at (Some t)) at ≡ t.now
    bound_here = ap (λ o. bound_of o at) (get_or-set_same bound at (Some t) None within)

    bound_other : (k : ℕ) → k ≢ at → bound_at (set bound at (Some t)) k ≡ bound_at bound k
    bound_other k ne = ap (λ o. bound_of o k) (get_or-set_other bound at k (Some t) None ne)

    module _ (free : get_or bound at None ≡ None) where
      bind_adds : Adds bound (set bound at (Some t)) (Same (Var at) t.now)
      bind_adds = record {
        forth = λ images o. (
          record {
            values = λ k. elim (same_or_not k at) [
              | inl e ↦ subst (λ j. image_at images j ≡ instance images (bound_at bound j)) (sym e) (free_value images at free)
              | inr ne ↦ o.values k ∙ ap (instance images) (bound_other k ne)
            ];
          },
          applied-Var (image_at images) at ∙ o.values at ∙ ap (instance images) bound_here,
        );
        back = λ images o same. record {
          values = λ k. elim (same_or_not k at) [
            | inl e ↦ subst (λ j. image_at images j ≡ instance images (bound_at (set bound at (Some t)) j)) (sym e) (sym (applied-Var (image_at images) at) ∙ same ∙ ap (instance images) (sym bound_here))
            | inr ne ↦ o.values k ∙ ap (instance images) (sym (bound_other k ne))
          ];
        };
      }

      bind_are : (v : Vocabulary) (sorts : List ℕ) (rigid : ℕ) → AreBound v sorts rigid bound → rigid ≤ at → sort_of_term v sorts t.now ≡ slice_get sorts at → AreBound v sorts rigid (set bound at (Some t))
      bind_are v sorts rigid are low sort = record {
        size = length-set bound at (Some t) ∙ are.size;
        sorted = λ k h. elim (same_or_not k at) [
          | inl e ↦ subst (λ j. sort_of_term v sorts (bound_at (set bound at (Some t)) j) ≡ slice_get sorts j) (sym e) (ap (sort_of_term v sorts) bound_here ∙ sort)
          | inr ne ↦ ap (sort_of_term v sorts) (bound_other k ne) ∙ are.sorted k h
        ];
        rigids = λ k h. bound_other k (λ e. omega arith) ∙ are.rigids k h;
      }

      pub bind_equates : (v : Vocabulary) (sorts : List ℕ) (rigid : ℕ) → AreBound v sorts rigid bound → rigid ≤ at → sort_of_term v sorts t.now ≡ slice_get sorts at
          → Equated v sorts rigid bound (set bound at (Some t)) (Same (Var at) t.now) Equal
      bind_equates v sorts rigid are low sort = (bind_are v sorts rigid are low sort, bind_adds)

module _ (v : Vocabulary) (sorts : List ℕ) (rigid : ℕ) (old new : List (Option (Bor Term))) where
  -- a property that holds of the same substitutions among those that obey
  pub equated_as : (P Q : List Term → Type 0) (e : Equating) → ((images : List Term) → Obeys images old → P images → Q images) → ((images : List Term) → Obeys images old → Q images → P images)
      → Equated v sorts rigid old new P e → Equated v sorts rigid old new Q e
  equated_as P Q Equal to from made = (
    made.0,
    record {
      forth = λ images o. let was = made.1.forth images o in (was.0, to images was.0 was.1);
      back = λ images o q. made.1.back images o (from images o q);
    },
  )
  equated_as P Q Clash to from made = λ images o q. made images o (from images o q)
  equated_as P Q Unknown to from made = tt

  pub equated_resolved : (a b l r : Term) (e : Equating) → IsResolved old a l → IsResolved old b r → Equated v sorts rigid old new (Same l r) e → Equated v sorts rigid old new (Same a b) e
  equated_resolved a b l r e left right = equated_as (Same l r) (Same a b) e
      (λ images o same. left.same images o ∙ same ∙ sym (right.same images o))
      (λ images o same. sym (left.same images o) ∙ same ∙ right.same images o)

  pub equated_turned : (a b : Term) (e : Equating) → Equated v sorts rigid old new (Same a b) e → Equated v sorts rigid old new (Same b a) e
  equated_turned a b e = equated_as (Same a b) (Same b a) e (λ images o same. sym same) (λ images o same. sym same)

all_same_map : (images ts us : List Term) → length ts ≡ length us → AllSame (length ts) ts us images → map (instance images) ts ≡ map (instance images) us
all_same_map images [] [] size all = refl
all_same_map images [] (u ∷ us) size all = absurd (omega arith)
all_same_map images (t ∷ ts) [] size all = absurd (omega arith)
all_same_map images (t ∷ ts) (u ∷ us) size all = rw (all 0 (omega arith), all_same_map images ts us (omega arith) (λ i h. all (suc i) (omega arith))) refl

map_all_same : (images ts us : List Term) → map (instance images) ts ≡ map (instance images) us → AllSame (length ts) ts us images
map_all_same images [] us e i h = absurd (omega arith)
map_all_same images (t ∷ ts) [] e i h = cc
map_all_same images (t ∷ ts) (u ∷ us) e zero h = cc
map_all_same images (t ∷ ts) (u ∷ us) e (suc i) h = map_all_same images ts us (cc) i (omega arith)

pub equated_functions : (v : Vocabulary) (sorts : List ℕ) (rigid : ℕ) (old new : List (Option (Bor Term))) (f g : ℕ) (ts us : List Term) (e : Equating) → f ≡ g → length ts ≡ length us
    → Equated v sorts rigid old new (AllSame (length ts) ts us) e → Equated v sorts rigid old new (Same (App f ts) (App g us)) e
equated_functions v sorts rigid old new f g ts us e same size = equated_as v sorts rigid old new (AllSame (length ts) ts us) (Same (App f ts) (App g us)) e
    (λ images o all. applied-App (image_at images) f ts ∙ ap (App f) (all_same_map images ts us size all) ∙ ap (λ h. App h (map (instance images) us)) same ∙ sym (applied-App (image_at images) g us))
    (λ images o is. map_all_same images ts us (App-injective f g (map (instance images) ts) (map (instance images) us) (sym (applied-App (image_at images) f ts) ∙ is ∙ applied-App (image_at images) g us)).1)

pub equated_terms : (v : Vocabulary) (sorts : List ℕ) (rigid : ℕ) (old new : List (Option (Bor Term))) (l r : Term) (f g : ℕ) (ts us : List Term) (e : Equating) → l ≡ App f ts → r ≡ App g us → f ≡ g → length ts ≡ length us
    → Equated v sorts rigid old new (AllSame (length ts) ts us) e → Equated v sorts rigid old new (Same l r) e
equated_terms v sorts rigid old new l r f g ts us e l_is r_is same size made =
    subst (λ x. Equated v sorts rigid old new (Same x r) e) (sym l_is) (subst (λ y. Equated v sorts rigid old new (Same (App f ts) y) e) (sym r_is) (equated_functions v sorts rigid old new f g ts us e same size made))

pub functions_differ : (old : List (Option (Bor Term))) (f g : ℕ) (ts us : List Term) → (f ≡ g → length ts ≡ length us → ⊥) → (images : List Term) → Obeys images old → Same (App f ts) (App g us) images → ⊥
functions_differ old f g ts us differ images o is =
    let parts = App-injective f g (map (instance images) ts) (map (instance images) us) (sym (applied-App (image_at images) f ts) ∙ is ∙ applied-App (image_at images) g us) in
    differ parts.0 (sym (length-map ts (instance images)) ∙ ap length parts.1 ∙ length-map us (instance images))

pub adds_then : (old mid new : List (Option (Bor Term))) (P Q R : List Term → Type 0) → Adds old mid P → Adds mid new Q → ((images : List Term) → P images → Q images → R images)
    → ((images : List Term) → R images → P images × Q images) → Adds old new R
adds_then old mid new P Q R a b to from = record {
  forth = λ images o. let second = b.forth images o in let first = a.forth images second.0 in (first.0, to images first.1 second.1);
  back = λ images o r. b.back images (a.back images o (from images r).0) (from images r).1;
}

pub clash_then : (old mid : List (Option (Bor Term))) (P Q R : List Term → Type 0) → Adds old mid P → ((images : List Term) → Obeys images mid → Q images → ⊥) → ((images : List Term) → R images → P images × Q images)
    → (images : List Term) → Obeys images old → R images → ⊥
clash_then old mid P Q R a never from images o r = never images (a.back images o (from images r).0) (from images r).1

module _ (left right : List Term) (i : ℕ) (l r : Term) (l_is : l ≡ get_or left i (Var 0)) (r_is : r ≡ get_or right i (Var 0)) where
  one_of_all : (images : List Term) → AllSame (i + 1) left right images → AllSame i left right images × Same l r images
  one_of_all images all = ((λ k h. all k (omega arith)), ap (instance images) l_is ∙ all i (omega arith) ∙ sym (ap (instance images) r_is))

  pub all_turn : (old mid new : List (Option (Bor Term))) → Adds old mid (AllSame i left right) → Adds mid new (Same l r) → Adds old new (AllSame (i + 1) left right)
  all_turn old mid new a b = adds_then old mid new (AllSame i left right) (Same l r) (AllSame (i + 1) left right) a b
      (λ images p q. below_more (λ k. instance images (get_or left k (Var 0)) ≡ instance images (get_or right k (Var 0))) i p (sym (ap (instance images) l_is) ∙ q ∙ ap (instance images) r_is))
      one_of_all

  pub all_clash : (old mid : List (Option (Bor Term))) → i < length left → Adds old mid (AllSame i left right) → ((images : List Term) → Obeys images mid → Same l r images → ⊥)
      → (images : List Term) → Obeys images old → AllSame (length left) left right images → ⊥
  all_clash old mid h a never = clash_then old mid (AllSame i left right) (Same l r) (AllSame (length left) left right) a never (λ images all. one_of_all images (λ k lt. all k (omega arith)))

module _ (images : List Term) where
  pub unifies_both : (ps qs : List Pair) → Unifies images ps → Unifies images qs → Unifies images (ps ++ qs)
  unifies_both [] qs a b = b
  unifies_both (p ∷ ps) qs a b = (a.0, unifies_both ps qs a.1 b)

  pub unifies_parts : (ps qs : List Pair) → Unifies images (ps ++ qs) → Unifies images ps × Unifies images qs
  unifies_parts [] qs u = (tt, u)
  unifies_parts (p ∷ ps) qs u = let rest = unifies_parts ps qs u.1 in ((u.0, rest.0), rest.1)

  pub unifies_front : (ps : List Pair) (n : ℕ) → Unifies images ps → Unifies images (take n ps)
  unifies_front [] zero u = tt
  unifies_front [] (suc n) u = tt
  unifies_front (p ∷ ps) zero u = tt
  unifies_front (p ∷ ps) (suc n) u = (u.0, unifies_front ps n u.1)

module _ (pairs : List Pair) (i : ℕ) (item : Pair) (h : i < length pairs) (is : item ≡ get_or pairs i item) where
  front : take (i + 1) pairs ≡ take i pairs ++ item ∷ []
  front = take_more pairs i item h ∙ ap (λ p. take i pairs ++ p ∷ []) (sym is)

  one_of_pairs : (images : List Term) → Unifies images (take (i + 1) pairs) → Unifies images (take i pairs) × Same item.left item.right images
  one_of_pairs images u = let parts = unifies_parts images (take i pairs) (item ∷ []) (subst (Unifies images) front u) in (parts.0, parts.1.0)

  pub unifying_turn : (old mid new : List (Option (Bor Term))) → Adds old mid (λ images. Unifies images (take i pairs)) → Adds mid new (Same item.left item.right) → Adds old new (λ images. Unifies images (take (i + 1) pairs))
  unifying_turn old mid new a b = adds_then old mid new (λ images. Unifies images (take i pairs)) (Same item.left item.right) (λ images. Unifies images (take (i + 1) pairs)) a b
      (λ images p q. subst (Unifies images) (sym front) (unifies_both images (take i pairs) (item ∷ []) p (q, tt)))
      one_of_pairs

  pub unifying_clash : (old mid : List (Option (Bor Term))) → Adds old mid (λ images. Unifies images (take i pairs)) → ((images : List Term) → Obeys images mid → Same item.left item.right images → ⊥)
      → (images : List Term) → Obeys images old → Unifies images pairs → ⊥
  unifying_clash old mid a never = clash_then old mid (λ images. Unifies images (take i pairs)) (Same item.left item.right) (λ images. Unifies images pairs) a never
      (λ images u. one_of_pairs images (unifies_front images pairs (i + 1) u))

pub pair_sorted_at : (v : Vocabulary) (sorts : List ℕ) (pairs : List Pair) (i : ℕ) (d : Pair) → AreSorted v sorts pairs → i < length pairs
    → (sort_of_term v sorts (get_or pairs i d).left ≢ None) × (sort_of_term v sorts (get_or pairs i d).right ≢ None)
pair_sorted_at v sorts [] i d s h = absurd (omega arith)
pair_sorted_at v sorts (p ∷ pairs) zero d s h = s.0
pair_sorted_at v sorts (p ∷ pairs) (suc i) d s h = pair_sorted_at v sorts pairs i d s.1 (omega arith)
