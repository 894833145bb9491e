-- What variables that are bound stand for is a most general unifier.
use Rattle.std.proofs.Common.{ℕ, ◌+◌, ◌-◌, ◌≡◌, ◌≢◌, ◌<◌, ◌≤◌, ◌++◌, List, [], ◌∷◌, length, map, take, get_or, refl, sym, ap, subst, ◌∙◌, arith, length-append, zero, suc, Option, Some, None, inl, inr}
use Rattle.std.specs.Prelude.{slice_get, Result, Ok, Err, IfOk, IfSome}
use Rattle.std.specs.Borrow.{Bor}
use Rattle.std.proofs.lemmas.Option.{slice_get-get_or}
use Rattle.std.proofs.lemmas.List.{get_or_past, get_or_append_left, map-append, take_more}
use Rattle.std.proofs.Math.Seq.{get_or-append_seam}
use Rattle.fof_terms.specs.Vocabulary.{Vocabulary}
use Rattle.fof_terms.specs.Sorts.{sort_of_term}
use Rattle.fof_terms.proofs.SortsFacts.{sort_of_term-Var}
use Rattle.fof_terms.specs.declared.term.Term.{Term, Var, App}
use Rattle.unify_terms.specs.declared.pair.Pair.{Pair}
use Rattle.unify_terms.specs.Substitution.{applied, image_at, instance, IsSubstitution}
use Rattle.unify_terms.specs.Unifiers.{Unifies, IsMostGeneral}
use Rattle.unify_terms.specs.code.Binding.{bound_of, bound_at, Obeys, AreBound, Adds}
use Rattle.unify_terms.specs.code.Shown.{seen, IsShown, AllShown, AreShown}
use Rattle.unify_terms.specs.declared.attempt.Attempt.{Attempt}
use Rattle.unify_terms.specs.declared.attempt.Attempt.TheVariants.{Found, Clash, Unknown}
use Rattle.unify_terms.specs.code.Attempts.{IsAttempt, IsFound}
use Rattle.unify_terms.proofs.Adding.{below_or_past}
use Rattle.unify_terms.proofs.Binds.{free_at, obeys_none}
use Rattle.unify_terms.proofs.SubstitutionFacts.{applied-Var, applied-App}
use Rattle.unify_terms.proofs.SubstitutionLaws.{applied_twice, applied_same}
use Rattle.unify_terms.proofs.Valuations.{keeps_sorts}

module _ (bound : List (Option (Bor Term))) where
  pub seen_free : (k : ℕ) → bound_at bound k ≡ Var k → (d : ℕ) → seen bound d k ≡ Var k
  seen_free k free zero = refl
  seen_free k free (suc d) = ap (applied (seen bound d)) free ∙ applied-Var (seen bound d) k ∙ seen_free k free d

  pub shown_free : (k depth : ℕ) → get_or bound k None ≡ None → IsShown bound depth (Var k) (Var k)
  shown_free k depth free = record { from = λ d h. sym (applied-Var (seen bound d) k ∙ seen_free k (free_at bound k free) d) }

  pub shown_bound : (k : ℕ) (t : Bor Term) (depth : ℕ) (made : Term) → get_or bound k None ≡ Some t → 0 < depth → IsShown bound (depth - 1) t.now made → IsShown bound depth (Var k) made
  shown_bound k t depth made at some shown = record { from = from }
    where
      from : (d : ℕ) → depth ≤ d → made ≡ applied (seen bound d) (Var k)
      from zero h = absurd (omega arith)
      from (suc d) h = shown.from d (omega arith) ∙ ap (applied (seen bound d)) (sym (ap (λ o. bound_of o k) at)) ∙ sym (applied-Var (seen bound (suc d)) k)

  pub shown_deeper : {E : Type 0} (k : ℕ) (t : Bor Term) (depth : ℕ) (term : Term) (r : Result (Option Term) E) → term ≡ Var k → get_or bound k None ≡ Some t → 0 < depth
      → IfOk r (λ answer. IfSome answer (IsShown bound (depth - 1) t.now)) → IfOk r (λ answer. IfSome answer (IsShown bound depth term))
  shown_deeper k t depth term (Ok None) is at some h = h
  shown_deeper k t depth term (Ok (Some made)) is at some h = subst (λ u. IsShown bound depth u made) (sym is) (shown_bound k t depth made at some h)
  shown_deeper k t depth term (Err e) is at some h = h

  pub shown_function : (depth f : ℕ) (ts made : List Term) → AllShown bound depth ts made → IsShown bound depth (App f ts) (App f made)
  shown_function depth f ts made all = record { from = λ d h. ap (App f) (all.from d h) ∙ sym (applied-App (seen bound d) f ts) }

  pub shown_none : (depth : ℕ) → AllShown bound depth [] []
  shown_none depth = record { from = λ d h. refl }

  pub shown_turn : (depth : ℕ) (terms : List Term) (i : ℕ) (item image : Term) (made new : List Term) → i < length terms → item ≡ get_or terms i item → AllShown bound depth (take i terms) made → IsShown bound depth item image
      → new ≡ made ++ image ∷ [] → AllShown bound depth (take (i + 1) terms) new
  shown_turn depth terms i item image made new h is all one e = record {
    from = λ d le.
        let front : take (i + 1) terms ≡ take i terms ++ item ∷ [] = take_more terms i item h ∙ ap (λ t. take i terms ++ t ∷ []) (sym is) in
        e ∙ ap (λ ys. ys ++ image ∷ []) (all.from d le) ∙ ap (λ z. map (applied (seen bound d)) (take i terms) ++ z ∷ []) (one.from d le)
        ∙ sym (map-append (applied (seen bound d)) (take i terms) (item ∷ [])) ∙ ap (map (applied (seen bound d))) (sym front);
  }

  pub first_shown : AreShown bound 0 []
  first_shown = record { size = refl; are = λ k h. absurd (omega arith) }

  pub images_turn : (n : ℕ) (images new : List Term) (image : Term) → AreShown bound n images → IsShown bound (length bound) (Var n) image → new ≡ images ++ image ∷ [] → AreShown bound (n + 1) new
  images_turn n images new image was one e = subst (AreShown bound (n + 1)) (sym e) (record { size = let size = was.size in let more = length-append images (image ∷ []) in omega arith; are = are })
    where
      are : (k : ℕ) → k < n + 1 → IsShown bound (length bound) (Var k) (image_at (images ++ image ∷ []) k)
      are k h = elim (below_or_past k n) [
        | inl lt ↦ let size = was.size in subst (IsShown bound (length bound) (Var k)) (sym (get_or_append_left images (image ∷ []) (Var k) k (omega arith))) (was.are k lt)
        | inr le ↦
            let same : k ≡ n = omega arith in
            let last : k ≡ length images = same ∙ sym was.size in
            subst (IsShown bound (length bound) (Var k)) (sym (ap (λ j. get_or (images ++ image ∷ []) j (Var k)) last ∙ get_or-append_seam images image [] (Var k)))
            (subst (λ j. IsShown bound (length bound) (Var j) image) (sym same) one)
      ]

module _ (v : Vocabulary) (sorts : List ℕ) (rigid : ℕ) (bound : List (Option (Bor Term))) (are : AreBound v sorts rigid bound) where
  seen_sort : (d k : ℕ) → k < length sorts → sort_of_term v sorts (seen bound d k) ≡ slice_get sorts k
  seen_sort zero k h = sort_of_term-Var v sorts k
  seen_sort (suc d) k h =
      let there = slice_get-get_or sorts k 0 h in
      let sort = are.sorted k h in
      keeps_sorts v sorts sorts (seen bound d) (seen_sort d) (bound_at bound k) (λ none. cc) ∙ sort

  seen_rigid : (d k : ℕ) → k < rigid → seen bound d k ≡ Var k
  seen_rigid d k low = seen_free bound k (are.rigids k low) d

  module _ (images : List Term) (shown : AreShown bound (length bound) images) where
    image_is : (d k : ℕ) → length bound ≤ d → image_at images k ≡ seen bound d k
    image_is d k le = elim (below_or_past k (length bound)) [
      | inl h ↦ (shown.are k h).from d le ∙ applied-Var (seen bound d) k
      | inr h ↦ let size = shown.size in get_or_past images k (Var k) (omega arith) ∙ sym (seen_free bound k (free_at bound k (get_or_past bound k None h)) d)
    ]

    abbrev deep : ℕ
    deep = length bound

    obeys : Obeys images bound
    obeys = record { values = λ k. image_is (suc deep) k (omega arith) ∙ applied_same (seen bound deep) (image_at images) (λ j. sym (image_is deep j (omega arith))) (bound_at bound k) }

    absorbed : (other : List Term) → Obeys other bound → (d k : ℕ) → instance other (seen bound d k) ≡ image_at other k
    absorbed other o zero k = applied-Var (image_at other) k
    absorbed other o (suc d) k =
        applied_twice (seen bound d) (image_at other) (bound_at bound k) ∙ applied_same (λ j. applied (image_at other) (seen bound d j)) (image_at other) (absorbed other o d) (bound_at bound k) ∙ sym (o.values k)

    pub most_general_shown : (pairs : List Pair) (none : List (Option (Bor Term))) → ((k : ℕ) → get_or none k None ≡ None) → Adds none bound (λ other. Unifies other pairs) → IsMostGeneral v sorts rigid pairs images
    most_general_shown pairs none free adds = record {
      is_substitution = record {
        size = shown.size ∙ are.size;
        sorted = λ k h. ap (sort_of_term v sorts) (image_is deep k (omega arith)) ∙ seen_sort deep k h;
        rigids = λ k h low. image_is deep k (omega arith) ∙ seen_rigid deep k low;
      };
      unifies = (adds.forth images obeys).1;
      general = λ target other sub u. record {
        by = other;
        is_substitution = sub;
        instances = λ k h. sym (ap (instance other) (image_is deep k (omega arith)) ∙ absorbed other (adds.back other (obeys_none none free other) u) deep k);
      };
    }

pub attempt_found : {E : Type 0} (v : Vocabulary) (sorts : List ℕ) (rigid : ℕ) (pairs : List Pair) (none bound : List (Option (Bor Term))) (r : Result Attempt E) → ((k : ℕ) → get_or none k None ≡ None) → AreBound v sorts rigid bound
    → Adds none bound (λ other. Unifies other pairs) → IfOk r (IsFound bound) → IfOk r (IsAttempt v sorts rigid pairs)
attempt_found v sorts rigid pairs none bound (Ok (Found images)) free are adds h = most_general_shown v sorts rigid bound are images h pairs none free adds
attempt_found v sorts rigid pairs none bound (Ok Clash) free are adds h = absurd h
attempt_found v sorts rigid pairs none bound (Ok Unknown) free are adds h = tt
attempt_found v sorts rigid pairs none bound (Err e) free are adds h = h
