-- Variables that stand in terms, or in what variables in these are bound to.
use Rattle.std.proofs.Common.{ℕ, ◌+◌, ◌≡◌, ◌<◌, ◌≤◌, List, [], ◌∷◌, length, map, sum, get_or, refl, sym, ap, ◌∙◌, arith, zero, suc, Option, Some, None}
use Rattle.std.specs.Borrow.{Bor}
use Rattle.std.proofs.lemmas.List.{length-map}
use Rattle.std.proofs.lemmas.List.Sums.{sum-map, get_or-le-sum_by}
use Rattle.fof_terms.specs.Count.{symbol_count}
use Rattle.fof_terms.specs.declared.term.Term.{Term, Var, App}
use Rattle.unify_terms.specs.Substitution.{image_at, instance}
use Rattle.unify_terms.specs.code.Binding.{Obeys, Same, StandsIn, StandsInOne, StandsBelow}
use Rattle.unify_terms.proofs.Binds.{resolved_variable}
use Rattle.unify_terms.proofs.SubstitutionFacts.{applied-Var, applied-App}
use Rattle.unify_terms.proofs.Unifier.{count_App}

module _ (bound : List (Option (Bor Term))) (k : ℕ) where
  pub stands_itself : (j : ℕ) (t : Term) → t ≡ Var j → j ≡ k → StandsIn bound k t
  stands_itself j t is same images o =
      let value : instance images t ≡ image_at images k = ap (instance images) (is ∙ ap Var same) ∙ applied-Var (image_at images) k in
      let count = ap symbol_count value in omega arith

  pub stands_bound : (j : ℕ) (t : Term) (next : Bor Term) → t ≡ Var j → get_or bound j None ≡ Some next → StandsIn bound k next.now → StandsIn bound k t
  stands_bound j t next is at h images o =
      let value : instance images t ≡ instance images next.now = ap (instance images) is ∙ (resolved_variable bound j next at).same images o in
      let count = ap symbol_count value in
      let less = h images o in omega arith

  within_sum : (f : Term → Term) (ts : List Term) (i : ℕ) (t : Term) → i < length ts → t ≡ get_or ts i t → symbol_count (f t) ≤ sum (map symbol_count (map f ts))
  within_sum f ts i t lt is =
      let size = length-map ts f in
      let part = get_or-le-sum_by symbol_count (map f ts) i (f t) (omega arith) in
      let whole = sum-map symbol_count (map f ts) in
      let there : get_or (map f ts) i (f t) ≡ f t = got ts i lt ∙ ap f (sym is) in
      let count = ap symbol_count there in omega arith where
        got : (xs : List Term) (n : ℕ) → n < length xs → get_or (map f xs) n (f t) ≡ f (get_or xs n t)
        got [] n h = refl
        got (x ∷ xs) zero h = refl
        got (x ∷ xs) (suc n) h = got xs n (omega arith)

  pub stands_among : (ts : List Term) (i : ℕ) (t : Term) → i < length ts → t ≡ get_or ts i t → StandsIn bound k t → StandsInOne bound k ts
  stands_among ts i t lt is h images o = let part = within_sum (instance images) ts i t lt is in let less = h images o in omega arith

  pub stands_deeper : (t : Term) (f : ℕ) (ts us : List Term) → t ≡ App f ts → us ≡ ts → StandsInOne bound k us → StandsBelow bound k t
  stands_deeper t f ts us is same h images o =
      let value : instance images t ≡ App f (map (instance images) us) = ap (instance images) is ∙ applied-App (image_at images) f ts ∙ ap (λ xs. App f (map (instance images) xs)) (sym same) in
      let count = ap symbol_count value ∙ count_App f (map (instance images) us) in
      let less = h images o in omega arith

  pub stands_weaker : (t : Term) → StandsBelow bound k t → StandsIn bound k t
  stands_weaker t h images o = let less = h images o in omega arith

  pub never_itself : (t : Term) → StandsBelow bound k t → (images : List Term) → Obeys images bound → Same (Var k) t images → ⊥
  never_itself t h images o same =
      let count = ap symbol_count (sym (applied-Var (image_at images) k) ∙ same) in
      let less = h images o in absurd (omega arith)
