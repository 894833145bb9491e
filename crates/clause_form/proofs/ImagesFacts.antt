-- Lemmas on what specs/Images defines.
use Rattle.std.specs.Prelude.{ℕ, ◌+◌, List, [], ◌∷◌, ◌≡◌, map, refl, Option, Some, slice_get}
use Rattle.std.specs.List.{AllByRecursion}
use Rattle.std.proofs.Common.{ap, arith}
use Rattle.std.proofs.lemmas.Simd.{map-map}
use Rattle.fof_terms.specs.declared.term.Term.{Term, Var, App}
use Rattle.fof_terms.specs.declared.term.Term.TheFolds.{fold-Term}
use Rattle.fof_terms.proofs.Trees.{fold-Var, fold-App}
use Rattle.fof_terms.proofs.Induction.{term_induction}
use Rattle.fof_terms.specs.Vocabulary.{Vocabulary}
use Rattle.fof_terms.specs.Lift.{lifted_term}
use Rattle.fof_terms.proofs.LiftFacts.{lifted_term-App}
use Rattle.fof_terms.proofs.LiftingLaws.{moves, applied_found}
use Rattle.fof_terms.specs.Sorts.{applied, sort_of_term}
use Rattle.fof_terms.proofs.SortsFacts.{sort_of_term-Var, sort_of_term-App}
use Rattle.clause_form.specs.Images.{image_step, image, IsImages}
use Rattle.fof_terms.specs.declared.term.Term.TheOpen as term

-- the same images at each variable of the scope
pub record AgreeOn (from : List ℕ) (s t : ℕ → Term) : Type 0 where
  pub same : (k r : ℕ) → slice_get from k ≡ Some r → s k ≡ t k

pub image-Var : (s : ℕ → Term) (k : ℕ) → image s (Var k) ≡ s k
unfolding image
image-Var s k = fold-Var Term (image_step s) k

pub image-App : (s : ℕ → Term) (f : ℕ) (ts : List Term) → image s (App f ts) ≡ App f (map (image s) ts)
unfolding image
image-App s f ts = fold-App Term (image_step s) f ts

pub ruleset image_equations = (image-Var, image-App)

-- answers that are found stay the same
pub kept_answers : {X : Type 0} (f g : X → Option ℕ) (xs : List X) → AllByRecursion (λ x. (s : ℕ) → f x ≡ Some s → g x ≡ Some s) xs → AllByRecursion (λ x. (s : ℕ) × (f x ≡ Some s)) xs
    → map g xs ≡ map f xs
kept_answers f g [] e h = refl
kept_answers f g (x ∷ xs) e h = rw (e.0 h.0.0 h.0.1, h.0.1, kept_answers f g xs e.1 h.1) refl

-- two functions that agree on each element
pub agree : {X Y : Type 0} (f g : X → Y) (xs : List X) → AllByRecursion (λ x. f x ≡ g x) xs → map f xs ≡ map g xs
agree f g [] e = refl
agree f g (x ∷ xs) e = rw (e.0, agree f g xs e.1) refl

pub image_image : (t s : ℕ → Term) (u : Term) → image t (image s u) ≡ image (λ k. image t (s k)) u
image_image t s = term_induction _ (record {
  var = λ k. simp image-Var;
  app = λ f ts all. simp (image-App, map-map) (ap (App f) (agree _ _ ts all));
})

-- the terms of another clause are moved up past the variables of the first
pub image_of_lifted : (s : ℕ → Term) (m : ℕ) (u : Term) → image s (lifted_term m 0 u) ≡ image (λ k. s (k + m)) u
image_of_lifted s m = term_induction _ (record {
  var = λ k. rw (moves m 0 k (omega arith)) (simp image-Var);
  app = λ f ts all. simp (lifted_term-App, image-App, map-map) (ap (App f) (agree _ _ ts all));
})

module _ (v : Vocabulary) (from to : List ℕ) (s : ℕ → Term) (h : IsImages v from to s) where
  pub image_sorted : (u : Term) (r : ℕ) → sort_of_term v from u ≡ Some r → sort_of_term v to (image s u) ≡ Some r
  image_sorted = term_induction _ (record {
    var = λ k r e. rw image-Var (h.sorted k r (rw sort_of_term-Var at e));
    app = λ f ts all r e.
        let old : applied (slice_get v.symbols f) (map (sort_of_term v from) ts) ≡ Some r = rw sort_of_term-App at e in
        let each = applied_found (sort_of_term v from) ts (slice_get v.symbols f) r old in
        let same = kept_answers (sort_of_term v from) (λ t. sort_of_term v to (image s t)) ts all each in
        rw (image-App, sort_of_term-App, map-map, same) old;
  })

pub agree_found : {X Y Z : Type 0} (found : X → Option Z) (f g : X → Y) (xs : List X) → AllByRecursion (λ x. (r : Z) → found x ≡ Some r → f x ≡ g x) xs
    → AllByRecursion (λ x. (r : Z) × (found x ≡ Some r)) xs → map f xs ≡ map g xs
agree_found found f g [] e h = refl
agree_found found f g (x ∷ xs) e h = rw (e.0 h.0.0 h.0.1, agree_found found f g xs e.1 h.1) refl

module _ (v : Vocabulary) (from : List ℕ) (s t : ℕ → Term) (h : AgreeOn from s t) where
  pub image_agrees : (u : Term) (r : ℕ) → sort_of_term v from u ≡ Some r → image s u ≡ image t u
  image_agrees = term_induction _ (record {
    var = λ k r e. simp image-Var (h.same k r (rw sort_of_term-Var at e));
    app = λ f ts all r e.
        let old : applied (slice_get v.symbols f) (map (sort_of_term v from) ts) ≡ Some r = rw sort_of_term-App at e in
        let each = applied_found (sort_of_term v from) ts (slice_get v.symbols f) r old in
        simp image-App (ap (App f) (agree_found (sort_of_term v from) (image s) (image t) ts all each));
  })
