-- Terms whose instances are equal, each under a substitution of its own.
use Rattle.std.specs.Prelude.{ℕ, ◌+◌, ◌≡◌, List, [], ◌∷◌, map, get_or, Some, None, slice_get, refl}
use Rattle.std.proofs.Common.{ap, sym, ◌∙◌, zero, suc}
use Rattle.std.proofs.lemmas.Option.{get_or_from_slice_get}
use Rattle.fof_terms.specs.declared.term.Term.{Term, Var, App}
use Rattle.fof_terms.specs.Lift.{lifted_term}
use Rattle.clause_form.specs.Images.{image}
use Rattle.clause_form.proofs.ImagesFacts.{image-Var, image-App, image_of_lifted}
use Rattle.clause_rules.proofs.Firsts.{one_at}
use Rattle.unify_terms.specs.Substitution.{image_at}
use Rattle.superpose.proofs.ConclusionFacts.{get_map}
use Rattle.superpose.proofs.PairFacts.{same_args, same_head}

module _ (s r : ℕ → Term) where
  pub met_args : (t u : Term) (f g : ℕ) (ts us : List Term) → t ≡ App f ts → u ≡ App g us → image s t ≡ image r u
      → (f ≡ g) × (map (image s) ts ≡ map (image r) us)
  met_args t u f g ts us t_is u_is e =
      let both : App f (map (image s) ts) ≡ App g (map (image r) us) =
      sym (image-App s f ts) ∙ ap (image s) (sym t_is) ∙ e ∙ ap (image r) u_is ∙ image-App r g us in
      (same_head f g (map (image s) ts) (map (image r) us) both, same_args f g (map (image s) ts) (map (image r) us) both)

  pub met_at : (ts us : List Term) (i : ℕ) (t u : Term) → slice_get ts i ≡ Some t → slice_get us i ≡ Some u
      → map (image s) ts ≡ map (image r) us → image s t ≡ image r u
  met_at ts us i t u t_at u_at e =
      one_at (map (image s) ts) i (image s t) (image r u) (get_map (image s) ts i t t_at)
      (ap (λ xs. slice_get xs i) e ∙ get_map (image r) us i u u_at)

-- images of terms that were moved
pub moved_images : (s : ℕ → Term) (n : ℕ) (ts : List Term)
    → map (image s) (map (lifted_term n 0) ts) ≡ map (image (λ x. s (x + n))) ts
moved_images s n [] = refl
moved_images s n (t ∷ ts) =
    ap (λ x. x ∷ map (image s) (map (lifted_term n 0) ts)) (image_of_lifted s n t)
    ∙ ap (λ xs. image (λ x. s (x + n)) t ∷ xs) (moved_images s n ts)
