-- Images of literals under the substitutions of a search.
use Rattle.std.specs.Prelude.{ℕ, ◌≡◌, ◌+◌, List, [], ◌∷◌, map, refl}
use Rattle.std.proofs.Common.{ap, sym, ◌∙◌}
use Rattle.std.proofs.lemmas.Simd.{map-map}
use Rattle.fof_terms.specs.declared.term.Term.{Term, Var}
use Rattle.fof_terms.specs.Lift.{lifted_term}
use Rattle.fof_terms.proofs.Walks.{TermWalk, same_terms, staying_term}
use Rattle.clause_form.specs.declared.clause.AtomOf.{AtomOf}
use Rattle.clause_form.specs.declared.clause.AtomOf.TheVariants.{Pred, Eq, True, False}
use Rattle.clause_form.specs.declared.clause.Lit.{Lit}
use Rattle.clause_form.specs.Covers.{at_terms, in_lit, lit_image, lit_apart}
use Rattle.clause_form.specs.Images.{image}
use Rattle.clause_form.proofs.ImagesFacts.{image-Var, image-App, image_of_lifted}
use Rattle.unify_terms.specs.Substitution.{applied, image_at, instance}
use Rattle.unify_terms.proofs.SubstitutionFacts.{applied-Var, applied-App}

pub imaging : (s : ℕ → Term) → TermWalk (image s)
imaging s = record { app = λ f ts. image-App s f ts }

pub applying : (s : ℕ → Term) → TermWalk (applied s)
applying s = record { app = λ f ts. applied-App s f ts }

-- both crates mean the same by an instance
pub instance_is : (images : List Term) (t : Term) → instance images t ≡ image (image_at images) t
instance_is images = same_terms (instance images) (image (image_at images)) (applying (image_at images)) (imaging (image_at images)) (λ k. applied-Var (image_at images) k ∙ sym (image-Var (image_at images) k))

pub image_itself : (t : Term) → image Var t ≡ t
image_itself = same_terms (image Var) (λ t. t) (imaging Var) staying_term (λ k. image-Var Var k)

pub same_maps : {X Y : Type 0} (f g : X → Y) (xs : List X) → ((x : X) → f x ≡ g x) → map f xs ≡ map g xs
same_maps f g [] e = refl
same_maps f g (x ∷ xs) e = rw (e x, same_maps f g xs e) refl

pub instances_are : (images : List Term) (ts : List Term) → map (instance images) ts ≡ map (image (image_at images)) ts
instances_are images ts = same_maps (instance images) (image (image_at images)) ts (instance_is images)

-- a change of terms after another one
atom_twice : (f g h : Term → Term) → ((t : Term) → f (g t) ≡ h t) → (a : AtomOf) → at_terms f (at_terms g a) ≡ at_terms h a
atom_twice f g h e (Pred p ts) = ap (Pred p) (map-map f g ts ∙ same_maps _ _ ts e)
atom_twice f g h e (Eq l r) = rw (e l, e r) refl
atom_twice f g h e True = refl
atom_twice f g h e False = refl

pub lit_twice : (f g h : Term → Term) → ((t : Term) → f (g t) ≡ h t) → (l : Lit) → in_lit f (in_lit g l) ≡ in_lit h l
lit_twice f g h e l = ap (λ (a : AtomOf). record { positive = l.positive; atom = a }) (atom_twice f g h e l.atom)

pub lits_twice : (f g h : Term → Term) → ((t : Term) → f (g t) ≡ h t) → (lits : List Lit) → map (in_lit f) (map (in_lit g) lits) ≡ map (in_lit h) lits
lits_twice f g h e lits = map-map (in_lit f) (in_lit g) lits ∙ same_maps _ _ lits (lit_twice f g h e)

-- the instances of literals that were kept apart
pub images_apart : (s : ℕ → Term) (n : ℕ) (lits : List Lit) → map (lit_image s) (map (lit_apart n) lits) ≡ map (lit_image (λ k. s (k + n))) lits
images_apart s n lits = lits_twice (image s) (lifted_term n 0) (image (λ k. s (k + n))) (image_of_lifted s n) lits
