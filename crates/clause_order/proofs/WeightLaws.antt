-- An instance weighs no less.
use Rattle.std.specs.Prelude.{ℕ, ◌+◌, ◌≤◌, List, [], ◌∷◌, ◌≡◌, map, sum}
use Rattle.std.specs.List.{AllByRecursion}
use Rattle.std.proofs.Common.{arith}
use Rattle.std.proofs.lemmas.List.Sums.{sum_by-cons}
use Rattle.std.proofs.lemmas.Simd.{map-map}
use Rattle.fof_terms.specs.declared.term.Term.{Term, Var}
use Rattle.fof_terms.specs.Count.{symbol_count}
use Rattle.fof_terms.specs.Vocabulary.{Vocabulary}
use Rattle.fof_terms.proofs.Induction.{term_induction}
use Rattle.clause_form.specs.declared.clause.AtomOf.{AtomOf}
use Rattle.clause_form.specs.declared.clause.AtomOf.TheVariants.{Pred, Eq, True, False}
use Rattle.clause_form.specs.declared.clause.Lit.{Lit}
use Rattle.clause_form.specs.declared.clause.Clause.{Clause}
use Rattle.clause_form.specs.Covers.{at_terms, lit_image, IsInstance}
use Rattle.clause_form.specs.Images.{image}
use Rattle.clause_form.proofs.ImagesFacts.{image-App}
use Rattle.clause_order.specs.Weights.{as_term, stopped, lit_count, lits_count, clause_weight}
use Rattle.clause_order.proofs.WeightsFacts.{count-Var, count-App}

sum_cons : (x : ℕ) (xs : List ℕ) → sum (x ∷ xs) ≡ x + sum xs
sum_cons x xs = sum_by-cons (λ x. x) x xs

sums_grow : {X : Type 0} (f g : X → ℕ) (xs : List X) → AllByRecursion (λ x. f x ≤ g x) xs
    → sum (map f xs) ≤ sum (map g xs)
sums_grow f g [] e = omega arith
sums_grow f g (x ∷ xs) e =
    let here = e.0 in
    let rest = sums_grow f g xs e.1 in
    rw (sum_cons (f x) (map f xs), sum_cons (g x) (map g xs)) (omega arith)

pub count_positive : (u : Term) → 1 ≤ symbol_count u
count_positive = term_induction _ (record {
  var = λ k. rw count-Var (omega arith);
  app = λ f ts all. rw count-App (omega arith);
})

-- an image has no fewer symbols and variables
pub count_grows : (s : ℕ → Term) (u : Term) → symbol_count u ≤ symbol_count (image s u)
count_grows s = term_induction _ (record {
  var = λ k. rw count-Var (count_positive (image s (Var k)));
  app = λ f ts all.
      let grow = sums_grow symbol_count (λ t. symbol_count (image s t)) ts all in
      rw (count-App, image-App, count-App, map-map) (omega arith);
})

pub as_term_image : (s : ℕ → Term) (a : AtomOf) → as_term (at_terms (image s) a) ≡ image s (as_term a)
as_term_image s (Pred p ts) = simp image-App
as_term_image s (Eq l r) = simp image-App
as_term_image s True = simp image-App
as_term_image s False = simp image-App

pub lit_grows : (s : ℕ → Term) (l : Lit) → lit_count l ≤ lit_count (lit_image s l)
lit_grows s l = rw (as_term_image s l.atom) (count_grows s (as_term l.atom))

each_grows : (s : ℕ → Term) (lits : List Lit) → AllByRecursion (λ l. lit_count l ≤ lit_count (lit_image s l)) lits
each_grows s [] = tt
each_grows s (l ∷ lits) = (lit_grows s l, each_grows s lits)

-- literals under a substitution have no fewer symbols and variables
pub lits_grow : (s : ℕ → Term) (lits : List Lit) → lits_count lits ≤ lits_count (map (lit_image s) lits)
lits_grow s lits = rw map-map (sums_grow lit_count (λ l. lit_count (lit_image s l)) lits (each_grows s lits))

pub stopped_grows : (a b : ℕ) → a ≤ b → stopped a ≤ stopped b
stopped_grows a b h = omega arith

-- whatever the scopes are, a clause with the images of another's literals weighs no less
pub weight_of_images : (s : ℕ → Term) (c e : Clause) → e.lits ≡ map (lit_image s) c.lits
    → clause_weight c ≤ clause_weight e
weight_of_images s c e same = rw same (stopped_grows (lits_count c.lits) (lits_count (map (lit_image s) c.lits))
    (lits_grow s c.lits))

pub instance_weighs : (v : Vocabulary) (c e : Clause) → IsInstance v c e → clause_weight c ≤ clause_weight e
instance_weighs v c e is = weight_of_images is.0 c e is.1.same
