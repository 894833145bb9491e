-- An instance of a clause in which a term gives way to another one. The clause is marked where the term stands: there
-- it has one variable more, which is numbered behind the clause's own.
use Rattle.std.specs.Prelude.{ℕ, ◌≡◌, Bool, List, [], ◌∷◌, ◌++◌, ◌+◌, length, map, take, drop, Some}
use Rattle.fof_terms.specs.declared.term.Term.{Term, Var}
use Rattle.fof_terms.specs.Vocabulary.{Vocabulary}
use Rattle.fof_terms.specs.Lift.{lifted_term}
use Rattle.fof_terms.specs.Sorts.{sort_of_term}
use Rattle.clause_form.specs.declared.clause.Lit.{Lit}
use Rattle.clause_form.specs.Covers.{lit_image, AreSorted}
use Rattle.clause_form.specs.declared.clause.Clause.{Clause}
use Rattle.clause_form.specs.Images.{image, IsImages}
use Rattle.unify_terms.specs.Substitution.{image_at}
use Rattle.clause_rules.specs.Steps.{equation, AreCovered}

-- the marked literals under the images, with the term for the mark
abbrev pub filled : List Term → List Lit → Term → List Lit
filled images marked t = map (lit_image (image_at (images ++ t ∷ []))) marked

-- the same with variable 0 for the mark, and all other variables one further out
abbrev pub with_hole : List Term → List Lit → List Lit
with_hole images marked = filled (map (lifted_term 1 0) images) marked (Var 0)

-- the marked literals are over variables of some sorts, the images of which are over v, and a mark of the term's sort
pub record IsMarked (w : Vocabulary) (v : List ℕ) (images : List Term) (marked : List Lit) (left : Term) : Type 0 where
  pub sorts : List ℕ
  pub sort : ℕ
  pub left_sort : sort_of_term w v left ≡ Some sort
  pub size : length images ≡ length sorts
  pub images_sorted : IsImages w sorts v (image_at images)
  pub sorted : AreSorted w (sorts ++ sort ∷ []) marked

-- The literals `old` have the left side of the equation e for the mark. With its right side there, the line covers
-- them.
pub record IsRewriting (w : Vocabulary) (v : List ℕ) (line : List Lit) (images : List Term) (marked old : List Lit) (e : Lit) (flipped : Bool) : Type 0 where
  pub left : Term
  pub right : Term
  pub is_equation : e ≡ equation flipped left right
  pub is_marked : IsMarked w v images marked left
  pub before : old ≡ filled images marked left
  pub covered : AreCovered line (filled images marked right)

-- the literals are over variables of some sorts, and the images, which are over v, make of them the instances
pub record AreInstances (w : Vocabulary) (v : List ℕ) (images : List Term) (lits old : List Lit) : Type 0 where
  pub sorts : List ℕ
  pub size : length images ≡ length sorts
  pub images_sorted : IsImages w sorts v (image_at images)
  pub sorted : AreSorted w sorts lits
  pub are : old ≡ map (lit_image (image_at images)) lits

-- the images of the variables of d, which are over those of c and d first, and then over those of e, c and d
abbrev pub chained_images : Clause → Clause → Clause → List Term → List Term → List Term
chained_images e c d matching images =
    map (image (image_at (take (length c.sorts + length d.sorts) (drop (length e.sorts) images)))) (take (length d.sorts) (drop (length c.sorts) matching))
