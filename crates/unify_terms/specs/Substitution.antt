-- Instances of terms under a substitution, which is seen as the list of its images.
use Rattle.std.specs.Prelude.{ℕ, ◌≡◌, ◌<◌, List, length, get_or, slice_get}
use Rattle.fof_terms.specs.Vocabulary.{Vocabulary}
use Rattle.fof_terms.specs.Sorts.{sort_of_term}
use Rattle.fof_terms.specs.declared.term.Term.{Term, Var, App}
use Rattle.fof_terms.specs.declared.term.Term.TheFolds.{fold-Term}
use Rattle.fof_terms.specs.declared.term.Term.TheOpen as term

abbrev pub applied_step : (ℕ → Term) → term.Term-F Term → Term
applied_step image (term.Var k) = image k
applied_step image (term.App f ts) = App f ts

-- the term with each variable replaced
unfoldable pub applied : (ℕ → Term) → Term → Term
applied image = fold-Term Term (applied_step image)

-- the image of a variable; one that has none stands for itself
abbrev pub image_at : List Term → ℕ → Term
image_at images k = get_or images k (Var k)

-- the instance of a term
abbrev pub instance : List Term → Term → Term
instance images = applied (image_at images)

-- variables of the sorts `sorts` go to terms of their sorts over variables of the sorts `target`
pub record IsSubstitution (v : Vocabulary) (sorts : List ℕ) (rigid : ℕ) (target : List ℕ) (images : List Term) : Type 0 where
  pub size : length images ≡ length sorts
  pub sorted : (k : ℕ) → k < length sorts → sort_of_term v target (image_at images k) ≡ slice_get sorts k
  pub rigids : (k : ℕ) → k < length sorts → k < rigid → image_at images k ≡ Var k
