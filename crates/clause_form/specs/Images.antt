-- Terms under images of their variables.
use Rattle.std.specs.Prelude.{ℕ, List, ◌≡◌, Some, slice_get}
use Rattle.fof_terms.specs.declared.term.Term.{Term, Var, App}
use Rattle.fof_terms.specs.declared.term.Term.TheFolds.{fold-Term}
use Rattle.fof_terms.specs.Vocabulary.{Vocabulary}
use Rattle.fof_terms.specs.Sorts.{sort_of_term}
use Rattle.fof_terms.specs.declared.term.Term.TheOpen as term

abbrev pub image_step : (ℕ → Term) → term.Term-F Term → Term
image_step s (term.Var k) = s k
image_step s (term.App f args) = App f args

-- the term with its image in place of each variable
unfoldable pub image : (ℕ → Term) → Term → Term
image s = fold-Term Term (image_step s)

-- each variable of the one scope has an image of its sort over the other
pub record IsImages (v : Vocabulary) (from to : List ℕ) (s : ℕ → Term) : Type 0 where
  pub sorted : (k r : ℕ) → slice_get from k ≡ Some r → sort_of_term v to (s k) ≡ Some r
