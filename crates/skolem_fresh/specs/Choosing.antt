-- What the search for functions that choose ends with.
use Rattle.std.specs.Prelude.{ℕ, ◌≤◌, ◌+◌, List, length}
use Rattle.fof_terms.specs.declared.form.Form.{Form}
use Rattle.fof_terms.specs.Vocabulary.{Vocabulary}
use Rattle.fof_terms.specs.Sorts.{Sorted, binder_depth}

-- the formula is well-sorted over the scope, and with it has not too many quantifiers inside each other
pub record IsWithin (v : Vocabulary) (scope : List ℕ) (a : Form) : Type 0 where
  pub room : binder_depth a + length scope ≤ 1000000000
  pub sorted : Sorted v scope a
