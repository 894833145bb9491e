-- What private contracts say, beside the definitions of specs/Placed.
use Rattle.std.specs.Prelude.{ℕ, ◌+◌, ◌<◌, length, List}
use Rattle.fof_terms.specs.declared.form.Form.{Form}
use Rattle.fof_terms.specs.Sorts.{binder_depth, Sorted}
use Rattle.kernel.specs.Statements.{Statements}

-- the formula is well-sorted in some theory and context, with room for its quantifiers
pub record IsPlaced (a : Form) : Type 0 where
  pub theory : Statements
  pub scope : List ℕ
  pub room : binder_depth a + length scope < 2147483647
  pub sorted : Sorted theory.vocabulary scope a
