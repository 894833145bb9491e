-- What code finds by a path: the clause that is reached, and that it suits the formula.
use Rattle.std.specs.Prelude.{ℕ, ◌+◌, ◌≡◌, ◌<◌, true, List, length, map, Option, IfSome}
use Rattle.fof_terms.specs.Vocabulary.{Vocabulary}
use Rattle.fof_terms.specs.Sorts.{is_sorted}
use Rattle.fof_terms.specs.declared.form.Form.{Form}
use Rattle.clause_form.specs.declared.path.Path.{Path}
use Rattle.clause_form.specs.declared.clause.Clause.{Clause}
use Rattle.clause_form.specs.Paths.{each_reaches, reached}
use Rattle.clause_form.specs.Sizes.{norm_size_of}
use Rattle.clause_form.specs.Reached.{EachSuits}

-- the formula is well-sorted in some scope, with room for as many variables as it has nodes
pub record IsRoomy (a : Form) : Type 0 where
  pub vocabulary : Vocabulary
  pub scope : List ℕ
  pub room : norm_size_of a + length scope < 2147483647
  pub fits : is_sorted vocabulary scope a ≡ true

pub record AreFound (ps : List Path) (as_ : List Form) (found : Option (List Clause)) : Type 0 where
  pub are : found ≡ each_reaches (map reached ps) as_
  pub suit : IfSome found (EachSuits as_)
