-- Where a clause is taken from a normal form.
use Rattle.std.specs.Prelude.{ℕ, ◌≡◌, List, [], length, map}
use Rattle.fof_terms.specs.declared.form.Form.{Form}
use Rattle.substitution_search.specs.declared.taking.Reached.{Reached}
use Rattle.substitution_search.specs.CoverSearch.{Taking, Taken, down, named, opening}

abbrev pub begun : List ℕ → Taking
begun choices = record { choices = choices; sorts = []; lits = [] }

-- the path, and the clause with its variables in their order, that choices take from the formula
pub record IsTaken (form : Form) (choices : List ℕ) (made : Reached) : Type 0 where
  pub taken : Taken
  pub is : taken ≡ (opening [] form).take [] (begun choices)
  pub path : made.path ≡ taken.path
  pub sorts : made.clause.sorts ≡ taken.rest.sorts
  pub lits : made.clause.lits ≡ map (named (down 0 (length taken.rest.sorts))) taken.rest.lits
