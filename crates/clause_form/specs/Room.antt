-- Room for the variables of clauses that are put beside each other.
use Rattle.std.specs.Prelude.{ℕ, ◌+◌, ◌-◌, ◌<◌, List, length}
use Rattle.fof_terms.specs.Vocabulary.{Vocabulary}
use Rattle.clause_form.specs.declared.clause.Clause.{Clause}
use Rattle.clause_form.specs.Beside.{all_sorts}
use Rattle.clause_form.specs.Reached.{FitOver}

-- the clauses are well-sorted over one scope, with room for the variables of all
pub record AreOver (cs : List Clause) : Type 0 where
  pub vocabulary : Vocabulary
  pub scope : List ℕ
  pub room : length (all_sorts cs) + length scope < 2147483648
  pub fits : FitOver vocabulary scope cs
