-- Where the other literals of a line are never covered.
use Rattle.std.specs.Prelude.{ℕ, List, remove}
use Rattle.fof_terms.specs.declared.term.Term.{Term}
use Rattle.fof_terms.specs.Vocabulary.{Vocabulary}
use Rattle.clause_form.specs.declared.clause.Clause.{Clause}
use Rattle.clause_form.specs.Covers.{scope_of, CoversBy}

-- no substitution covers by the line all literals of the clause but that of this number
abbrev pub NeverBeside : Vocabulary → Clause → Clause → ℕ → Type 0
NeverBeside v line c i = (more : List ℕ) (s : ℕ → Term) → CoversBy v (scope_of c) (remove c.lits i) line more s → ⊥
