-- Clauses over one scope as one clause: where the variables and the literals of each stand.
use Rattle.std.specs.Prelude.{ℕ, ◌+◌, List, [], ◌∷◌, ◌++◌}
use Rattle.clause_form.specs.declared.clause.Clause.{Clause}

-- the sorts of all clauses, those of the first outermost
abbrev pub all_sorts : List Clause → List ℕ
all_sorts [] = []
all_sorts (c ∷ clauses) = c.sorts ++ all_sorts clauses
