-- What private contracts say, beside the definitions of specs/ClauseView.
use Rattle.std.specs.Prelude.{ℕ, List, ◌++◌}
use Rattle.clause_form.specs.declared.clause.Clause.{Clause}

-- the same with several more
abbrev pub under : List ℕ → Clause → Clause
under sorts c = record { sorts = sorts ++ c.sorts; lits = c.lits }
