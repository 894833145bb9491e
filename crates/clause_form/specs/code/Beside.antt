-- What private contracts say, beside the definitions of specs/Beside.
use Rattle.std.specs.Prelude.{ℕ, ◌+◌, List, [], ◌∷◌, ◌++◌, length, map}
use Rattle.fof_terms.specs.declared.term.Term.{Term}
use Rattle.fof_terms.specs.Lift.{lifted_term}
use Rattle.clause_form.specs.declared.clause.Lit.{Lit}
use Rattle.clause_form.specs.declared.clause.Clause.{Clause}
use Rattle.clause_form.specs.Covers.{in_lit}
use Rattle.clause_form.specs.Beside.{all_sorts}

-- a term of a clause of n variables, with f variables further out and e nearer ones
abbrev pub moved : ℕ → ℕ → ℕ → Term → Term
moved e f n t = lifted_term e 0 (lifted_term f n t)

-- the literals of all clauses over the variables of all, with f variables further out
abbrev pub segments : ℕ → List Clause → List Lit
segments f [] = []
segments f (c ∷ clauses) = map (in_lit (moved (length (all_sorts clauses)) f (length c.sorts))) c.lits ++ segments (f + length c.sorts) clauses
