use Rattle.clause_form.specs.Covers.{scope_of}
use Rattle.superpose.specs.Made.{Adds}
use Rattle.superpose.specs.code.Places.{FactorsBelow}
use Rattle.superpose.proofs.one_clause.add_factored.Given as goal

abbrev pub invariant-loop-j : goal.invariant-loop-j
invariant-loop-j l = Adds l.sig (scope_of l.c) (FactorsBelow l.c l.fn.i l.j) l.fn.made l.made
