use Rattle.std.specs.Prelude.{ℕ}
use Rattle.clause_form.specs.Covers.{scope_of}
use Rattle.superpose.specs.Made.{Adds}
use Rattle.superpose.specs.code.Places.{FromLit}
use Rattle.superpose.proofs.Below.{OfFirst}
use Rattle.superpose.proofs.one_clause.add_from_lits.Given as goal

abbrev pub invariant-loop-at : goal.invariant-loop-at
invariant-loop-at l = Adds l.sig (scope_of l.c) (OfFirst ℕ (FromLit l.c) l.numbers l.at) l.fn.made l.made
