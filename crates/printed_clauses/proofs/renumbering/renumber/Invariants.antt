use Rattle.std.proofs.Common.{◌≡◌, take, map}
use Rattle.clause_form.specs.Covers.{in_lit}
use Rattle.printed_clauses.specs.Renumbered.{new_number, renumbered}
use Rattle.printed_clauses.proofs.renumbering.renumber.Given as goal

abbrev pub invariant-loop-lit : goal.invariant-loop-lit
invariant-loop-lit l = l.lits ≡ map (in_lit (renumbered (new_number l.first l.numbers))) (take l.lit-index l.clause.lits)
