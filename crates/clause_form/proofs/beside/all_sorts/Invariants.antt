use Rattle.std.proofs.Common.{◌≡◌, take}
use Rattle.clause_form.specs.Beside.{all_sorts}
use Rattle.clause_form.proofs.beside.all_sorts.Given as goal

abbrev pub invariant-loop-clause : goal.invariant-loop-clause
invariant-loop-clause l = l.sorts ≡ all_sorts (take l.clause-index l.clauses)
