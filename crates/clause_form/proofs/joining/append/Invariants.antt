use Rattle.std.proofs.Common.{◌+◌, ◌≤◌, length}
use Rattle.clause_form.proofs.joining.append.Given as goal

abbrev pub invariant-loop : goal.invariant-loop
invariant-loop l = length l.flat + l.counter ≤ l.end
