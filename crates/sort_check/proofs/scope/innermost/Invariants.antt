use Rattle.sort_check.proofs.Scopes.{Passed}
use Rattle.sort_check.proofs.scope.innermost.Given as goal

abbrev pub invariant-loop-behind : goal.invariant-loop-behind
invariant-loop-behind l = Passed l.variables l.name l.behind
