use Rattle.std.proofs.Common.{◌≡◌, take, false}
use Rattle.std.specs.List.{list_any}
use Rattle.step_clauses.specs.Wide.{is_heavy}
use Rattle.step_clauses.proofs.input.has_heavy.Given as goal

abbrev pub invariant-loop-clause : goal.invariant-loop-clause
invariant-loop-clause l = list_any is_heavy (take l.clause-index l.clauses) ≡ false
