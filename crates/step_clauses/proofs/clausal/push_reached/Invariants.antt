use Rattle.std.proofs.Common.{◌≡◌, ◌++◌, take}
use Rattle.std.specs.List.{filter_map}
use Rattle.clause_form.specs.Paths.{reached}
use Rattle.step_clauses.proofs.clausal.push_reached.Given as goal

abbrev pub invariant-loop-path : goal.invariant-loop-path
invariant-loop-path l = l.clauses ≡ l.fn.clauses ++ filter_map (λ p. reached p l.form) (take l.path-index l.paths)
