use Rattle.std.proofs.Common.{◌≡◌, take, map}
use Rattle.clause_form.specs.declared.path.Path.{Under}
use Rattle.step_clauses.proofs.ways.under_all.Given as goal

abbrev pub invariant-loop-path : goal.invariant-loop-path
invariant-loop-path l = l.made ≡ map Under (take l.path-index l.paths)
