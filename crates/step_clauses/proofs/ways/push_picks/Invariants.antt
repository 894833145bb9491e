use Rattle.std.proofs.Common.{◌≡◌, ◌++◌, take, map}
use Rattle.clause_form.specs.declared.path.Path.{Pick}
use Rattle.step_clauses.proofs.ways.push_picks.Given as goal

abbrev pub invariant-loop-path : goal.invariant-loop-path
invariant-loop-path l = l.made ≡ l.fn.made ++ map (Pick l.number) (take l.path-index l.paths)
