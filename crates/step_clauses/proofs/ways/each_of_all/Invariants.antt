use Rattle.std.proofs.Common.{◌≡◌, take, map}
use Rattle.clause_form.specs.declared.path.Path.{Each}
use Rattle.step_clauses.proofs.ways.each_of_all.Given as goal

abbrev pub invariant-loop-choice : goal.invariant-loop-choice
invariant-loop-choice l = l.made ≡ map Each (take l.choice-index l.chosen)
