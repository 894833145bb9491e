use Rattle.std.proofs.Common.{◌≡◌, take, map, Some}
use Rattle.clause_form.specs.ClauseView.{all_there}
use Rattle.skolem_fresh.specs.code.Reading.{variable_of}
use Rattle.skolem_fresh.proofs.reading.variables_of.Given as goal

abbrev pub invariant-loop-term : goal.invariant-loop-term
invariant-loop-term l = all_there (map (variable_of l.depth) (take l.term-index l.terms)) ≡ Some l.variables
