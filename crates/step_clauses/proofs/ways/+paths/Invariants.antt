use Rattle.std.proofs.Common.{◌≡◌, take, map}
use Rattle.step_clauses.specs.code.Chosen.{paths_in}
use Rattle.step_clauses.proofs.ways.+paths.Given as goal

abbrev pub invariant-paths_of_each-loop-form : goal.invariant-paths_of_each-loop-form
invariant-paths_of_each-loop-form l = l.lists ≡ map paths_in (take l.form-index l.forms)
