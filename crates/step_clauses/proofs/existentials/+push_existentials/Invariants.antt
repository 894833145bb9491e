use Rattle.std.proofs.Common.{◌≡◌, ◌++◌, take, map}
use Rattle.clause_form.specs.Clauses.{joined_lists}
use Rattle.step_clauses.specs.Existentials.{existentials_within}
use Rattle.step_clauses.proofs.existentials.+push_existentials.Given as goal

abbrev pub invariant-push_of_all-loop-form : goal.invariant-push_of_all-loop-form
invariant-push_of_all-loop-form l = (l.around ≡ l.fn.around) × (l.found ≡ l.fn.found ++ joined_lists (map (λ a. existentials_within a l.fn.around) (take l.form-index l.forms)))
