use Rattle.std.proofs.Common.{◌≡◌, take, map, Some}
use Rattle.clause_form.specs.ClauseView.{view_of, all_there}
use Rattle.clause_form.proofs.view.all_lits.Given as goal

abbrev pub invariant-loop-form : goal.invariant-loop-form
invariant-loop-form l = all_there (map (λ a. (view_of a).lit) (take l.form-index l.forms)) ≡ Some l.lits
