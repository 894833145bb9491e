use Rattle.std.proofs.Common.{◌≡◌, take, false}
use Rattle.std.specs.List.{list_any}
use Rattle.clause_form.specs.Norm.{ends}
use Rattle.clause_form.proofs.joining.one_ends.Given as goal

abbrev pub invariant-loop-form : goal.invariant-loop-form
invariant-loop-form l = list_any (ends l.positive) (take l.form-index l.forms) ≡ false
