use Rattle.std.proofs.Common.{◌≡◌, take, false}
use Rattle.std.specs.List.{list_any}
use Rattle.skolem_proofs.specs.code.Existentials.{has_existential}
use Rattle.skolem_proofs.proofs.existentials.+has_existential.Given as goal

abbrev pub invariant-one_has-loop-form : goal.invariant-one_has-loop-form
invariant-one_has-loop-form l = list_any has_existential (take l.form-index l.forms) ≡ false
