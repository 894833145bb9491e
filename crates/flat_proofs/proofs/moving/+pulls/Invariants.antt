use Rattle.std.proofs.Common.{◌≡◌, take}
use Rattle.std.specs.List.{AllByRecursion}
use Rattle.flat_form.specs.Flat.{kept}
use Rattle.flat_proofs.specs.code.Loose.{loose}
use Rattle.flat_proofs.proofs.moving.+pulls.Given as goal

abbrev pub invariant-any_pulls-loop-form : goal.invariant-any_pulls-loop-form
invariant-any_pulls-loop-form l = AllByRecursion (λ a. loose a ≡ kept a) (take l.form-index l.forms)
