use Rattle.std.proofs.Common.{◌≡◌, take, true}
use Rattle.std.specs.List.{list_all}
use Rattle.sat_step.specs.Propositional.{is_propositional}
use Rattle.sat_entries.proofs.propositional.+is_propositional.Given as goal

abbrev pub invariant-are_propositional-loop-form : goal.invariant-are_propositional-loop-form
invariant-are_propositional-loop-form l = list_all is_propositional (take l.form-index l.forms) ≡ true
