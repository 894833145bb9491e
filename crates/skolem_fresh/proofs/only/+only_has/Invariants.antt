use Rattle.std.proofs.Common.{◌≡◌, take, true}
use Rattle.std.specs.List.{list_all}
use Rattle.skolem_fresh.specs.code.Only.{only_has}
use Rattle.skolem_fresh.proofs.only.+only_has.Given as goal

abbrev pub invariant-only_have-loop-form : goal.invariant-only_have-loop-form
invariant-only_have-loop-form l = list_all (only_has l.variables l.depth) (take l.form-index l.forms) ≡ true
