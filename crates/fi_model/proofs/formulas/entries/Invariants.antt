use Rattle.std.proofs.Common.{◌≡◌, take, map, Some}
use Rattle.fi_model.specs.Sentences.{entry, all_there}
use Rattle.fi_model.proofs.formulas.entries.Given as goal

abbrev pub invariant-loop-form : goal.invariant-loop-form
invariant-loop-form l = all_there (map (entry l.kind) (take l.form-index l.forms)) ≡ Some l.found
