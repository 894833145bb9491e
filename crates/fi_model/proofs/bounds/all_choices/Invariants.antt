use Rattle.std.proofs.Common.{◌≡◌, take, map, Some}
use Rattle.fi_model.specs.Sentences.{choice, all_there}
use Rattle.fi_model.proofs.bounds.all_choices.Given as goal

abbrev pub invariant-loop-form : goal.invariant-loop-form
invariant-loop-form l = all_there (map (choice l.name) (take l.form-index l.forms)) ≡ Some l.found
