use Rattle.std.proofs.Common.{◌≡◌, take, map, true}
use Rattle.std.specs.Prelude.{is_some}
use Rattle.fi_model.specs.Sentences.{element, all_there}
use Rattle.fi_model.proofs.arguments.Arguments.new.Given as goal

abbrev pub invariant-loop-term : goal.invariant-loop-term
invariant-loop-term l = is_some (all_there (map element (take l.term-index l.terms))) ≡ true
