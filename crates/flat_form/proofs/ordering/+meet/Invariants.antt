use Rattle.std.proofs.Common.{◌≡◌, take, flat_map}
use Rattle.flat_form.specs.Flat.{met_all}
use Rattle.flat_form.specs.Variables.{variables_of}
use Rattle.flat_form.proofs.ordering.+meet.Given as goal

abbrev pub invariant-meet_all-loop-form : goal.invariant-meet_all-loop-form
invariant-meet_all-loop-form l = l.met.keys ≡ met_all l.count l.fn.met.keys (flat_map (variables_of l.depth) (take l.form-index l.forms))
