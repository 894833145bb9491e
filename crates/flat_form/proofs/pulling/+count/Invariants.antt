use Rattle.std.proofs.Common.{◌≡◌, take, map, length}
use Rattle.flat_form.specs.Flat.{pulled, sorts_of}
use Rattle.flat_form.proofs.pulling.+count.Given as goal

abbrev pub invariant-count_all-loop-form : goal.invariant-count_all-loop-form
invariant-count_all-loop-form l = l.total ≡ length (sorts_of (map pulled (take l.form-index l.forms)))
