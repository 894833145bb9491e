use Rattle.std.proofs.Common.{◌≡◌, take, map}
use Rattle.flat_form.specs.Renumbered.{renumbered}
use Rattle.flat_form.specs.Numbers.{listed}
use Rattle.flat_form.proofs.numbering.+renumber.Given as goal

abbrev pub invariant-renumber_all-loop-form : goal.invariant-renumber_all-loop-form
invariant-renumber_all-loop-form l = l.made ≡ map (renumbered (listed l.near l.outside) l.depth) (take l.form-index l.forms)
