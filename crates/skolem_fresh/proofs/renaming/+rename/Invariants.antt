use Rattle.std.proofs.Common.{◌≡◌, take, map}
use Rattle.skolem_fresh.specs.Renamed.{renamed}
use Rattle.skolem_fresh.proofs.renaming.+rename.Given as goal

abbrev pub invariant-rename_all-loop-form : goal.invariant-rename_all-loop-form
invariant-rename_all-loop-form l = l.made ≡ map (renamed l.variables l.depth) (take l.form-index l.forms)
