use Rattle.std.proofs.Common.{◌≡◌, take, map}
use Rattle.split_defs.specs.code.Renaming.{renamed}
use Rattle.split_defs.proofs.renaming.+rename.Given as goal

abbrev pub invariant-rename_all-loop-form : goal.invariant-rename_all-loop-form
invariant-rename_all-loop-form l = l.made ≡ map (renamed l.names.keys l.depth) (take l.form-index l.forms)
