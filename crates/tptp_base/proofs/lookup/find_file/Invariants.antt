use Rattle.std.proofs.Common.{◌≡◌, drop}
use Rattle.tptp_base.specs.Store.{file_at}
use Rattle.tptp_base.proofs.lookup.find_file.Given as goal

abbrev pub invariant-loop-stored : goal.invariant-loop-stored
invariant-loop-stored l = file_at l.files l.name ≡ file_at (drop l.stored-index l.files) l.name
