use Rattle.std.proofs.Common.{◌≡◌, drop}
use Rattle.fi_model.specs.Tables.{interpretation}
use Rattle.tptp_commands.specs.Modelled.{first_false}
use Rattle.tptp_commands.proofs.modelled.first_false.Given as goal

-- the first that is false is the first of those that are left
abbrev pub invariant-loop-entry : goal.invariant-loop-entry
invariant-loop-entry l = first_false (interpretation l.model) l.given ≡ first_false (interpretation l.model) (drop l.entry-index l.given)
