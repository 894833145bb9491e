use Rattle.std.proofs.Common.{◌∙◌, ◌^◌, ◌-◌}
use Rattle.step_clauses.specs.code.Counts.{small_size}
use Rattle.step_clauses.proofs.RoomFacts.{stopped_line, line_size}
use Rattle.step_clauses.proofs.room.sizes.Goals as goal

pub returns : goal.returns
returns c = stopped_line small_size c.args.parents.now c.args.line.now (2 ^ 64 - 1) c.sizes_of_parents.result c.size.result _ c.sizes_of_parents.ensures (c.size.ensures ∙ line_size c.args.line.now) c.saturating_add.ensures
