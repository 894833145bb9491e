use Rattle.clause_form.specs.Paths.{forms_of}
use Rattle.std.proofs.Common.{refl}
use Rattle.step_clauses.proofs.RoomFacts.{sizes_leave_room}
use Rattle.step_clauses.proofs.room.has_room.Goals as goal

pub returns-then-saturating_add-most : goal.returns-then-saturating_add-most
returns-then-saturating_add-most c = (
  λ h. sizes_leave_room c.args.symbols (forms_of c.args.parents.now) c.args.line.now c.sizes.result c.saturating_add.result c.sizes.ensures c.saturating_add.ensures c.if-saturating_add-most.true,
  λ h. refl,
)
