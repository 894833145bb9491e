use Rattle.clause_form.proofs.RoomFacts.{second_reach, moved_twice}
use Rattle.clause_form.proofs.Ok.{ok_map}
use Rattle.clause_form.proofs.beside.move_lit.Goals as goal

pub lift_lit-requires-2 : goal.lift_lit-requires-2
lift_lit-requires-2 c = second_reach c.args.after c.args.before c.args.count c.args.lit.now c.in_ok-inner.inner c.in_ok-inner.ensures c.requires

pub returns : goal.returns
returns c = ok_map c.lift_lit-2.result (λ made e. moved_twice c.args.after c.args.before c.args.count c.args.lit.now c.in_ok-inner.inner made c.in_ok-inner.ensures e) c.lift_lit-2.ensures
