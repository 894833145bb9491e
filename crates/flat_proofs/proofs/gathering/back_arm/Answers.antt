use Rattle.std.proofs.Common.{◌+◌, arith, length-drop, length-take-le}
use Rattle.flat_proofs.proofs.gathering.back_arm.Goals as goal

pub inhabited-requires-clause-room : goal.inhabited-requires-clause-room
inhabited-requires-clause-room c = λ by le.
    let few = length-drop (c.args.before + c.len-own.result) c.args.sorts.now in
    rw (c.in_ok-body.ensures, c.len-own.ensures) (c.requires.later by (omega arith))

pub inhabited-requires-2-clause-room : goal.inhabited-requires-2-clause-room
inhabited-requires-2-clause-room c = λ by le.
    let few = length-take-le c.args.before c.args.sorts.now (omega (arith, c.requires.sorts)) in
    c.requires.closed by (omega (arith, le, c.requires.sorts))
