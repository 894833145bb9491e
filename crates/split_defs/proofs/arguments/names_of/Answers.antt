use Rattle.std.proofs.Common.{refl}
use Rattle.split_defs.proofs.Headings.{comes_twice, has_other}
use Rattle.split_defs.proofs.arguments.names_of.Goals as goal

pub returns-then-not-branch : goal.returns-then-not-branch
returns-then-not-branch c =
    comes_twice c.args.args.now c.loop-arg.names.keys c.loop-arg.arg-index c.in-Var.number c.arg-item.result c.in_ok-insert-in-Var.field-0 _ c.loop-arg.invariant.front c.loop-arg-test.true c.arg-item.is c.in-Var.is c.in_ok-insert-in-Var.ensures.added refl
    c.if-not-branch.true

pub returns-in-App : goal.returns-in-App
returns-in-App c = has_other c.args.args.now c.loop-arg.arg-index c.in-App.field-0 c.in-App.field-1 c.arg-item.result c.loop-arg-test.true c.arg-item.is c.in-App.is
