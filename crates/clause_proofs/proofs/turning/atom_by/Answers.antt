use Rattle.fof_terms.specs.Scope.{scope_sorts}
use Rattle.derive_kit.proofs.Built.{ok_map}
use Rattle.clause_proofs.proofs.TurnedSides.{same_side, other_side, no_sides, yes, no_then, without_sides}
use Rattle.clause_proofs.proofs.turning.atom_by.Goals as goal

pub returns-then-begins_with : goal.returns-then-begins_with
returns-then-begins_with c =
    same_side c.args.signature.now (scope_sorts c.args.scope.now) c.args.number c.args.from.now c.args.to.now c.in-Eq.left c.in-Eq.right c.in_ok-own.own c.in-Eq.is c.requires.same c.requires.sorted (yes _ c.if-begins_with.true c.begins_with.ensures) c.in_ok-own.ensures

pub returns-else-begins_with : goal.returns-else-begins_with
returns-else-begins_with c =
    ok_map c.turned.result
    (λ made t. other_side c.args.signature.now (scope_sorts c.args.scope.now) c.args.number c.args.from.now c.args.to.now c.in-Eq.left c.in-Eq.right c.in_ok-own.own made c.in-Eq.is c.requires.same c.requires.sorted c.requires.room
    (no_then _ c.if-begins_with.false c.begins_with.ensures) c.in_ok-own.ensures t)
    c.turned.ensures

pub returns-in-Pred : goal.returns-in-Pred
returns-in-Pred c =
    no_sides c.args.signature.now (scope_sorts c.args.scope.now) c.args.number c.args.from.now c.args.to.now c.in_ok-own.own (without_sides c.args.signature.now (scope_sorts c.args.scope.now) c.args.from.now c.in-Pred.is) c.requires.same c.requires.sorted c.in_ok-own.ensures
