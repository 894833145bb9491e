use Rattle.clause_order.specs.Weights.{as_term}
use Rattle.clause_order.specs.code.Inside.{IsGreaterInside}
use Rattle.clause_order.proofs.Decided.{heavier, not_inside, inside, untrue, truly}
use Rattle.clause_order.proofs.exceeding.exceeds.Goals as goal

pub returns-then-right_weight-left_weight : goal.returns-then-right_weight-left_weight
returns-then-right_weight-left_weight c =
    heavier (as_term c.args.left.now.atom) (as_term c.args.right.now.atom) c.lit_weight_of-left_weight.result
    c.lit_weight_of-right_weight.result
    c.lit_weight_of-left_weight.ensures c.lit_weight_of-right_weight.ensures c.if-right_weight-left_weight.true
    c.atom_has_variables_of.result c.atom_has_variables_of.ensures

pub returns-then-not-atom_is_greater_inside : goal.returns-then-not-atom_is_greater_inside
returns-then-not-atom_is_greater_inside c =
    not_inside (as_term c.args.left.now.atom) (as_term c.args.right.now.atom) c.lit_weight_of-left_weight.result
    c.lit_weight_of-right_weight.result
    c.lit_weight_of-left_weight.ensures c.lit_weight_of-right_weight.ensures c.if-right_weight-left_weight.false
    (untrue c.atom_is_greater_inside.result (IsGreaterInside (as_term c.args.left.now.atom)
    (as_term c.args.right.now.atom)) c.if-not-atom_is_greater_inside.true c.atom_is_greater_inside.ensures)

pub returns : goal.returns
returns c =
    inside (as_term c.args.left.now.atom) (as_term c.args.right.now.atom) c.lit_weight_of-left_weight.result
    c.lit_weight_of-right_weight.result
    c.lit_weight_of-left_weight.ensures c.lit_weight_of-right_weight.ensures c.if-right_weight-left_weight.false
    c.if-left_weight-right_weight.false
    (truly c.atom_is_greater_inside.result (IsGreaterInside (as_term c.args.left.now.atom)
    (as_term c.args.right.now.atom)) c.if-not-atom_is_greater_inside.false c.atom_is_greater_inside.ensures)
    c.atom_has_variables_of-2.result c.atom_has_variables_of-2.ensures
