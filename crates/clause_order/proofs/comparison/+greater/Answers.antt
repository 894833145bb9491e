use Rattle.clause_order.proofs.Decided.{exceeds_past, same_here, heavier, lighter, not_inside, inside, untrue, truly}
use Rattle.clause_order.specs.code.Inside.{IsGreaterInside}
use Rattle.clause_order.proofs.comparison.+greater.Goals as goal

pub exceed_at_first-returns-then-at-right : goal.exceed_at_first-returns-then-at-right
exceed_at_first-returns-then-at-right t c = exceeds_past c.args.left.now c.args.right.now c.loop-at.at
    c.if-at-right.true c.loop-at.invariant

pub exceed_at_first-loop-at-preserved : goal.exceed_at_first-loop-at-preserved
exceed_at_first-loop-at-preserved t c =
    same_here c.args.left.now c.args.right.now c.loop-at.at c.index-left-at.result c.index-right-at.result
    c.loop-at-test.true c.if-at-right.false c.index-left-at.is c.index-right-at.is
    c.equal_term.result c.equal_term.ensures c.loop-at.invariant c.if-not-equal_term.false

pub is_greater-returns-then-right_weight-left_weight : goal.is_greater-returns-then-right_weight-left_weight
is_greater-returns-then-right_weight-left_weight t c =
    heavier c.args.left.now c.args.right.now c.weight-left_weight.result c.weight-right_weight.result
    c.weight-left_weight.ensures c.weight-right_weight.ensures c.if-right_weight-left_weight.true
    c.has_variables_of.result c.has_variables_of.ensures

pub is_greater-returns-then-left_weight-right_weight : goal.is_greater-returns-then-left_weight-right_weight
is_greater-returns-then-left_weight-right_weight t c =
    lighter c.args.left.now c.args.right.now c.weight-left_weight.result c.weight-right_weight.result
    c.weight-left_weight.ensures c.weight-right_weight.ensures c.if-left_weight-right_weight.true

pub is_greater-returns-then-not-is_greater_inside : goal.is_greater-returns-then-not-is_greater_inside
is_greater-returns-then-not-is_greater_inside t c =
    not_inside c.args.left.now c.args.right.now c.weight-left_weight.result c.weight-right_weight.result
    c.weight-left_weight.ensures c.weight-right_weight.ensures c.if-right_weight-left_weight.false
    (untrue c.is_greater_inside.result (IsGreaterInside c.args.left.now c.args.right.now)
    c.if-not-is_greater_inside.true c.is_greater_inside.ensures)

pub is_greater-returns : goal.is_greater-returns
is_greater-returns t c =
    inside c.args.left.now c.args.right.now c.weight-left_weight.result c.weight-right_weight.result
    c.weight-left_weight.ensures c.weight-right_weight.ensures
    c.if-right_weight-left_weight.false c.if-left_weight-right_weight.false
    (truly c.is_greater_inside.result (IsGreaterInside c.args.left.now c.args.right.now)
    c.if-not-is_greater_inside.false c.is_greater_inside.ensures)
    c.has_variables_of-2.result c.has_variables_of-2.ensures
