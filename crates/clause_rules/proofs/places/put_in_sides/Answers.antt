use Rattle.clause_rules.proofs.PlaceCode.{left_side, right_side, not_empty}
use Rattle.clause_rules.proofs.places.put_in_sides.Goals as goal

pub returns-in_ok-copy-in-0 : goal.returns-in_ok-copy-in-0
returns-in_ok-copy-in-0 c =
    left_side c.args.place.now c.args.new.now c.args.left.now c.args.right.now c.in_ok-put_in_term-in-0.field-0 c.in_ok-copy-in-0.field-0 (not_empty c.args.place.now c.if-is_empty.ensures) c.in-0.is c.in_ok-put_in_term-in-0.ensures c.in_ok-copy-in-0.ensures

pub returns-in_ok-put_in_term-in-1 : goal.returns-in_ok-put_in_term-in-1
returns-in_ok-put_in_term-in-1 c =
    right_side c.args.place.now c.args.new.now c.args.left.now c.args.right.now c.in_ok-put_in_term-in-1.field-0 c.in_ok-copy-in-1.field-0 (not_empty c.args.place.now c.if-is_empty.ensures) c.in-1.is c.in_ok-copy-in-1.ensures c.in_ok-put_in_term-in-1.ensures
