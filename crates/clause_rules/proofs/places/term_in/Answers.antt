use Rattle.std.proofs.Common.{sym, ◌∙◌}
use Rattle.clause_rules.proofs.PlaceCode.{in_pred, in_equation, in_neither, not_empty}
use Rattle.clause_rules.proofs.places.term_in.Goals as goal

pub returns-in-Some : goal.returns-in-Some
returns-in-Some c = c.term_below.ensures ∙ sym (in_pred c.args.place.now c.args.lit.now c.in-Pred.field-0 c.in-Pred.args _ (not_empty c.args.place.now c.if-is_empty.ensures) c.in-Pred.is c.in-Some.ensures.value)

pub returns-in-0 : goal.returns-in-0
returns-in-0 c = c.term_below-in-0.ensures ∙ sym (in_equation c.args.place.now c.args.lit.now c.in-Eq.left c.in-Eq.right 0 (not_empty c.args.place.now c.if-is_empty.ensures) c.in-Eq.is c.in-0.is)

pub returns-in-1 : goal.returns-in-1
returns-in-1 c = c.term_below-in-1.ensures ∙ sym (in_equation c.args.place.now c.args.lit.now c.in-Eq.left c.in-Eq.right 1 (not_empty c.args.place.now c.if-is_empty.ensures) c.in-Eq.is c.in-1.is)

pub returns-in-True : goal.returns-in-True
returns-in-True c = in_neither c.args.place.now c.args.lit.now (not_empty c.args.place.now c.if-is_empty.ensures) c.in-True.is
