use Rattle.std.proofs.Common.{arith}
use Rattle.std.proofs.lemmas.Bool.{leb-false}
use Rattle.clause_rules.proofs.Firsts.{there_at}
use Rattle.substitution_search.proofs.Unmet.{never_vars, never_var_app, never_turned, never_functions, never_within, never_at}
use Rattle.substitution_search.proofs.chances.+may_be_equal.Goals as goal

pub may_be_equal-returns-else-variable-rigid : goal.may_be_equal-returns-else-variable-rigid
may_be_equal-returns-else-variable-rigid t c = λ e. never_vars c.args.rigid c.args.left.now c.args.right.now c.in-Var.variable c.in-Var-right.other c.in-Var.is c.in-Var-right.is (omega arith) (leb-false c.args.rigid c.in-Var-right.other e) c.if-variable-other.false

pub may_be_equal-returns-in-App-right : goal.may_be_equal-returns-in-App-right
may_be_equal-returns-in-App-right t c = λ e. never_var_app c.args.rigid c.args.left.now c.args.right.now c.in-Var.variable c.in-App-right.field-0 c.in-App-right.field-1 c.in-Var.is c.in-App-right.is (leb-false c.args.rigid c.in-Var.variable e)

pub may_be_equal-returns-in-Var-right-2 : goal.may_be_equal-returns-in-Var-right-2
may_be_equal-returns-in-Var-right-2 t c = λ e.
    never_turned c.args.rigid c.args.left.now c.args.right.now (never_var_app c.args.rigid c.args.right.now c.args.left.now c.in-Var-right-2.variable c.in-App.function c.in-App.args c.in-Var-right-2.is c.in-App.is (leb-false c.args.rigid c.in-Var-right-2.variable e))

pub may_be_equal-returns-then-function-other : goal.may_be_equal-returns-then-function-other
may_be_equal-returns-then-function-other t c = λ _. never_functions c.args.rigid c.args.left.now c.args.right.now c.in-App.function c.in-App-right-2.other c.in-App.args c.in-App-right-2.others c.in-App.is c.in-App-right-2.is c.if-function-other.true

pub may_be_equal-returns-else-function-other : goal.may_be_equal-returns-else-function-other
may_be_equal-returns-else-function-other t c = λ e.
    never_within c.args.rigid c.args.left.now c.args.right.now c.in-App.function c.in-App-right-2.other c.in-App.args c.in-App-right-2.others c.in-App.is c.in-App-right-2.is
    c.as_slice.result.now c.as_slice-in-App-right-2.result.now c.as_slice.ensures c.as_slice-in-App-right-2.ensures (c.may_all_be_equal.ensures e)

pub may_all_be_equal-returns-then-not-may_be_equal : goal.may_all_be_equal-returns-then-not-may_be_equal
may_all_be_equal-returns-then-not-may_be_equal t c = λ _.
    never_at c.args.rigid c.args.left.now c.args.right.now c.loop-at.at c.index-left-at.result c.index-right-at.result (there_at c.args.left.now c.loop-at.at c.index-left-at.result (omega arith) c.index-left-at.is) (there_at c.args.right.now c.loop-at.at c.index-right-at.result (omega arith) c.index-right-at.is) (c.may_be_equal.ensures c.if-not-may_be_equal.true)
