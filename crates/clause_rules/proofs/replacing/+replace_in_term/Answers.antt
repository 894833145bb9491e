use Rattle.std.proofs.Common.{subst, sym}
use Rattle.clause_rules.specs.RewriteRule.{AreRewritten, none}
use Rattle.clause_rules.proofs.Firsts.{holds, untrue}
use Rattle.clause_rules.proofs.Rewritten.{rewritten_more, at_itself, at_variable, at_inside}
use Rattle.clause_rules.proofs.replacing.+replace_in_term.Goals as goal

pub replace_in_term-returns-then-equal_term : goal.replace_in_term-returns-then-equal_term
replace_in_term-returns-then-equal_term t c = at_itself c.args.target.now c.args.new.now c.args.term.now c.in_ok-copy.field-0 (holds c.equal_term.result _ c.if-equal_term.true c.equal_term.ensures) c.in_ok-copy.ensures

pub replace_in_term-returns-in-Var : goal.replace_in_term-returns-in-Var
replace_in_term-returns-in-Var t c = at_variable c.args.target.now c.args.new.now c.args.term.now c.in-Var.variable (untrue c.equal_term.result _ c.if-equal_term.false c.equal_term.ensures) c.in-Var.is

pub replace_in_term-returns-in_ok-replace_in_terms-in-App : goal.replace_in_term-returns-in_ok-replace_in_terms-in-App
replace_in_term-returns-in_ok-replace_in_terms-in-App t c =
    at_inside c.args.target.now c.args.new.now c.args.term.now c.in-App.function c.in-App.args c.as_slice.result.now c.in_ok-replace_in_terms-in-App.field-0 (untrue c.equal_term.result _ c.if-equal_term.false c.equal_term.ensures) c.in-App.is c.as_slice.ensures c.in_ok-replace_in_terms-in-App.ensures

pub replace_in_terms-loop-term-init : goal.replace_in_terms-loop-term-init
replace_in_terms-loop-term-init t c = subst (AreRewritten c.args.target.now c.args.new.now _) (sym c.new-made.ensures) none

pub replace_in_terms-loop-term-preserved : goal.replace_in_terms-loop-term-preserved
replace_in_terms-loop-term-preserved t c =
    rewritten_more c.args.target.now c.args.new.now c.args.terms.now c.loop-term.made c.push.new.self c.loop-term.term-index c.term-item.result c.in_ok-replace_in_term.field-0 c.loop-term-test.true c.term-item.is c.loop-term.invariant c.in_ok-replace_in_term.ensures c.in_ok-push.ensures.ok
