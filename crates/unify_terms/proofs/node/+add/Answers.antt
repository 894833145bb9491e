use Rattle.std.proofs.Common.{◌≢◌, ◌-◌, subst, sym, None}
use Rattle.std.proofs.lemmas.List.{take_all}
use Rattle.fof_terms.specs.Sorts.{sort_of_term}
use Rattle.fof_terms.specs.declared.term.Term.{App}
use Rattle.unify_terms.specs.code.Graph.{Added, Fit, AreAdded}
use Rattle.unify_terms.proofs.Adding.{variable_added, add_turn, function_added, fit_args}
use Rattle.unify_terms.proofs.node.+add.Goals as goal

pub add-returns-in-Var : goal.add-returns-in-Var
add-returns-in-Var t c = rw c.in-Var.is (λ v sorts rigid g fits. variable_added v sorts rigid c.args.nodes.now c.in-Var.variable g fits)

pub add-returns-in_ok-push-in-App : goal.add-returns-in_ok-push-in-App
add-returns-in_ok-push-in-App t c = rw c.in-App.is (λ v sorts rigid g fits.
    let args_fit = fit_args v sorts c.in-App.function c.in-App.args fits in
    let numbers_are = c.in_ok-numbers-in-App.ensures v sorts rigid g (subst (Fit v sorts) (sym c.as_slice-args.ensures) args_fit) in
    let added = function_added v sorts rigid c.args.nodes.now c.add_all.new.nodes c.in-App.function c.as_slice-args.result c.in_ok-numbers-in-App.numbers numbers_are
    (subst (λ ts. sort_of_term v sorts (App c.in-App.function ts) ≢ None) (sym c.as_slice-args.ensures) fits)
    c.push.new.self c.len.result c.in_ok-push-in-App.ensures.ok c.len.ensures in
    subst (λ ts. Added v sorts rigid c.args.nodes.now (App c.in-App.function ts) c.push.new.self (c.len.result - 1)) c.as_slice-args.ensures added)

pub add_all-loop-term-preserved : goal.add_all-loop-term-preserved
add_all-loop-term-preserved t c =
    add_turn c.args.nodes.now c.loop-term.nodes c.add.new.nodes c.args.terms.now c.loop-term.term-index c.term-item.result c.loop-term.numbers c.push.new.self c.in_ok-add.field-0 c.loop-term-test.true c.term-item.is
    c.loop-term.invariant c.in_ok-add.ensures c.in_ok-push.ensures.ok

pub add_all-returns : goal.add_all-returns
add_all-returns t c = subst (λ ts. AreAdded c.args.nodes.now ts c.loop-term.nodes c.loop-term.numbers) (take_all c.loop-term.term-index c.args.terms.now c.loop-term-test.false) c.loop-term.invariant
