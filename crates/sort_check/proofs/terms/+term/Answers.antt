use Rattle.std.proofs.Common.{rules}
use Rattle.sort_check.specs.code.Denotation.{setting}
use Rattle.sort_check.proofs.Parts.{app_ok, app_fails}
use Rattle.sort_check.proofs.TermSorts.{grows_on}
use Rattle.sort_check.proofs.terms.+term.Goals as goal

pub denote_term-returns-in_err-args-in-App-clause-value : goal.denote_term-returns-in_err-args-in-App-clause-value
denote_term-returns-in_err-args-in-App-clause-value t c =
    let f = app_fails (setting c.args.declared.now c.args.scope.now) c.args.scope.now.variables c.args.term.now c.in-App.name _ c.in-App.args _ _ c.args.asked c.args.signature.now c.head.new.signature c.in_ok-function-in-App.function c.in-App.is c.as_slice-in-App.ensures
    c.as_slice-in-App-2.ensures c.as_slice-in-App-3.ensures c.in_ok-function-in-App.ensures.value _ c.in_err-args-in-App.ensures.value in search rules

pub denote_term-returns-in_ok-args-in-App-clause-value : goal.denote_term-returns-in_ok-args-in-App-clause-value
denote_term-returns-in_ok-args-in-App-clause-value t c =
    app_ok (setting c.args.declared.now c.args.scope.now) c.args.scope.now.variables c.args.term.now c.in-App.name _ c.in-App.args _ _ c.args.asked c.args.signature.now c.head.new.signature c.in_ok-function-in-App.function c.in-App.is c.as_slice-in-App.ensures
    c.as_slice-in-App-2.ensures c.as_slice-in-App-3.ensures c.in_ok-function-in-App.ensures.value c.in_ok-args-in-App.args c.denote_arguments.new.signature c.result_sort-sort.result c.result_sort-sort.ensures c.in_ok-args-in-App.ensures.value

pub denote_term-returns-in_ok-args-in-App-clause-keeps : goal.denote_term-returns-in_ok-args-in-App-clause-keeps
denote_term-returns-in_ok-args-in-App-clause-keeps t c = grows_on c.args.signature.now c.head.new.signature c.denote_arguments.new.signature c.in_ok-function-in-App.ensures.keeps c.in_ok-args-in-App.ensures.keeps
