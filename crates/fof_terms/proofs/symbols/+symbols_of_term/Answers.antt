use Rattle.std.proofs.Common.{◌==◌, sym, subst, arith}
use Rattle.std.specs.List.{list_any}
use Rattle.fof_terms.specs.Occurs.{occurs_in_term}
use Rattle.fof_terms.proofs.OccursFacts.{occurs_equations}
use Rattle.fof_terms.specs.Standing.{GainsOnly}
use Rattle.fof_terms.proofs.Gains.{gains_none, gains_one, gains_both, gains_more, appends_head, appends_more, appends_within}
use Rattle.fof_terms.proofs.symbols.+symbols_of_term.Goals as goal

pub symbols_of_term-returns-in-Var-clause-ok : goal.symbols_of_term-returns-in-Var-clause-ok
symbols_of_term-returns-in-Var-clause-ok t c = gains_none (λ symbol. occurs_in_term symbol c.args.term.now) c.args.symbols.now (λ symbol. grind (arith, occurs_equations))

pub symbols_of_term-returns-in_ok-symbols_of_terms-in-App-clause-ok : goal.symbols_of_term-returns-in_ok-symbols_of_terms-in-App-clause-ok
symbols_of_term-returns-in_ok-symbols_of_terms-in-App-clause-ok t c =
    gains_both (λ symbol. c.in-App.head == symbol) (λ symbol. list_any (occurs_in_term symbol) c.as_slice.result.now) (λ symbol. occurs_in_term symbol c.args.term.now) c.args.symbols.now c.push.new.self c.symbols_of_terms.new.symbols
    (λ symbol. grind (arith, occurs_equations))
    (subst (GainsOnly c.args.symbols.now (λ symbol. c.in-App.head == symbol)) (sym c.in_ok-push-in-App.ensures.ok) (gains_one c.args.symbols.now c.in-App.head))
    c.in_ok-symbols_of_terms-in-App.ensures.ok

pub symbols_of_term-returns-in_ok-symbols_of_terms-in-App-clause-appended : goal.symbols_of_term-returns-in_ok-symbols_of_terms-in-App-clause-appended
symbols_of_term-returns-in_ok-symbols_of_terms-in-App-clause-appended t c =
    appends_head (λ symbol. list_any (occurs_in_term symbol) c.as_slice.result.now) (λ symbol. occurs_in_term symbol c.args.term.now) c.args.symbols.now c.push.new.self c.symbols_of_terms.new.symbols c.in-App.head
    (grind (arith, occurs_equations))
    (λ symbol stands. grind (arith, occurs_equations))
    c.in_ok-push-in-App.ensures.ok c.in_ok-symbols_of_terms-in-App.ensures.appended

pub symbols_of_term-returns-in_err-symbols_of_terms-in-App-clause-appended : goal.symbols_of_term-returns-in_err-symbols_of_terms-in-App-clause-appended
symbols_of_term-returns-in_err-symbols_of_terms-in-App-clause-appended t c =
    appends_head (λ symbol. list_any (occurs_in_term symbol) c.as_slice.result.now) (λ symbol. occurs_in_term symbol c.args.term.now) c.args.symbols.now c.push.new.self c.symbols_of_terms.new.symbols c.in-App.head
    (grind (arith, occurs_equations))
    (λ symbol stands. grind (arith, occurs_equations))
    c.in_ok-push-in-App.ensures.ok c.in_err-symbols_of_terms-in-App.ensures.appended

pub symbols_of_terms-loop-term-preserved : goal.symbols_of_terms-loop-term-preserved
symbols_of_terms-loop-term-preserved t c = (
  gains_more (λ symbol. occurs_in_term symbol) c.args.terms.now c.loop-term.term-index c.term-item.result c.args.symbols.now c.loop-term.symbols c.symbols_of_term.new.symbols c.loop-term-test.true c.term-item.is c.loop-term.invariant.0 c.in_ok-symbols_of_term.ensures.ok,
  appends_more (λ symbol. occurs_in_term symbol) c.args.terms.now c.loop-term.term-index c.term-item.result c.args.symbols.now c.loop-term.symbols c.symbols_of_term.new.symbols c.loop-term-test.true c.term-item.is c.loop-term.invariant.1 c.in_ok-symbols_of_term.ensures.appended,
)

pub symbols_of_terms-returns-in_err-symbols_of_term-clause-appended : goal.symbols_of_terms-returns-in_err-symbols_of_term-clause-appended
symbols_of_terms-returns-in_err-symbols_of_term-clause-appended t c =
    appends_within (λ symbol. occurs_in_term symbol) c.args.terms.now c.loop-term.term-index c.term-item.result c.args.symbols.now c.loop-term.symbols c.symbols_of_term.new.symbols c.loop-term-test.true c.term-item.is c.loop-term.invariant.1 c.in_err-symbols_of_term.ensures.appended
