use Rattle.std.proofs.Common.{◌==◌, sym, subst, arith}
use Rattle.std.specs.List.{list_any}
use Rattle.fof_terms.specs.Occurs.{occurs_in, occurs_in_term}
use Rattle.fof_terms.proofs.OccursFacts.{occurs_equations}
use Rattle.fof_terms.specs.Standing.{GainsOnly}
use Rattle.fof_terms.proofs.Gains.{gains_one, gains_both, gains_as, gains_more, appends_as, appends_both, appends_head, appends_more, appends_within, on_ok}
use Rattle.fof_terms.proofs.symbols.+symbols_of.Goals as goal

pub symbols_of-returns-in_ok-symbols_of_terms-in-Atom-clause-ok : goal.symbols_of-returns-in_ok-symbols_of_terms-in-Atom-clause-ok
symbols_of-returns-in_ok-symbols_of_terms-in-Atom-clause-ok t c =
    gains_both (λ symbol. c.in-Atom.head == symbol) (λ symbol. list_any (occurs_in_term symbol) c.as_slice.result.now) (λ symbol. occurs_in symbol c.args.form.now) c.args.symbols.now c.push.new.self c.symbols_of_terms.new.symbols
    (λ symbol. grind (arith, occurs_equations))
    (subst (GainsOnly c.args.symbols.now (λ symbol. c.in-Atom.head == symbol)) (sym c.in_ok-push-in-Atom.ensures.ok) (gains_one c.args.symbols.now c.in-Atom.head))
    c.in_ok-symbols_of_terms-in-Atom.ensures.ok

pub symbols_of-returns-in_ok-symbols_of_term-in-Eq-2-clause-ok : goal.symbols_of-returns-in_ok-symbols_of_term-in-Eq-2-clause-ok
symbols_of-returns-in_ok-symbols_of_term-in-Eq-2-clause-ok t c =
    gains_both (λ symbol. occurs_in_term symbol c.in-Eq.left) (λ symbol. occurs_in_term symbol c.in-Eq.right) (λ symbol. occurs_in symbol c.args.form.now) c.args.symbols.now c.symbols_of_term.new.symbols c.symbols_of_term-in-Eq.new.symbols
    (λ symbol. grind (arith, occurs_equations))
    c.in_ok-symbols_of_term-in-Eq.ensures.ok
    c.in_ok-symbols_of_term-in-Eq-2.ensures.ok

pub symbols_of-returns-in_ok-symbols_of-in-Imp-2-clause-ok : goal.symbols_of-returns-in_ok-symbols_of-in-Imp-2-clause-ok
symbols_of-returns-in_ok-symbols_of-in-Imp-2-clause-ok t c =
    gains_both (λ symbol. occurs_in symbol c.get.result.now) (λ symbol. occurs_in symbol c.get-in-Imp.result.now) (λ symbol. occurs_in symbol c.args.form.now) c.args.symbols.now c.symbols_of.new.symbols c.symbols_of-in-Imp.new.symbols
    (λ symbol. grind (arith, occurs_equations))
    c.in_ok-symbols_of-in-Imp.ensures.ok
    c.in_ok-symbols_of-in-Imp-2.ensures.ok

pub symbols_of-returns-in-And-clause-ok : goal.symbols_of-returns-in-And-clause-ok
symbols_of-returns-in-And-clause-ok t c =
    on_ok c.symbols_of_all.result
    (λ g. gains_as (λ symbol. list_any (occurs_in symbol) c.as_slice-in-And.result.now) (λ symbol. occurs_in symbol c.args.form.now) c.args.symbols.now c.symbols_of_all.new.symbols (λ symbol. grind (arith, occurs_equations)) g)
    c.symbols_of_all.ensures.ok

pub symbols_of-returns-in-Not-clause-ok : goal.symbols_of-returns-in-Not-clause-ok
symbols_of-returns-in-Not-clause-ok t c =
    on_ok c.symbols_of-in-Not.result
    (λ g. gains_as (λ symbol. occurs_in symbol c.get-in-Not.result.now) (λ symbol. occurs_in symbol c.args.form.now) c.args.symbols.now c.symbols_of-in-Not.new.symbols (λ symbol. grind (arith, occurs_equations)) g)
    c.symbols_of-in-Not.ensures.ok

pub symbols_of-returns-in_ok-symbols_of_terms-in-Atom-clause-appended : goal.symbols_of-returns-in_ok-symbols_of_terms-in-Atom-clause-appended
symbols_of-returns-in_ok-symbols_of_terms-in-Atom-clause-appended t c =
    appends_head (λ symbol. list_any (occurs_in_term symbol) c.as_slice.result.now) (λ symbol. occurs_in symbol c.args.form.now) c.args.symbols.now c.push.new.self c.symbols_of_terms.new.symbols c.in-Atom.head
    (grind (arith, occurs_equations))
    (λ symbol stands. grind (arith, occurs_equations))
    c.in_ok-push-in-Atom.ensures.ok c.in_ok-symbols_of_terms-in-Atom.ensures.appended

pub symbols_of-returns-in_err-symbols_of_terms-in-Atom-clause-appended : goal.symbols_of-returns-in_err-symbols_of_terms-in-Atom-clause-appended
symbols_of-returns-in_err-symbols_of_terms-in-Atom-clause-appended t c =
    appends_head (λ symbol. list_any (occurs_in_term symbol) c.as_slice.result.now) (λ symbol. occurs_in symbol c.args.form.now) c.args.symbols.now c.push.new.self c.symbols_of_terms.new.symbols c.in-Atom.head
    (grind (arith, occurs_equations))
    (λ symbol stands. grind (arith, occurs_equations))
    c.in_ok-push-in-Atom.ensures.ok c.in_err-symbols_of_terms-in-Atom.ensures.appended

pub symbols_of-returns-in_ok-symbols_of_term-in-Eq-2-clause-appended : goal.symbols_of-returns-in_ok-symbols_of_term-in-Eq-2-clause-appended
symbols_of-returns-in_ok-symbols_of_term-in-Eq-2-clause-appended t c =
    appends_both (λ symbol. occurs_in_term symbol c.in-Eq.left) (λ symbol. occurs_in_term symbol c.in-Eq.right) (λ symbol. occurs_in symbol c.args.form.now) c.args.symbols.now c.symbols_of_term.new.symbols c.symbols_of_term-in-Eq.new.symbols
    (λ symbol stands. grind (arith, occurs_equations))
    (λ symbol stands. grind (arith, occurs_equations))
    c.in_ok-symbols_of_term-in-Eq.ensures.appended
    c.in_ok-symbols_of_term-in-Eq-2.ensures.appended

pub symbols_of-returns-in_ok-symbols_of-in-Imp-2-clause-appended : goal.symbols_of-returns-in_ok-symbols_of-in-Imp-2-clause-appended
symbols_of-returns-in_ok-symbols_of-in-Imp-2-clause-appended t c =
    appends_both (λ symbol. occurs_in symbol c.get.result.now) (λ symbol. occurs_in symbol c.get-in-Imp.result.now) (λ symbol. occurs_in symbol c.args.form.now) c.args.symbols.now c.symbols_of.new.symbols c.symbols_of-in-Imp.new.symbols
    (λ symbol stands. grind (arith, occurs_equations))
    (λ symbol stands. grind (arith, occurs_equations))
    c.in_ok-symbols_of-in-Imp.ensures.appended
    c.in_ok-symbols_of-in-Imp-2.ensures.appended

pub symbols_of-returns-in_err-symbols_of_term-in-Eq-2-clause-appended : goal.symbols_of-returns-in_err-symbols_of_term-in-Eq-2-clause-appended
symbols_of-returns-in_err-symbols_of_term-in-Eq-2-clause-appended t c =
    appends_both (λ symbol. occurs_in_term symbol c.in-Eq.left) (λ symbol. occurs_in_term symbol c.in-Eq.right) (λ symbol. occurs_in symbol c.args.form.now) c.args.symbols.now c.symbols_of_term.new.symbols c.symbols_of_term-in-Eq.new.symbols
    (λ symbol stands. grind (arith, occurs_equations))
    (λ symbol stands. grind (arith, occurs_equations))
    c.in_ok-symbols_of_term-in-Eq.ensures.appended
    c.in_err-symbols_of_term-in-Eq-2.ensures.appended

pub symbols_of-returns-in_err-symbols_of-in-Imp-2-clause-appended : goal.symbols_of-returns-in_err-symbols_of-in-Imp-2-clause-appended
symbols_of-returns-in_err-symbols_of-in-Imp-2-clause-appended t c =
    appends_both (λ symbol. occurs_in symbol c.get.result.now) (λ symbol. occurs_in symbol c.get-in-Imp.result.now) (λ symbol. occurs_in symbol c.args.form.now) c.args.symbols.now c.symbols_of.new.symbols c.symbols_of-in-Imp.new.symbols
    (λ symbol stands. grind (arith, occurs_equations))
    (λ symbol stands. grind (arith, occurs_equations))
    c.in_ok-symbols_of-in-Imp.ensures.appended
    c.in_err-symbols_of-in-Imp-2.ensures.appended

pub symbols_of-returns-in_err-symbols_of_term-in-Eq-clause-appended : goal.symbols_of-returns-in_err-symbols_of_term-in-Eq-clause-appended
symbols_of-returns-in_err-symbols_of_term-in-Eq-clause-appended t c =
    appends_as (λ symbol. occurs_in_term symbol c.in-Eq.left) (λ symbol. occurs_in symbol c.args.form.now) c.args.symbols.now c.symbols_of_term.new.symbols
    (λ symbol stands. grind (arith, occurs_equations))
    c.in_err-symbols_of_term-in-Eq.ensures.appended

pub symbols_of-returns-in_err-symbols_of-in-Imp-clause-appended : goal.symbols_of-returns-in_err-symbols_of-in-Imp-clause-appended
symbols_of-returns-in_err-symbols_of-in-Imp-clause-appended t c =
    appends_as (λ symbol. occurs_in symbol c.get.result.now) (λ symbol. occurs_in symbol c.args.form.now) c.args.symbols.now c.symbols_of.new.symbols
    (λ symbol stands. grind (arith, occurs_equations))
    c.in_err-symbols_of-in-Imp.ensures.appended

pub symbols_of-returns-in-Not-clause-appended : goal.symbols_of-returns-in-Not-clause-appended
symbols_of-returns-in-Not-clause-appended t c =
    appends_as (λ symbol. occurs_in symbol c.get-in-Not.result.now) (λ symbol. occurs_in symbol c.args.form.now) c.args.symbols.now c.symbols_of-in-Not.new.symbols
    (λ symbol stands. grind (arith, occurs_equations))
    c.symbols_of-in-Not.ensures.appended

pub symbols_of-returns-in-And-clause-appended : goal.symbols_of-returns-in-And-clause-appended
symbols_of-returns-in-And-clause-appended t c =
    appends_as (λ symbol. list_any (occurs_in symbol) c.as_slice-in-And.result.now) (λ symbol. occurs_in symbol c.args.form.now) c.args.symbols.now c.symbols_of_all.new.symbols
    (λ symbol stands. grind (arith, occurs_equations))
    c.symbols_of_all.ensures.appended

pub symbols_of_all-loop-form-preserved : goal.symbols_of_all-loop-form-preserved
symbols_of_all-loop-form-preserved t c = (
  gains_more (λ symbol. occurs_in symbol) c.args.forms.now c.loop-form.form-index c.form-item.result c.args.symbols.now c.loop-form.symbols c.symbols_of.new.symbols c.loop-form-test.true c.form-item.is c.loop-form.invariant.0 c.in_ok-symbols_of.ensures.ok,
  appends_more (λ symbol. occurs_in symbol) c.args.forms.now c.loop-form.form-index c.form-item.result c.args.symbols.now c.loop-form.symbols c.symbols_of.new.symbols c.loop-form-test.true c.form-item.is c.loop-form.invariant.1 c.in_ok-symbols_of.ensures.appended,
)

pub symbols_of_all-returns-in_err-symbols_of-clause-appended : goal.symbols_of_all-returns-in_err-symbols_of-clause-appended
symbols_of_all-returns-in_err-symbols_of-clause-appended t c =
    appends_within (λ symbol. occurs_in symbol) c.args.forms.now c.loop-form.form-index c.form-item.result c.args.symbols.now c.loop-form.symbols c.symbols_of.new.symbols c.loop-form-test.true c.form-item.is c.loop-form.invariant.1 c.in_err-symbols_of.ensures.appended
