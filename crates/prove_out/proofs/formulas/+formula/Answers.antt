use Rattle.std.proofs.Common.{◌≡◌, ◌<◌, length, arith, sym, ◌∙◌}
use Rattle.std.proofs.lemmas.Bool.Decides.{nat_tests}
use Rattle.tptp_base.specs.declared.surface.Quant.TheVariants as q
use Rattle.fof_terms.specs.declared.form.Form.{All, Ex}
use Rattle.prove_out.specs.code.Written.{WritesForm}
use Rattle.prove_out.proofs.EachFacts.{each_next}
use Rattle.prove_out.proofs.Connectives.{form_seen, negation_written, conjunction_written, disjunction_written, no_conjunct, no_disjunct, implication_written, equivalence_written}
use Rattle.prove_out.proofs.Binders.{first_binder, next_binder, last_binder}
use Rattle.prove_out.proofs.formulas.+formula.Goals as goal

pub written-returns-in_ok-right-in-Imp : goal.written-returns-in_ok-right-in-Imp
written-returns-in_ok-right-in-Imp t c =
    form_seen _ _ _ _ _ c.in-Imp.is (implication_written c.args.sig.now c.args.depth c.in-Imp.left c.in-Imp.right c.in_ok-left-in-Imp.left c.in_ok-right-in-Imp.right c.in_ok-left-in-Imp.ensures c.in_ok-right-in-Imp.ensures)

pub written-returns-in_ok-right-in-Iff : goal.written-returns-in_ok-right-in-Iff
written-returns-in_ok-right-in-Iff t c =
    form_seen _ _ _ _ _ c.in-Iff.is (equivalence_written c.args.sig.now c.args.depth c.in-Iff.left c.in-Iff.right c.in_ok-left-in-Iff.left c.in_ok-right-in-Iff.right c.in_ok-left-in-Iff.ensures c.in_ok-right-in-Iff.ensures)

pub negation-returns-in_ok-boxed-in_default : goal.negation-returns-in_ok-boxed-in_default
negation-returns-in_ok-boxed-in_default t c = negation_written c.args.sig.now c.args.depth c.args.body.now c.in_ok-boxed-in_default.field-0 c.in_ok-boxed-in_default.ensures

pub conjunction-returns-then-is_empty : goal.conjunction-returns-then-is_empty
conjunction-returns-then-is_empty t c =
    let none : length c.args.members.now ≡ 0 = grind (arith, nat_tests, c.is_empty.ensures, c.if-is_empty.true) in
    no_conjunct c.args.sig.now c.args.depth c.args.members.now none

pub conjunction-returns : goal.conjunction-returns
conjunction-returns t c =
    let some : 0 < length c.args.members.now = grind (arith, nat_tests, c.is_empty.ensures, c.if-is_empty.false) in
    conjunction_written c.args.sig.now c.args.depth c.args.members.now c.in_ok-all.field-0 some c.in_ok-all.ensures

pub disjunction-returns-then-is_empty : goal.disjunction-returns-then-is_empty
disjunction-returns-then-is_empty t c =
    let none : length c.args.members.now ≡ 0 = grind (arith, nat_tests, c.is_empty.ensures, c.if-is_empty.true) in
    no_disjunct c.args.sig.now c.args.depth c.args.members.now none

pub disjunction-returns : goal.disjunction-returns
disjunction-returns t c =
    let some : 0 < length c.args.members.now = grind (arith, nat_tests, c.is_empty.ensures, c.if-is_empty.false) in
    disjunction_written c.args.sig.now c.args.depth c.args.members.now c.in_ok-all.field-0 some c.in_ok-all.ensures

pub all-loop-form-preserved : goal.all-loop-form-preserved
all-loop-form-preserved t c =
    each_next (WritesForm c.args.sig.now c.args.depth) c.args.forms.now c.loop-form.form-index c.form-item.result c.loop-form.formulas c.push.new.self c.in_ok-written.field-0 c.loop-form-test.true c.form-item.is c.loop-form.invariant
    c.in_ok-written.ensures c.in_ok-push.ensures.ok

pub written-returns-in-All : goal.written-returns-in-All
written-returns-in-All t c =
    first_binder c.args.sig.now c.args.depth q.All (All c.in-All.sort c.in-All.body) c.args.form.now c.new.result c.universal.result c.new.ensures c.in-All.is c.universal.ensures

pub written-returns-in-Ex : goal.written-returns-in-Ex
written-returns-in-Ex t c =
    first_binder c.args.sig.now c.args.depth q.Ex (Ex c.in-Ex.sort c.in-Ex.body) c.args.form.now c.new-in-Ex.result c.existential.result c.new-in-Ex.ensures c.in-Ex.is c.existential.ensures

pub universal-returns-in-All : goal.universal-returns-in-All
universal-returns-in-All t c =
    next_binder c.args.sig.now c.args.depth c.in_ok-inside.inside q.All c.args.sort c.args.around c.push.new.self c.in_ok-bound_variable.field-0 c.in_ok-inside.ensures c.in_ok-push.ensures.ok c.in_ok-bound_variable.ensures
    (All c.in-All.sort c.in-All.body) c.args.body.now c.universal.result (sym c.get.ensures ∙ c.in-All.is) c.universal.ensures

pub universal-returns-in_ok-boxed-in_default : goal.universal-returns-in_ok-boxed-in_default
universal-returns-in_ok-boxed-in_default t c =
    last_binder c.args.sig.now c.args.depth c.in_ok-inside.inside q.All c.args.sort c.args.around c.push.new.self c.in_ok-bound_variable.field-0 c.in_ok-inside.ensures c.in_ok-push.ensures.ok c.in_ok-bound_variable.ensures
    c.variables-in_default.inside.items.items c.args.body.now c.in_ok-boxed-in_default.field-0 c.variables-in_default.view_is c.in_ok-boxed-in_default.ensures

pub existential-returns-in-Ex : goal.existential-returns-in-Ex
existential-returns-in-Ex t c =
    next_binder c.args.sig.now c.args.depth c.in_ok-inside.inside q.Ex c.args.sort c.args.around c.push.new.self c.in_ok-bound_variable.field-0 c.in_ok-inside.ensures c.in_ok-push.ensures.ok c.in_ok-bound_variable.ensures
    (Ex c.in-Ex.sort c.in-Ex.body) c.args.body.now c.existential.result (sym c.get.ensures ∙ c.in-Ex.is) c.existential.ensures

pub existential-returns-in_ok-boxed-in_default : goal.existential-returns-in_ok-boxed-in_default
existential-returns-in_ok-boxed-in_default t c =
    last_binder c.args.sig.now c.args.depth c.in_ok-inside.inside q.Ex c.args.sort c.args.around c.push.new.self c.in_ok-bound_variable.field-0 c.in_ok-inside.ensures c.in_ok-push.ensures.ok c.in_ok-bound_variable.ensures
    c.variables-in_default.inside.items.items c.args.body.now c.in_ok-boxed-in_default.field-0 c.variables-in_default.view_is c.in_ok-boxed-in_default.ensures
