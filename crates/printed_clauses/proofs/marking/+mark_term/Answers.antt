use Rattle.std.proofs.Common.{refl, sym, ap, ◌∙◌}
use Rattle.fof_terms.specs.declared.term.Term.{App}
use Rattle.fof_terms.specs.Variables.{has_in_term}
use Rattle.printed_clauses.proofs.MarkingFacts.{marks_first, marks_more, marks_whole, marks_of_Var, marks_of_App}
use Rattle.printed_clauses.proofs.marking.+mark_term.Goals as goal

pub mark_term-returns-in-Var : goal.mark_term-returns-in-Var
mark_term-returns-in-Var t c = marks_of_Var c.in-Var.variable c.args.term.now c.args.marks.now c.mark.new.marks c.in-Var.is c.mark.ensures

pub mark_term-returns-in-App : goal.mark_term-returns-in-App
mark_term-returns-in-App t c =
    marks_of_App c.in-App.field-0 c.as_slice.result.now c.args.term.now c.args.marks.now c.mark_terms.new.marks (c.in-App.is ∙ ap (App c.in-App.field-0) (sym c.as_slice.ensures)) c.mark_terms.ensures

pub mark_terms-loop-term-init : goal.mark_terms-loop-term-init
mark_terms-loop-term-init t c = marks_first has_in_term c.args.terms.now c.args.marks.now c.args.marks.now refl

pub mark_terms-loop-term-preserved : goal.mark_terms-loop-term-preserved
mark_terms-loop-term-preserved t c =
    marks_more has_in_term c.args.terms.now c.loop-term.term-index c.term-item.result c.args.marks.now c.loop-term.marks c.mark_term.new.marks c.loop-term-test.true c.term-item.is c.loop-term.invariant c.mark_term.ensures

pub mark_terms-returns : goal.mark_terms-returns
mark_terms-returns t c = marks_whole has_in_term c.args.terms.now c.loop-term.term-index c.args.marks.now c.loop-term.marks c.loop-term-test.false c.loop-term.invariant
