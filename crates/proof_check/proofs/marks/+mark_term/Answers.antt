use Rattle.std.proofs.Common.{◌==◌, ◌||◌, false, refl, sym, arith}
use Rattle.std.specs.List.{list_any}
use Rattle.fof_terms.specs.Occurs.{occurs_in_term}
use Rattle.fof_terms.proofs.OccursFacts.{occurs_equations}
use Rattle.proof_check.proofs.MarksFacts.{marks_none, marks_same, marks_two, marks_more, marks_whole}
use Rattle.proof_check.proofs.marks.+mark_term.Goals as goal

pub mark_term-returns-in-Var : goal.mark_term-returns-in-Var
mark_term-returns-in-Var t c =
    marks_same (λ k. false) (λ k. occurs_in_term k c.args.term.now) c.args.marks.now c.args.marks.now (λ k. grind (arith, occurs_equations)) (marks_none c.args.marks.now c.args.marks.now refl)

pub mark_term-returns-in-App : goal.mark_term-returns-in-App
mark_term-returns-in-App t c =
    marks_two (λ k. c.in-App.head == k) (λ k. list_any (occurs_in_term k) c.as_slice.result.now) (λ k. occurs_in_term k c.args.term.now) c.args.marks.now c.mark.new.marks c.mark_terms.new.marks
    (λ k. grind (arith, occurs_equations))
    c.mark.ensures c.mark_terms.ensures

pub mark_terms-loop-term-init : goal.mark_terms-loop-term-init
mark_terms-loop-term-init t c = marks_none c.args.marks.now c.args.marks.now refl

pub mark_terms-loop-term-preserved : goal.mark_terms-loop-term-preserved
mark_terms-loop-term-preserved t c =
    marks_more occurs_in_term c.args.terms.now c.loop-term.term-index c.term-item.result c.args.marks.now c.loop-term.marks c.mark_term.new.marks c.loop-term-test.true c.term-item.is c.loop-term.invariant c.mark_term.ensures

pub mark_terms-returns : goal.mark_terms-returns
mark_terms-returns t c = marks_whole occurs_in_term c.args.terms.now c.loop-term.term-index c.args.marks.now c.loop-term.marks c.loop-term-test.false c.loop-term.invariant
