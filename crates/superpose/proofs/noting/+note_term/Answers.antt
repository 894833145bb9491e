use Rattle.std.proofs.Common.{◌≡◌, ◌+◌, take}
use Rattle.std.proofs.lemmas.Result.{on_ok_weaker}
use Rattle.fof_terms.specs.declared.term.Term.{Var as Variable}
use Rattle.superpose.specs.code.Noted.{StaysWith, AllStayWith}
use Rattle.superpose.proofs.NotedFacts.{noted_as, noted_then, var_stays, app_stays, term_more}
use Rattle.superpose.proofs.noting.+note_term.Goals as goal

pub note_term-returns-in-Var : goal.note_term-returns-in-Var
note_term-returns-in-Var t c =
    on_ok_weaker c.note.result
    (noted_as c.args.count c.args.noted.now c.note.new.noted (λ s. s c.in-Var.variable ≡ Variable c.in-Var.variable) (StaysWith c.args.term.now) (λ s. var_stays c.args.term.now c.in-Var.variable s c.in-Var.is)) c.note.ensures

pub note_term-returns-in-App : goal.note_term-returns-in-App
note_term-returns-in-App t c =
    on_ok_weaker c.note_terms.result
    (noted_as c.args.count c.args.noted.now c.note_terms.new.noted (AllStayWith c.as_slice.result.now) (StaysWith c.args.term.now)
    (λ s. app_stays c.args.term.now c.in-App.field-0 c.in-App.args c.as_slice.result.now s c.in-App.is c.as_slice.ensures)) c.note_terms.ensures

pub note_terms-loop-term-preserved : goal.note_terms-loop-term-preserved
note_terms-loop-term-preserved t c =
    noted_then c.args.count c.args.noted.now c.loop-term.noted c.note_term.new.noted (AllStayWith (take c.loop-term.term-index c.args.terms.now)) (StaysWith c.term-item.result) (AllStayWith (take (c.loop-term.term-index + 1) c.args.terms.now))
    (λ s. term_more c.args.terms.now c.loop-term.term-index c.term-item.result s c.loop-term-test.true c.term-item.is) c.loop-term.invariant c.in_ok-note_term.ensures
