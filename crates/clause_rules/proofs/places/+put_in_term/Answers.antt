use Rattle.std.proofs.Common.{sym, ◌∙◌, arith}
use Rattle.clause_rules.proofs.PlaceCode.{put_var, put_app, put_more_here, put_more_other, put_done}
use Rattle.clause_rules.proofs.places.+put_in_term.Goals.{put_in_terms-then-from-place+then-at-place+in_ok-put_in_term+in_ok-push, put_in_terms-else-from-place+in_ok-copy+in_ok-push-2, put_in_terms-else-from-place-via-then-from-place+else-at-place, put_in_terms-else-from-place-via-else-from-place}
use Rattle.clause_rules.proofs.places.+put_in_term.Goals as goal

pub put_in_term-returns-in-Var : goal.put_in_term-returns-in-Var
put_in_term-returns-in-Var t c = sym (put_var c.args.place.now c.args.from c.args.new.now c.args.term.now c.in-Var.variable c.in-Var.is c.if-from-place.false)

pub put_in_term-returns-in_ok-put_in_terms-in-App : goal.put_in_term-returns-in_ok-put_in_terms-in-App
put_in_term-returns-in_ok-put_in_terms-in-App t c =
    put_app c.args.place.now c.args.from c.args.new.now c.args.term.now c.in-App.function c.in-App.args c.as_slice.result.now c.in_ok-put_in_terms-in-App.field-0 c.in-App.is c.as_slice.ensures c.if-from-place.false c.in_ok-put_in_terms-in-App.ensures

pub put_in_terms-loop-at-preserved : goal.put_in_terms-loop-at-preserved
put_in_terms-loop-at-preserved t c = elim c.if-from-place.branch [
  | put_in_terms-then-from-place+then-at-place+in_ok-put_in_term+in_ok-push w ↦
      put_more_here c.args.place.now c.args.from c.args.new.now c.args.terms.now c.loop-at.made c.if-from-place.made c.loop-at.at w.index-terms-at.result w.in_ok-put_in_term.field-0 c.loop-at-test.true w.index-terms-at.is w.if-from-place.true w.if-at-place.true c.loop-at.invariant
      w.in_ok-put_in_term.ensures (w.made-is ∙ w.in_ok-push.ensures.ok)
  | put_in_terms-else-from-place+in_ok-copy+in_ok-push-2 w ↦
      put_more_other c.args.place.now c.args.from c.args.new.now c.args.terms.now c.loop-at.made c.if-from-place.made c.loop-at.at w.index-terms-at-else-from-place.result w.in_ok-copy.field-0 c.loop-at-test.true w.index-terms-at-else-from-place.is
      (λ lt e. elim w.else-from-place.branch [
        | put_in_terms-else-from-place-via-then-from-place+else-at-place w' ↦ w'.if-at-place.false e
        | put_in_terms-else-from-place-via-else-from-place w' ↦ let past = w'.if-from-place.false in absurd (omega (arith, lt))
      ]) c.loop-at.invariant w.in_ok-copy.ensures (w.made-is ∙ w.in_ok-push-2.ensures.ok)
]

pub put_in_terms-returns : goal.put_in_terms-returns
put_in_terms-returns t c = put_done c.args.place.now c.args.from c.args.new.now c.args.terms.now c.loop-at.made c.loop-at.at (let le = c.loop-at-test.false in let up = c.loop-at.auto in omega arith) c.loop-at.invariant
