use Rattle.std.proofs.Common.{◌+◌, arith, drop, get_or, length, refl}
use Rattle.std.proofs.lemmas.List.{drop_all}
use Rattle.std.proofs.lemmas.Result.{err_from_is_err_and}
use Rattle.verifier.specs.code.Numbered.{derivation_in}
use Rattle.verifier.proofs.FaultCauses.{passed_cause}
use Rattle.verifier.proofs.Knowing.{over_numbered, over_knows}
use Rattle.verifier.proofs.Leading.{led_itself, led_more}
use Rattle.verifier.proofs.Running.{place_here, place_done, running_begins, running_turn, turn_within, running_more, running_cut, running_all, stopped_here}
use Rattle.verifier.proofs.run.run_in_order.Goals as goal

pub loop-place-init : goal.loop-place-init
loop-place-init g c = record {
  running = running_begins (derivation_in c.args.lines.now) c.args.theory.now c.args.order.now c.in_ok-numbers.numbers c.in_ok-answers.answers (length c.args.lines.now.nodes.now) _ c.in_ok-numbers.ensures refl c.in_ok-answers.ensures c.requires.turns;
  knows = over_knows c.args.theory.now c.args.lines.now c.in_ok-numbers.numbers (length c.args.lines.now.nodes.now) c.requires.over c.in_ok-numbers.ensures refl;
  leads = led_itself c.args.theory.now;
  faults = omega arith;
}

pub run_line-requires-clause-within : goal.run_line-requires-clause-within
run_line-requires-clause-within g c =
    let i = c.loop-place.place-index in
    turn_within c.args.lines.now.nodes.now _ _ (running_turn _ _ _ _ _ _ _ (drop (i + 1) c.args.order.now) (get_or c.args.order.now i 0) _ _ (place_here c.args.order.now i c.loop-place-test.true) c.loop-place.invariant.running)

pub run_line-requires-clause-numbered : goal.run_line-requires-clause-numbered
run_line-requires-clause-numbered g c = over_numbered c.args.theory.now c.args.lines.now c.requires.over

pub returns-in_err-answer-clause-cut : goal.returns-in_err-answer-clause-cut
returns-in_err-answer-clause-cut g c =
    let p = err_from_is_err_and c.from_residual-in_err-answer.result c.from_residual-in_err-answer.ensures.1 in
    rw p.1 (running_cut _ _ _ _ _ _ _ _ _ _ c.loop-place.invariant.running c.in_err-answer.ensures.cut)

pub returns-in_err-answer-clause-leads : goal.returns-in_err-answer-clause-leads
returns-in_err-answer-clause-leads g c = led_more _ _ _ c.loop-place.invariant.leads c.in_err-answer.ensures.leads

pub returns-in_err-answer-clause-cause : goal.returns-in_err-answer-clause-cause
returns-in_err-answer-clause-cause g c =
    let p = err_from_is_err_and c.from_residual-in_err-answer.result c.from_residual-in_err-answer.ensures.1 in
    let i = c.loop-place.place-index in
    rw (p.1, p.2)
    (passed_cause _ _ _ _ _ _ c.loop-place.invariant.faults
    (λ at. stopped_here (derivation_in c.args.lines.now) c.args.theory.now c.args.order.now c.loop-place.theory c.run_line.new.theory c.loop-place.numbers c.run_line.new.numbers c.loop-place.answers _ _ (drop (i + 1) c.args.order.now) (get_or c.args.order.now i 0) at _ _ _ (place_here c.args.order.now i c.loop-place-test.true) c.loop-place.invariant.running)
    c.in_err-answer.ensures.cause)

pub set-requires : goal.set-requires
set-requires g c =
    let i = c.loop-place.place-index in
    omega (arith, turn_within c.args.lines.now.nodes.now _ _ (running_turn _ _ _ _ _ _ _ (drop (i + 1) c.args.order.now) (get_or c.args.order.now i 0) _ _ (place_here c.args.order.now i c.loop-place-test.true) c.loop-place.invariant.running), c.loop-place.invariant.running.count)

pub loop-place-preserved : goal.loop-place-preserved
loop-place-preserved g c =
    let i = c.loop-place.place-index in
    record {
      running = running_more _ _ _ _ _ _ _ _ _ _ (drop (i + 1) c.args.order.now) (get_or c.args.order.now i 0) c.in_ok-answer.answer _ _ _ (place_here c.args.order.now i c.loop-place-test.true) (place_done c.args.order.now i c.loop-place-test.true) c.set.ensures c.loop-place.invariant.running c.in_ok-answer.ensures.answered;
      knows = c.in_ok-answer.ensures.knows;
      leads = led_more _ _ _ c.loop-place.invariant.leads c.in_ok-answer.ensures.leads;
      faults = omega arith;
    }

pub returns-clause-ran : goal.returns-clause-ran
returns-clause-ran g c =
    running_all (derivation_in c.args.lines.now) c.args.theory.now c.args.order.now c.loop-place.theory c.loop-place.numbers c.loop-place.answers _ _ _ _ (drop_all c.loop-place.place-index c.args.order.now c.loop-place-test.false) c.loop-place.invariant.running
