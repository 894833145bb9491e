use Rattle.verifier.specs.Logged.{LogsStopped}
use Rattle.verifier.proofs.FaultCauses.{passed_cause}
use Rattle.verifier.proofs.Leading.{led_more}
use Rattle.derivation_check.specs.code.Logs.{StopsRun}
use Rattle.derivation_check.proofs.Runs.{given_ready, run_cut, runs, stops}
use Rattle.derivation_check.proofs.running.run_derivation.Goals as goal

pub run_lines-requires-clause-given : goal.run_lines-requires-clause-given
run_lines-requires-clause-given g c =
    given_ready c.args.theory.now c.begin.new.theory c.args.signature.now c.in_ok-begin.ensures.widens c.requires.extends c.requires.given

pub returns-in-Ok-clause-ran : goal.returns-in-Ok-clause-ran
returns-in-Ok-clause-ran g c =
    runs c.args.limit c.args.theory.now c.args.derivation.now c.args.signature.now c.begin.new.theory c.in-Ok.outcome.answers c.in-Ok.outcome.numbers c.run_lines.new.theory (g.K.Sink.taken c.args.log.now) (g.K.Sink.taken c.begin.new.log) (g.K.Sink.taken c.run_lines.new.log) c.in_ok-begin.ensures.widens c.in_ok-begin.ensures.declared c.in_ok-begin.ensures.logged c.in_ok-begin.ensures.in_range (rw c.as_slice-forms.ensures at c.in-Ok.ensures.ran)

pub returns-in-Err-clause-cut : goal.returns-in-Err-clause-cut
returns-in-Err-clause-cut g c =
    run_cut c.args.limit c.args.theory.now c.args.derivation.now c.args.signature.now c.begin.new.theory (g.K.Sink.taken c.args.log.now) (g.K.Sink.taken c.begin.new.log) (g.K.Sink.taken c.run_lines.new.log) c.in_ok-begin.ensures.widens c.in_ok-begin.ensures.declared c.in_ok-begin.ensures.logged c.in-Err.ensures.cut

pub returns-in-Ok-clause-leads : goal.returns-in-Ok-clause-leads
returns-in-Ok-clause-leads g c = led_more c.args.theory.now c.begin.new.theory c.run_lines.new.theory c.in_ok-begin.ensures.leads c.in-Ok.ensures.leads

pub returns-in-Err-clause-leads : goal.returns-in-Err-clause-leads
returns-in-Err-clause-leads g c = led_more c.args.theory.now c.begin.new.theory c.run_lines.new.theory c.in_ok-begin.ensures.leads c.in-Err.ensures.leads

pub returns-in-Err-clause-cause : goal.returns-in-Err-clause-cause
returns-in-Err-clause-cause g c =
    let t = c.args.theory.now in
    let u = c.begin.new.theory in
    let d = c.args.derivation.now in
    let end = c.run_lines.new.theory in
    let old = g.K.Sink.taken c.args.log.now in
    let mid = g.K.Sink.taken c.begin.new.log in
    let new = g.K.Sink.taken c.run_lines.new.log in
    passed_cause c.in-Err.fault (g.K.Sink.faults c.args.log.now) (g.K.Sink.faults c.begin.new.log) (g.K.Sink.faults c.run_lines.new.log)
    (λ place. LogsStopped u (record { given = u.formulas; nodes = d.graph.nodes; forms = d.forms; limit = c.args.limit }) d.graph.order place end mid new)
    (StopsRun c.args.limit t d c.args.signature.now old new) c.begin.ensures.more_faults
    (λ place run. stops c.args.limit t d c.args.signature.now place u end old mid new c.in_ok-begin.ensures.widens c.in_ok-begin.ensures.declared c.in_ok-begin.ensures.logged c.in_ok-begin.ensures.in_range run) (rw c.as_slice-forms.ensures at c.in-Err.ensures.cause)
