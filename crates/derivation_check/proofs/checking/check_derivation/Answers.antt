use Rattle.derivation_check.specs.Cases.{asked_of}
use Rattle.derivation_check.proofs.Ends.{all_joined, all_logged, found}
use Rattle.derivation_check.proofs.checking.check_derivation.Goals as goal

pub close-requires-clause-found : goal.close-requires-clause-found
close-requires-clause-found g c =
    found (asked_of c.args.asked.now) c.args.theory.now c.args.derivation.now c.args.signature.now c.in_ok-outcome.outcome c.run_derivation.new.theory (g.K.Sink.taken c.args.log.now) (g.K.Sink.taken c.run_derivation.new.log) c.in_ok-outcome.ensures.ran c.requires.each_form c.requires.ordered.all

pub returns-clause-checks : goal.returns-clause-checks
returns-clause-checks g c =
    all_joined (asked_of c.args.asked.now) c.args.theory.now c.args.derivation.now c.args.signature.now c.in_ok-outcome.outcome c.run_derivation.new.theory (g.K.Sink.taken c.args.log.now) (g.K.Sink.taken c.run_derivation.new.log) c.in_ok-outcome.ensures.ran (g.K.Sink.taken c.close.new.log) c.close.result c.close.ensures.closed

pub returns-clause-log : goal.returns-clause-log
returns-clause-log g c =
    all_logged (asked_of c.args.asked.now) c.args.theory.now c.args.derivation.now c.args.signature.now c.in_ok-outcome.outcome c.run_derivation.new.theory (g.K.Sink.taken c.args.log.now) (g.K.Sink.taken c.run_derivation.new.log) c.in_ok-outcome.ensures.ran (g.K.Sink.taken c.close.new.log) c.close.result c.close.ensures.closed c.close.ensures.cut
