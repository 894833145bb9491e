use Rattle.std.proofs.Common.{◌⊎◌}
use Rattle.std.specs.Option.{option_copied}
use Rattle.tptp_base.specs.Count.{Rose}
use Rattle.read_problems.specs.Answer.{ending_of}
use Rattle.tptp_commands.specs.OtherFaults.{SaysDerivedFault, SaysLinesFault}
use Rattle.read_problems.specs.OtherFaults.{SaysProblemFault}
use Rattle.read_problems.specs.declared.sources.Source.{Source}
use Rattle.tptp_commands.proofs.Absences.{answered_so, derived_said, problem_refused_so}
use Rattle.tptp_run.proofs.Verifies.{nothing_logged, problem_refused, source_ends, source_logged, source_same, stopped_since}
use Rattle.tptp_run.proofs.verify.verify.Goals as goal

pub verify_file-requires-clause-same : goal.verify_file-requires-clause-same
verify_file-requires-clause-same g c = source_same (g.S.Store.files c.args.store.now) (option_copied c.args.root) c.args.problem.now c.in-Ok.source c.in-Ok.ensures.is

pub returns-in-Ok-clause-ends : goal.returns-in-Ok-clause-ends
returns-in-Ok-clause-ends g c =
    source_ends (option_copied c.args.root) c.args.limit c.args.problem.now c.args.derivation.now c.in-Ok.source (g.S.Store.files c.args.store.now) (g.S.Store.files c.read_source.new.store) c.verify_file.result (g.L.Sink.taken c.args.log.now) (g.L.Sink.taken c.verify_file.new.log) c.in-Ok.ensures.is c.in-Ok.ensures.same_files c.verify_file.ensures.ends

pub returns-in-Ok-clause-absence : goal.returns-in-Ok-clause-absence
returns-in-Ok-clause-absence g c =
    let told = g.S.Store.files c.args.store.now in
    let later = g.S.Store.files c.read_source.new.store in
    let root = option_copied c.args.root in
    let before = g.S.Store.absents c.args.store.now in
    let between = g.S.Store.absents c.read_source.new.store in
    let after = g.S.Store.absents c.verify_file.new.store in
    let source = c.in-Ok.source in
    answered_so c.verify_file.result (λ answer. Rose between after ⊎ SaysLinesFault later c.args.derivation.now source.names source.signature (ending_of answer))
    (λ answer. Rose before after ⊎ (SaysProblemFault told root c.args.problem.now (ending_of answer) ⊎ SaysDerivedFault told root c.args.problem.now c.args.derivation.now (ending_of answer)))
    (λ answer. derived_said told root c.args.problem.now c.args.derivation.now source c.in-Ok.ensures.is before between after c.in-Ok.ensures.more_absents later (ending_of answer) c.in-Ok.ensures.same_files) c.verify_file.ensures.absence

pub returns-in-Ok-clause-cause : goal.returns-in-Ok-clause-cause
returns-in-Ok-clause-cause g c =
    stopped_since c.verify_file.result _ _ (g.S.Store.faults c.args.store.now) (g.S.Store.faults c.read_source.new.store) _ c.in-Ok.ensures.more_faults c.verify_file.ensures.cause

pub returns-in-Ok-clause-log : goal.returns-in-Ok-clause-log
returns-in-Ok-clause-log g c =
    source_logged (option_copied c.args.root) c.args.limit c.args.problem.now c.args.derivation.now c.in-Ok.source (g.S.Store.files c.args.store.now) (g.L.Sink.taken c.args.log.now) (g.L.Sink.taken c.verify_file.new.log) c.in-Ok.ensures.is c.verify_file.ensures.log

pub returns-in-Err-clause-ends : goal.returns-in-Err-clause-ends
returns-in-Err-clause-ends g c =
    problem_refused (option_copied c.args.root) c.args.limit c.args.problem.now c.args.derivation.now Source c.in-Err.halt (g.S.Store.files c.args.store.now) (g.L.Sink.taken c.args.log.now) c.in-Err.ensures.refused

pub returns-in-Err-clause-absence : goal.returns-in-Err-clause-absence
returns-in-Err-clause-absence g c =
    let told = g.S.Store.files c.args.store.now in
    let root = option_copied c.args.root in
    problem_refused_so (Rose (g.S.Store.absents c.args.store.now) (g.S.Store.absents c.read_source.new.store)) told root c.args.problem.now c.args.derivation.now Source c.in-Err.halt c.in-Err.ensures.absence

pub returns-in-Err-clause-log : goal.returns-in-Err-clause-log
returns-in-Err-clause-log g c = nothing_logged (option_copied c.args.root) c.args.limit c.args.problem.now c.args.derivation.now (g.S.Store.files c.args.store.now) (g.L.Sink.taken c.args.log.now)
