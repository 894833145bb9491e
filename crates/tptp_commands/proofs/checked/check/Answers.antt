use Rattle.std.proofs.Common.{◌⊎◌, inl}
use Rattle.std.specs.Option.{option_copied}
use Rattle.tptp_base.specs.Count.{Rose}
use Rattle.read_problems.specs.Answer.{ending_of}
use Rattle.read_problems.specs.OtherFaults.{SaysProblemFault}
use Rattle.tptp_commands.proofs.Absences.{answered_so}
use Rattle.read_problems.proofs.Absences.{rose_since}
use Rattle.tptp_commands.proofs.Checks.{log_ends, stopped_since}
use Rattle.tptp_commands.proofs.checked.check.Goals as goal

pub returns-clause-ends : goal.returns-clause-ends
returns-clause-ends g c =
    log_ends (option_copied c.args.root) c.args.problem.now c.args.log.now (g.S.Store.files c.args.store.now) (g.S.Store.files c.read_given.new.store) c.in_ok-given.given.theory c.in_ok-given.given.read c.check_file-said.result c.in_ok-given.ensures.is c.read_given.ensures.same_files c.check_file-said.ensures.ends

pub returns-clause-absence : goal.returns-clause-absence
returns-clause-absence g c =
    let before = g.S.Store.absents c.args.store.now in
    let between = g.S.Store.absents c.read_given.new.store in
    let after = g.S.Store.absents c.check_file-said.new.store in
    let told = g.S.Store.files c.args.store.now in
    answered_so c.check_file-said.result (λ answer. Rose between after) (λ answer. Rose before after ⊎ SaysProblemFault told (option_copied c.args.root) c.args.problem.now (ending_of answer))
    (λ answer rose. inl (rose_since before between after c.read_given.ensures.more_absents rose)) c.check_file-said.ensures.absence

pub returns-clause-cause : goal.returns-clause-cause
returns-clause-cause g c =
    stopped_since c.check_file-said.result (g.S.Store.faults c.args.store.now) (g.S.Store.faults c.read_given.new.store) _ c.read_given.ensures.more_faults c.check_file-said.ensures.cause
