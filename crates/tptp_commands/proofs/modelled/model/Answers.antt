use Rattle.std.proofs.Common.{◌⊎◌}
use Rattle.std.specs.Option.{option_copied}
use Rattle.tptp_base.specs.Count.{Rose}
use Rattle.read_problems.specs.Answer.{ending_of}
use Rattle.read_problems.specs.OtherFaults.{SaysProblemFault}
use Rattle.tptp_commands.specs.OtherFaults.{SaysModelFileFault, SaysModelledFault}
use Rattle.tptp_commands.proofs.Absences.{answered_so}
use Rattle.tptp_commands.proofs.Checks.{stopped_since}
use Rattle.tptp_commands.proofs.Models.{model_ends, modelled_said}
use Rattle.tptp_commands.proofs.modelled.model.Goals as goal

pub returns-clause-ends : goal.returns-clause-ends
returns-clause-ends g c =
    model_ends (option_copied c.args.root) c.args.problem.now c.args.file.now (g.S.Store.files c.args.store.now) (g.S.Store.files c.read_posed.new.store) c.in_ok-posed.posed c.model_file.result c.in_ok-posed.ensures.is c.read_posed.ensures.same_files c.model_file.ensures.ends

pub returns-clause-absence : goal.returns-clause-absence
returns-clause-absence g c =
    let before = g.S.Store.absents c.args.store.now in
    let between = g.S.Store.absents c.read_posed.new.store in
    let after = g.S.Store.absents c.model_file.new.store in
    let told = g.S.Store.files c.args.store.now in
    let later = g.S.Store.files c.read_posed.new.store in
    answered_so c.model_file.result (λ answer. Rose between after ⊎ SaysModelFileFault later c.args.file.now (ending_of answer)) (λ answer. Rose before after ⊎ (SaysProblemFault told (option_copied c.args.root) c.args.problem.now (ending_of answer) ⊎ SaysModelledFault told (option_copied c.args.root) c.args.problem.now c.args.file.now (ending_of answer)))
    (λ answer. modelled_said (option_copied c.args.root) c.args.problem.now c.args.file.now told later c.in_ok-posed.posed (ending_of answer) before between after c.read_posed.ensures.more_absents c.in_ok-posed.ensures.is c.read_posed.ensures.same_files) c.model_file.ensures.absence

pub returns-clause-cause : goal.returns-clause-cause
returns-clause-cause g c =
    stopped_since c.model_file.result (g.S.Store.faults c.args.store.now) (g.S.Store.faults c.read_posed.new.store) _ c.read_posed.ensures.more_faults c.model_file.ensures.cause
