use Rattle.std.proofs.Common.{◌⊎◌}
use Rattle.std.specs.Option.{option_copied}
use Rattle.tptp_base.specs.Count.{Rose}
use Rattle.read_problems.specs.Answer.{ending_of}
use Rattle.read_problems.specs.OtherFaults.{SaysProblemFault}
use Rattle.read_problems.specs.declared.posed.Posed.{Posed}
use Rattle.read_problems.specs.declared.stop.Answer.{Answer}
use Rattle.tptp_commands.proofs.Absences.{refused_so}
use Rattle.tptp_run.proofs.Printing.{is_posed}
use Rattle.tptp_run.proofs.Proves.{are_answers, are_no_three, no_store, posed_ends, prove_refused}
use Rattle.tptp_run.proofs.prove.prove.Goals as goal

pub prove_posed-requires : goal.prove_posed-requires
prove_posed-requires g c = record { named = c.requires; posed = is_posed (g.S.Store.files c.args.store.now) (option_copied c.args.root) c.args.problem.now c.in-Ok.posed c.in-Ok.ensures.is c.in-Ok.ensures.sorted c.in-Ok.ensures.few; budget = c.in-Ok.ensures.in_budget; few = c.in-Ok.ensures.few; sorted = c.in-Ok.ensures.sorted; declared = c.in-Ok.ensures.declared }

pub returns-in-Ok-clause-ends : goal.returns-in-Ok-clause-ends
returns-in-Ok-clause-ends g c =
    posed_ends (option_copied c.args.root) c.args.limit c.args.problem.now c.in-Ok.posed (g.S.Store.files c.args.store.now) c.in-Ok.ensures.is c.prove_posed.result c.prove_posed.ensures.said

pub returns-in-Ok-clause-status : goal.returns-in-Ok-clause-status
returns-in-Ok-clause-status g c = are_answers c.prove_posed.result c.prove_posed.ensures.status

pub returns-in-Ok-clause-absence : goal.returns-in-Ok-clause-absence
returns-in-Ok-clause-absence g c =
    are_no_three c.prove_posed.result
    (λ (answer : Answer). Rose (g.S.Store.absents c.args.store.now) (g.S.Store.absents c.read_posed.new.store) ⊎ SaysProblemFault (g.S.Store.files c.args.store.now) (option_copied c.args.root) c.args.problem.now (ending_of answer)) c.prove_posed.ensures.status

pub returns-in-Ok-clause-cause : goal.returns-in-Ok-clause-cause
returns-in-Ok-clause-cause g c = no_store c.prove_posed.result _ c.prove_posed.ensures.cause

pub returns-in-Err-clause-ends : goal.returns-in-Err-clause-ends
returns-in-Err-clause-ends g c = prove_refused (option_copied c.args.root) c.args.limit c.args.problem.now Posed c.in-Err.halt (g.S.Store.files c.args.store.now) c.in-Err.ensures.refused

pub returns-in-Err-clause-absence : goal.returns-in-Err-clause-absence
returns-in-Err-clause-absence g c =
    let said : Answer → Type 0 = λ answer. Rose (g.S.Store.absents c.args.store.now) (g.S.Store.absents c.read_posed.new.store) ⊎ SaysProblemFault (g.S.Store.files c.args.store.now) (option_copied c.args.root) c.args.problem.now (ending_of answer) in
    refused_so Posed c.in-Err.halt said said (λ answer h. h) c.in-Err.ensures.absence
