use Rattle.std.proofs.Common.{◌⊎◌, ℕ, List, Option}
use Rattle.std.specs.Option.{option_copied}
use Rattle.tptp_base.specs.Count.{Rose}
use Rattle.read_problems.specs.Answer.{ending_of}
use Rattle.read_problems.specs.declared.denotations.Denotation.{Denotation}
use Rattle.read_problems.specs.Denoted.{IsProblemRefusal}
use Rattle.read_problems.specs.OtherFaults.{SaysProblemFault}
use Rattle.read_problems.proofs.Answered.{refused_on}
use Rattle.read_problems.proofs.denotations.read_denotation.Goals as goal

pub returns-in-Err-clause-refused : goal.returns-in-Err-clause-refused
returns-in-Err-clause-refused g c =
    let told = g.S.Store.files c.args.store.now in
    let root = option_copied c.args.root in
    let file = c.args.file.now in
    refused_on (Option Denotation) Denotation c.in-Err.halt (λ answer. (r : Option (List ℕ)) → IsProblemRefusal told r file (ending_of answer)) (λ answer. IsProblemRefusal told root file (ending_of answer))
    (λ answer so. so root)
    c.in-Err.ensures.refused

pub returns-in-Err-clause-absence : goal.returns-in-Err-clause-absence
returns-in-Err-clause-absence g c =
    let told = g.S.Store.files c.args.store.now in
    let rose = Rose (g.S.Store.absents c.args.store.now) (g.S.Store.absents c.read_in_turn.new.store) in
    let root = option_copied c.args.root in
    let file = c.args.file.now in
    refused_on (Option Denotation) Denotation c.in-Err.halt (λ answer. (r : Option (List ℕ)) → rose ⊎ SaysProblemFault told r file (ending_of answer)) (λ answer. rose ⊎ SaysProblemFault told root file (ending_of answer))
    (λ answer so. so root)
    c.in-Err.ensures.absence
