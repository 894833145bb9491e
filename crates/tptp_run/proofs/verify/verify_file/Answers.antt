use Rattle.std.proofs.Common.{◌⊎◌, inl, ◌-◌, List, ℕ}
use Rattle.tptp_base.specs.Count.{Rose}
use Rattle.read_problems.specs.Answer.{ending_of}
use Rattle.tptp_commands.specs.Derived.{IsDerivationRefusal}
use Rattle.tptp_commands.specs.OtherFaults.{SaysLinesFault}
use Rattle.tptp_run.specs.Verifying.{SaysDerivation}
use Rattle.read_problems.specs.declared.refusals.TheConstants.{TOTAL_SIZE}
use Rattle.tptp_commands.proofs.Absences.{answered_so, refused_three, text_said}
use Rattle.tptp_run.proofs.Verifies.{file_refused, file_said}
use Rattle.tptp_run.proofs.verify.verify_file.Goals as goal

pub returns-in-Err-clause-ends : goal.returns-in-Err-clause-ends
returns-in-Err-clause-ends g c =
    file_refused (g.S.Store.files c.args.store.now) c.args.file.now (TOTAL_SIZE - c.args.source.now.read) (SaysDerivation c.args.problem.now c.args.file.now c.args.limit c.args.source.now.theory c.args.source.now.names c.args.source.now.marks c.args.source.now.has_conjecture) (List ℕ) c.in-Err.halt (g.L.Sink.taken c.args.log.now) c.in-Err.ensures.refused

pub returns-in-Ok-clause-ends : goal.returns-in-Ok-clause-ends
returns-in-Ok-clause-ends g c =
    file_said (g.S.Store.files c.args.store.now) c.args.file.now (TOTAL_SIZE - c.args.source.now.read) (SaysDerivation c.args.problem.now c.args.file.now c.args.limit c.args.source.now.theory c.args.source.now.names c.args.source.now.marks c.args.source.now.has_conjecture) c.in-Ok.text c.verify_text.result (g.L.Sink.taken c.args.log.now) (g.L.Sink.taken c.verify_text.new.log) c.in-Ok.ensures.whole c.in-Ok.ensures.in_budget c.in-Ok.ensures.in_limit (rw c.as_slice.ensures at c.verify_text.ensures.ends)

pub returns-in-Ok-clause-absence : goal.returns-in-Ok-clause-absence
returns-in-Ok-clause-absence g c =
    let told = g.S.Store.files c.args.store.now in
    let rose = Rose (g.S.Store.absents c.args.store.now) (g.S.Store.absents c.read_text.new.store) in
    let names = c.args.source.now.names in
    let v = c.args.source.now.signature in
    answered_so c.verify_text.result (λ answer. IsDerivationRefusal c.args.file.now c.in-Ok.text names v (ending_of answer)) (λ answer. rose ⊎ SaysLinesFault told c.args.file.now names v (ending_of answer))
    (λ answer refused. text_said rose told c.args.file.now c.in-Ok.text names v (ending_of answer) c.in-Ok.ensures.whole refused) (rw c.as_slice.ensures at c.verify_text.ensures.refused)

pub returns-in-Err-clause-absence : goal.returns-in-Err-clause-absence
returns-in-Err-clause-absence g c =
    let told = g.S.Store.files c.args.store.now in
    let rose = Rose (g.S.Store.absents c.args.store.now) (g.S.Store.absents c.read_text.new.store) in
    refused_three (List ℕ) c.in-Err.halt (λ answer. rose) (λ answer. rose ⊎ SaysLinesFault told c.args.file.now c.args.source.now.names c.args.source.now.signature (ending_of answer)) (λ answer. inl) c.in-Err.ensures.missing
