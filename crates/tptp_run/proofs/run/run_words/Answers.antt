use Rattle.std.proofs.Common.{ap, subst}
use Rattle.std.specs.Option.{option_copied}
use Rattle.tptp_commands.specs.Words.{Format, Parse, Check, Make, Prove, Model, Verify, HasNames, texts, request_of, task_of}
use Rattle.tptp_run.proofs.Absences.{asked_absence}
use Rattle.tptp_run.proofs.Verifies.{text_stopped, verify_asked, verify_logged}
use Rattle.tptp_run.proofs.Asked.{task_asked}
use Rattle.tptp_run.proofs.Makes.{make_asked, make_logged, zero_absence, zero_answer}
use Rattle.tptp_run.proofs.run.run_words.Goals as goal

pub returns-in-Parse-clause-absence : goal.returns-in-Parse-clause-absence
returns-in-Parse-clause-absence g c =
    asked_absence _ (g.S.Store.files c.args.store.now) (texts c.args.words.now) (request_of c.in-Some.command) (Parse c.in-Parse.file.now) c.parse.result c.in-Some.ensures.some (ap task_of c.in-Parse.is) c.parse.ensures.absence

pub returns-in-Check-clause-absence : goal.returns-in-Check-clause-absence
returns-in-Check-clause-absence g c =
    asked_absence _ (g.S.Store.files c.args.store.now) (texts c.args.words.now) (request_of c.in-Some.command) (Check c.in-Check.problem.now c.in-Check.log.now) c.check.result c.in-Some.ensures.some (ap task_of c.in-Check.is) c.check.ensures.absence

pub returns-in-Check-clause-ends : goal.returns-in-Check-clause-ends
returns-in-Check-clause-ends g c =
    task_asked (g.S.Store.files c.args.store.now) (texts c.args.words.now) (request_of c.in-Some.command) (Check c.in-Check.problem.now c.in-Check.log.now) (g.L.Sink.taken c.args.log.now) c.check.result c.in-Some.ensures.some (ap task_of c.in-Check.is) c.check.ensures.ends

pub returns-in-Verify-clause-ends : goal.returns-in-Verify-clause-ends
returns-in-Verify-clause-ends g c =
    verify_asked (texts c.args.words.now) (request_of c.in-Some.command) c.in-Verify.problem.now c.in-Verify.derivation.now (option_copied c.in-Verify.field-2) c.in-Some.ensures.some (ap task_of c.in-Verify.is) (g.S.Store.files c.args.store.now) c.verify.result (g.L.Sink.taken c.args.log.now) (g.L.Sink.taken c.verify.new.log) c.verify.ensures.ends

pub returns-in-Verify-clause-absence : goal.returns-in-Verify-clause-absence
returns-in-Verify-clause-absence g c =
    asked_absence _ (g.S.Store.files c.args.store.now) (texts c.args.words.now) (request_of c.in-Some.command) (Verify c.in-Verify.problem.now c.in-Verify.derivation.now (option_copied c.in-Verify.field-2)) c.verify.result c.in-Some.ensures.some (ap task_of c.in-Verify.is) c.verify.ensures.absence

pub returns-in-Format-clause-absence : goal.returns-in-Format-clause-absence
returns-in-Format-clause-absence g c =
    asked_absence _ (g.S.Store.files c.args.store.now) (texts c.args.words.now) (request_of c.in-Some.command) (Format c.in-Format.file.now) c.format.result c.in-Some.ensures.some (ap task_of c.in-Format.is) c.format.ensures.absence

pub returns-in-Verify-clause-log : goal.returns-in-Verify-clause-log
returns-in-Verify-clause-log g c =
    verify_logged (texts c.args.words.now) (request_of c.in-Some.command) c.in-Verify.problem.now c.in-Verify.derivation.now (option_copied c.in-Verify.field-2) c.in-Some.ensures.some (ap task_of c.in-Verify.is) (g.S.Store.files c.args.store.now) (g.L.Sink.taken c.args.log.now) (g.L.Sink.taken c.verify.new.log) c.verify.ensures.log

pub returns-in-Model-clause-ends : goal.returns-in-Model-clause-ends
returns-in-Model-clause-ends g c =
    task_asked (g.S.Store.files c.args.store.now) (texts c.args.words.now) (request_of c.in-Some.command) (Model c.in-Model.problem.now c.in-Model.file.now) (g.L.Sink.taken c.args.log.now) c.model.result c.in-Some.ensures.some (ap task_of c.in-Model.is) c.model.ensures.ends

pub returns-in-Model-clause-absence : goal.returns-in-Model-clause-absence
returns-in-Model-clause-absence g c =
    asked_absence _ (g.S.Store.files c.args.store.now) (texts c.args.words.now) (request_of c.in-Some.command) (Model c.in-Model.problem.now c.in-Model.file.now) c.model.result c.in-Some.ensures.some (ap task_of c.in-Model.is) c.model.ensures.absence

pub returns-in-Make-clause-ends : goal.returns-in-Make-clause-ends
returns-in-Make-clause-ends g c =
    make_asked (texts c.args.words.now) (request_of c.in-Some.command) c.in-Make.count c.in-Some.ensures.some (ap task_of c.in-Make.is) (g.S.Store.files c.args.store.now) c.make.result (g.L.Sink.taken c.args.log.now) (g.L.Sink.taken c.make.new.log) c.make.ensures.ends

pub returns-in-Make-clause-status : goal.returns-in-Make-clause-status
returns-in-Make-clause-status g c = zero_answer c.make.result c.make.ensures.status

pub returns-in-Make-clause-absence : goal.returns-in-Make-clause-absence
returns-in-Make-clause-absence g c = zero_absence c.make.result _ c.make.ensures.status

pub returns-in-Make-clause-cause : goal.returns-in-Make-clause-cause
returns-in-Make-clause-cause g c = text_stopped c.make.result _ _ c.make.ensures.cause

pub returns-in-Make-clause-log : goal.returns-in-Make-clause-log
returns-in-Make-clause-log g c =
    make_logged (texts c.args.words.now) (request_of c.in-Some.command) c.in-Make.count c.in-Some.ensures.some (ap task_of c.in-Make.is) (g.S.Store.files c.args.store.now) (g.L.Sink.taken c.args.log.now) (g.L.Sink.taken c.make.new.log) c.make.ensures.log

pub make-requires : goal.make-requires
make-requires g c = subst HasNames (ap task_of c.in-Make.is) c.in-Some.ensures.some.names

pub prove-requires : goal.prove-requires
prove-requires g c = subst HasNames (ap task_of c.in-Prove.is) c.in-Some.ensures.some.names

pub returns-in-Prove-clause-ends : goal.returns-in-Prove-clause-ends
returns-in-Prove-clause-ends g c =
    task_asked (g.S.Store.files c.args.store.now) (texts c.args.words.now) (request_of c.in-Some.command) (Prove c.in-Prove.problem.now) (g.L.Sink.taken c.args.log.now) c.prove.result c.in-Some.ensures.some (ap task_of c.in-Prove.is) c.prove.ensures.ends

pub returns-in-Prove-clause-absence : goal.returns-in-Prove-clause-absence
returns-in-Prove-clause-absence g c =
    asked_absence _ (g.S.Store.files c.args.store.now) (texts c.args.words.now) (request_of c.in-Some.command) (Prove c.in-Prove.problem.now) c.prove.result c.in-Some.ensures.some (ap task_of c.in-Prove.is) c.prove.ensures.absence
