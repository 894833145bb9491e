use Rattle.tptp_commands.specs.Words.{texts}
use Rattle.read_problems.specs.Answer.{ending_of}
use Rattle.tptp_run.proofs.Absences.{missing_rises, taken_absence}
use Rattle.tptp_run.proofs.Completes.{answered_complete}
use Rattle.tptp_run.proofs.GoodEnds.{answered_good}
use Rattle.tptp_run.proofs.Headline.{success_makes, success_refutes}
use Rattle.tptp_run.proofs.run.run_tptp.Goals as goal

pub returns-in-Ok-put_all-clause-sound : goal.returns-in-Ok-put_all-clause-sound
returns-in-Ok-put_all-clause-sound g c =
    success_refutes (g.S.Store.files c.args.store.now) (texts c.args.words.now) c.in-Ok.answer (g.L.Sink.taken c.args.log.now) (g.L.Sink.taken c.answer_words.new.log) c.in-Ok.ensures.ends

pub returns-in-Ok-put_all-clause-made : goal.returns-in-Ok-put_all-clause-made
returns-in-Ok-put_all-clause-made g c =
    success_makes (g.S.Store.files c.args.store.now) (texts c.args.words.now) c.in-Ok.answer (g.L.Sink.taken c.args.log.now) (g.L.Sink.taken c.answer_words.new.log) c.in-Ok.ensures.ends

pub returns-in-Ok-put_all-clause-good : goal.returns-in-Ok-put_all-clause-good
returns-in-Ok-put_all-clause-good g c =
    answered_good (g.S.Store.files c.args.store.now) (texts c.args.words.now) c.in-Ok.answer (g.L.Sink.taken c.args.log.now) (g.L.Sink.taken c.answer_words.new.log) c.in-Ok.ensures.ends

pub returns-in-Ok-put_all-clause-complete : goal.returns-in-Ok-put_all-clause-complete
returns-in-Ok-put_all-clause-complete g c =
    answered_complete (g.S.Store.files c.args.store.now) (texts c.args.words.now) c.in-Ok.answer (g.L.Sink.taken c.args.log.now) (g.L.Sink.taken c.answer_words.new.log) c.in-Ok.ensures.ends

pub returns-in-Ok-put_all-clause-absence : goal.returns-in-Ok-put_all-clause-absence
returns-in-Ok-put_all-clause-absence g c =
    λ three. taken_absence _ (g.S.Store.files c.args.store.now) (texts c.args.words.now) (ending_of c.in-Ok.answer) (g.O.Sink.taken c.args.out.now) (g.O.Sink.taken c.put_all.new.sink) (rw c.as_slice.ensures at c.in-Ok-put_all.ensures.ok) (c.in-Ok.ensures.absence three)

pub returns-in-Ok-put_all-clause-missing : goal.returns-in-Ok-put_all-clause-missing
returns-in-Ok-put_all-clause-missing g c =
    λ three. missing_rises _ (g.S.Store.files c.args.store.now) (texts c.args.words.now) (ending_of c.in-Ok.answer) (c.in-Ok.ensures.absence three)
