use Rattle.tptp_run.proofs.Makes.{made_ends}
use Rattle.tptp_run.proofs.make.make_from.Goals as goal

pub returns-clause-ends : goal.returns-clause-ends
returns-clause-ends g c =
    made_ends c.args.count c.args.limit c.args.source.now c.in_ok-text.text.items c.in_ok-report.report c.in_ok-say_made.field-0 (g.L.Sink.taken c.args.log.now) (g.L.Sink.taken c.report_on.new.log) c.requires.is c.in_ok-text.ensures
    (rw c.deref.ensures.value at c.in_ok-report.ensures.report) (c.is_whole.ensures c.if-not-is_whole.false) c.in_ok-say_made.ensures
