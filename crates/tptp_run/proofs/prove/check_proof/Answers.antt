use Rattle.std.proofs.Common.{None}
use Rattle.tptp_run.proofs.Printing.{only_memory, report_verified}
use Rattle.tptp_run.proofs.prove.check_proof.Goals as goal

pub want_of-requires : goal.want_of-requires
want_of-requires c = only_memory c.args.problem.now c.args.limit c.args.source.now c.args.text.now c.requires.proof c.requires.bytes c.in-Err.fault c.in-Err.ensures.none

pub returns-in-Ok : goal.returns-in-Ok
returns-in-Ok c =
    c.in-Ok.ensures.verified (report_verified c.args.problem.now c.args.limit c.args.source.now c.args.text.now c.requires.proof c.requires.bytes c.in-Ok.report None None c.in-Ok.ensures.report)
