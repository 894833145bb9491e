use Rattle.tptp_run.proofs.Makes.{source_made}
use Rattle.tptp_run.proofs.make.made_source.Goals as goal

pub returns-in-Ok-clause-is : goal.returns-in-Ok-clause-is
returns-in-Ok-clause-is c = source_made c.args.count _ c.in_ok-files.files c.in-Ok.source c.in_ok-store.ensures.files c.in_ok-files.ensures c.in-Ok.ensures.is
