use Rattle.std.proofs.Common.{None, Some}
use Rattle.tptp_commands.specs.Made.{files, problem_name}
use Rattle.tptp_run.proofs.Makes.{made_logs}
use Rattle.tptp_run.proofs.Verifies.{source_same}
use Rattle.tptp_run.proofs.make.make.Goals as goal

pub make_from-requires-clause-same : goal.make_from-requires-clause-same
make_from-requires-clause-same g c = source_same (Some (files c.args.count)) None problem_name c.in-Ok.source c.in-Ok.ensures.is

pub returns-in-Ok-clause-log : goal.returns-in-Ok-clause-log
returns-in-Ok-clause-log g c = made_logs c.args.count c.in-Ok.source _ _ c.in-Ok.ensures.is c.make_from.ensures.log
