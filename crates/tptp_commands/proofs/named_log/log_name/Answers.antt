use Rattle.tptp_commands.proofs.named_log.log_name.Goals as goal

-- src/named_log.rt:10:1
pub returns-in-None-clause-asked : goal.returns-in-None-clause-asked
returns-in-None-clause-asked c request form = absurd (c.in-None.ensures.none request form)
