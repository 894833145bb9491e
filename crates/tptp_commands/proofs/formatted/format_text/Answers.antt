use Rattle.tptp_commands.proofs.Formats.{printed_said}
use Rattle.tptp_commands.proofs.formatted.format_text.Goals as goal

pub returns-in-Ok-clause-said : goal.returns-in-Ok-clause-said
returns-in-Ok-clause-said c = printed_said c.args.file.now c.args.text.now c.in-Ok.printed c.in-Ok.ensures.printed
