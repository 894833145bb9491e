use Rattle.verifier.proofs.Leading.{led_one}
use Rattle.verifier.proofs.entries.add_entry.Goals as goal

pub returns-in_err-write_entry-in-Ok-clause-leads : goal.returns-in_err-write_entry-in-Ok-clause-leads
returns-in_err-write_entry-in-Ok-clause-leads g c = led_one _ _ c.args.entry.now c.in-Ok.ensures.ok.0 c.in-Ok.ensures.ok.1

pub returns-in_ok-write_entry-in-Ok-clause-leads : goal.returns-in_ok-write_entry-in-Ok-clause-leads
returns-in_ok-write_entry-in-Ok-clause-leads g c = led_one _ _ c.args.entry.now c.in-Ok.ensures.ok.0 c.in-Ok.ensures.ok.1
