use Rattle.std.proofs.Common.{arith, []}
use Rattle.flat_form.proofs.Reach.{flat_room}
use Rattle.rule_steps.proofs.norm_rule.small_flat.Goals as goal

pub flat-requires : goal.flat-requires
flat-requires c = record { room = flat_room c.args.sig.now [] c.args.form.now (omega arith) c.requires.form.fits }
