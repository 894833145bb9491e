use Rattle.std.proofs.Common.{length}
use Rattle.proof_check.proofs.Added.{value_reach}
use Rattle.proof_check.proofs.closing.choice_of.Goals as goal

pub instantiate-requires : goal.instantiate-requires
instantiate-requires c = rw (c.in_ok-arguments.ensures, c.as_slice-args.ensures) (value_reach c.args.number (length c.args.symbol.now.args) c.args.form.now c.requires.few c.requires.shallow)
