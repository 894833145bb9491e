use Rattle.std.proofs.Common.{◌∙◌}
use Rattle.norm_proofs.proofs.Turned.{denied_small}
use Rattle.norm_proofs.proofs.norms.whole_step.Goals as goal

pub denies-requires-clause-first : goal.denies-requires-clause-first
denies-requires-clause-first c = denied_small c.args.form.now c.get.result.now (c.get.ensures ∙ c.in_ok-denied.ensures ∙ c.in_ok-norm_signed.ensures) c.requires.size
