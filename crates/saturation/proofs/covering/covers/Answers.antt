use Rattle.saturation.proofs.Covered.{screened}
use Rattle.saturation.proofs.covering.covers.Goals as goal

pub returns-then-not-is_within : goal.returns-then-not-is_within
returns-then-not-is_within c = (
  λ t. cc,
  λ h. absurd (screened c.args.signature.now c.args.member.now c.args.clause.now c.args.bits c.args.others c.is_within.result c.is_within.ensures c.if-not-is_within.true c.requires.bits c.requires.others h),
)
