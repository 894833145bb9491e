use Rattle.std.proofs.Common.{refl}
use Rattle.szs_report.proofs.Regions.{whole}
use Rattle.szs_report.proofs.output.region.Goals as goal

pub returns-then-before-text-clause-value : goal.returns-then-before-text-clause-value
returns-then-before-text-clause-value c =
    whole c.args.text.now c.bytes_before-before.result _ c.if-before-text.true c.bytes_before-before.ensures.rest refl
