use Rattle.std.proofs.Common.{refl, arith}
use Rattle.szs_report.proofs.Regions.{no_claim, a_claim_next}
use Rattle.szs_report.proofs.output.claim.Goals as goal

pub returns-then-before-text-clause-value : goal.returns-then-before-text-clause-value
returns-then-before-text-clause-value c = no_claim c.args.text.now c.bytes_before-before.result c.if-before-text.true c.bytes_before-before.ensures.rest

pub returns-clause-value : goal.returns-clause-value
returns-clause-value c =
    let found = c.bytes_before-before.ensures in
    a_claim_next c.args.text.now c.bytes_before-before.result c.line_len.result c.letters.result c.behind_mark-word.result.now _ found.value found.rest (omega (arith, c.bytes_before-before.ensures.within, c.if-before-text.false)) c.line_len.ensures.cut c.behind_mark-word.ensures c.letters.ensures.value refl
