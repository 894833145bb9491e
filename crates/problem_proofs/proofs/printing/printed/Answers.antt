use Rattle.std.proofs.Common.{inr}
use Rattle.problem_proofs.proofs.Finding.{grown_is, large_premises, limit_passed, small_premises, within}
use Rattle.problem_proofs.proofs.printing.printed.Goals as goal

pub returns-then-not-small-clause-proved : goal.returns-then-not-small-clause-proved
returns-then-not-small-clause-proved c = λ limit f.
    inr (c.args.derivation.now, f, large_premises c.args.sig.now c.args.given.now limit c.args.derivation.now f c.as_slice-lines.result.now c.as_slice-lines.ensures c.in_ok-small.small c.in_ok-small.ensures c.if-not-small.true)

pub returns-in_err-items-clause-limit : goal.returns-in_err-items-clause-limit
returns-in_err-items-clause-limit c = λ limit room f.
    limit_passed c.args.sig.now c.args.given.now limit c.args.derivation.now f c.as_slice-lines.result.now c.as_slice-lines.ensures c.in_ok-signature.signature c.symbol_count.result (grown_is c.args.sig.now c.args.derivation.now c.in_ok-signature.signature c.as_slice.result.now c.as_slice.ensures c.in_ok-signature.ensures) c.symbol_count.ensures.value room c.from_residual-in_err-items.result c.in_err-items.field-0.0 c.from_residual-in_err-items.ensures.1 c.in_err-items.ensures.limit

pub returns-clause-proved : goal.returns-clause-proved
returns-clause-proved c = λ limit f.
    within c.args.sig.now c.args.given.now limit c.args.derivation.now f c.as_slice-lines.result.now c.as_slice-lines.ensures c.in_ok-signature.signature c.symbol_count.result (grown_is c.args.sig.now c.args.derivation.now c.in_ok-signature.signature c.as_slice.result.now c.as_slice.ensures c.in_ok-signature.ensures) c.symbol_count.ensures.value c.args.file.now c.in_ok-items.items
    (small_premises c.args.sig.now c.args.given.now limit c.args.derivation.now f c.as_slice-lines.result.now c.as_slice-lines.ensures c.in_ok-small.small c.in_ok-small.ensures c.if-not-small.false) c.in_ok-items.ensures.items
