use Rattle.std.proofs.Common.{ap, not, arith}
use Rattle.tptp_base.specs.Place.{is_no_line_feed}
use Rattle.tptp_lexer.proofs.Runs.{stops_at, goes_through, not_true}
use Rattle.tptp_lexer.proofs.bytes.line_len.Goals as goal

pub returns-in-Some-clause-value : goal.returns-in-Some-clause-value
returns-in-Some-clause-value c = stops_at is_no_line_feed c.args.text.now c.in-Some.end c.in-Some.ensures.0.high (λ j lt. not_true _ (c.in-Some.ensures.0.before j (omega arith) lt)) (ap not c.in-Some.ensures.1)

pub returns-in-None-clause-value : goal.returns-in-None-clause-value
returns-in-None-clause-value c = goes_through is_no_line_feed c.args.text.now (λ j lt. not_true _ (c.in-None.ensures j (omega arith) lt))
