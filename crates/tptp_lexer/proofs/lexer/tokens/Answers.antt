use Rattle.std.proofs.Common.{Ok}
use Rattle.tptp_lexer.specs.Answer.{Answers, part}
use Rattle.tptp_lexer.proofs.Answering.{one, given, tokenized}
use Rattle.tptp_lexer.proofs.Stepping.{start, go, failed, placed_list, answered}
use Rattle.tptp_lexer.proofs.lexer.tokens.Goals as goal

pub loop-at-init : goal.loop-at-init
loop-at-init c = start c.args.file c.args.text.now c.args.region c.args.style c.requires.ordered

pub loop-at-preserved : goal.loop-at-preserved
loop-at-preserved c = go c.args.file c.args.text.now c.args.region c.args.style c.loop-at.at c.in_ok-at.at c.loop-at.invariant c.in_ok-at.ensures

pub returns-in_err-at-clause-answer : goal.returns-in_err-at-clause-answer
returns-in_err-at-clause-answer c = failed c.args.file c.args.text.now c.args.region c.args.style c.loop-at.at c.loop-at.invariant c.if-region-gt-FILE_SIZE.false c.from_residual.result c.in_err-at.field-0.0 c.from_residual.ensures.1 c.in_err-at.ensures

pub returns-in_err-at-clause-only : goal.returns-in_err-at-clause-only
returns-in_err-at-clause-only c = λ other h. one c.args.file c.args.text.now c.args.region c.args.style c.from_residual.result other (failed c.args.file c.args.text.now c.args.region c.args.style c.loop-at.at c.loop-at.invariant c.if-region-gt-FILE_SIZE.false c.from_residual.result c.in_err-at.field-0.0 c.from_residual.ensures.1 c.in_err-at.ensures) h

pub returns-in_err-at-clause-gives : goal.returns-in_err-at-clause-gives
returns-in_err-at-clause-gives c = λ tokens is fits. given c.args.file c.args.text.now c.args.region c.args.style tokens is c.from_residual.result (failed c.args.file c.args.text.now c.args.region c.args.style c.loop-at.at c.loop-at.invariant c.if-region-gt-FILE_SIZE.false c.from_residual.result c.in_err-at.field-0.0 c.from_residual.ensures.1 c.in_err-at.ensures) fits

pub new-requires-clause-placed : goal.new-requires-clause-placed
new-requires-clause-placed c =
    placed_list c.args.file c.args.text.now c.args.region c.args.style c.loop-at.at c.loop-at.invariant c.loop-at-test.false c.place_at-start.result c.place_at-start.ensures c.requires.ended

-- the tokens are the answer
ends : (c : goal.After-place_behind) → Answers c.args.file c.args.text.now c.args.region c.args.style (Ok (record { items = c.new.result; end = c.place_behind.result; style = c.args.style }))
ends c =
    answered c.args.file c.args.text.now c.args.region c.args.style c.loop-at.at c.loop-at.invariant c.loop-at-test.false c.place_at-start.result c.place_at-start.ensures c.if-region-gt-FILE_SIZE.false c.new.result c.new.ensures
    c.place_behind.result c.place_behind.ensures

pub returns-clause-answer : goal.returns-clause-answer
returns-clause-answer c = ends c

pub returns-clause-only : goal.returns-clause-only
returns-clause-only c = λ other h. one c.args.file c.args.text.now c.args.region c.args.style _ other (ends c) h

pub returns-clause-tokenized : goal.returns-clause-tokenized
returns-clause-tokenized c = tokenized c.args.file _ _ (part c.args.text.now c.args.region) c.args.text.now c.args.style c.new.result (ends c).2.1

pub returns-clause-gives : goal.returns-clause-gives
returns-clause-gives c = λ tokens is fits. given c.args.file c.args.text.now c.args.region c.args.style tokens is (Ok (record { items = c.new.result; end = c.place_behind.result; style = c.args.style })) (ends c) fits
