use Rattle.std.proofs.Common.{◌≡◌, ℕ, ◌+◌, ◌-◌, ◌<◌, length, take, drop, count_by, Some, None, subst, ap, arith, length-drop, take_all}
use Rattle.std.proofs.lemmas.List.{drop-drop}
use Rattle.memchr.specs.Find.{IsFirstByte, is_byte}
use Rattle.tptp_base.specs.Place.{is_line_feed}
use Rattle.tptp_lexer.specs.Bytes.{Text}
use Rattle.tptp_lexer.proofs.Places.{count_behind, count_none}
use Rattle.tptp_lexer.proofs.advance.line_feeds.Goals as goal

-- what is left is all behind the place
whole : (text : Text) (behind : ℕ) → take (length text - behind) (drop behind text) ≡ drop behind text
whole text behind = take_all (length text - behind) (drop behind text) (omega (arith, length-drop behind text))

pub lines-preserved : goal.lines-preserved
lines-preserved c =
    let text = c.args.text.now in
    let rest = drop c.lines.behind text in
    let at = c.in-Some.at in
    let first : IsFirstByte (is_byte 10) rest (Some at) = subst (λ z. IsFirstByte (is_byte 10) z (Some at)) (whole text c.lines.behind) c.in-Some.ensures in
    let high : at < length rest = first.0.high in
    let one = count_behind rest at high (λ j less. first.0.before j (omega arith) less) first.1 in
    let moved = ap (count_by is_line_feed) (drop-drop (at + 1) c.lines.behind text) in
    let within = c.lines.invariant.0 in
    let before = c.lines.invariant.1 in
    (omega (arith, within, high, length-drop c.lines.behind text), omega (arith, before, one, moved))

pub returns-clause-value : goal.returns-clause-value
returns-clause-value c =
    let text = c.args.text.now in
    let rest = drop c.lines.behind text in
    let here : IsFirstByte (is_byte 10) rest c.memchr.result = subst (λ z. IsFirstByte (is_byte 10) z c.memchr.result) (whole text c.lines.behind) c.memchr.ensures in
    let nowhere : IsFirstByte (is_byte 10) rest None = subst (λ r. IsFirstByte (is_byte 10) rest r) c.in_default.is here in
    let none = count_none rest (λ k less. nowhere k (omega arith) less) in
    let before = c.lines.invariant.1 in
    omega (arith, before, none)
