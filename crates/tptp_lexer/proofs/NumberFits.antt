-- The number that is found lies within the text.
use Rattle.std.proofs.Common.{ℕ, ◌+◌, ◌≤◌, Bool, true, false, ◌==◌, [], ◌∷◌, length, drop, slice_index, if◌then◌else◌, arith, length-drop}
use Rattle.std.proofs.lemmas.List.Sums.{prefix_len-le-length}
use Rattle.tptp_lexer.specs.Bytes.{Text, is_numeric}
use Rattle.tptp_lexer.specs.Numbers.{is_sign, is_exponent}
use Rattle.tptp_lexer.specs.Scan.{digits_len, sign_len, behind, digits_behind, fraction_len, exponent_len, tail_len, number_len}

digits_fit : (text : Text) → digits_len text ≤ length text
digits_fit text = prefix_len-le-length is_numeric text

one_or_none : (test : Bool) (len : ℕ) → 1 ≤ len → (if test then 1 else 0) ≤ len
one_or_none true len h = h
one_or_none false len h = omega arith

sign_fits : (text : Text) → sign_len text ≤ length text
sign_fits [] = omega arith
sign_fits (byte ∷ text) = one_or_none (is_sign byte) (length (byte ∷ text)) (omega arith)

none_or : (test : Bool) (a b : ℕ) → a ≤ b → (if test then 0 else a) ≤ b
none_or true a b h = omega arith
none_or false a b h = h

or_none : (test : Bool) (a b : ℕ) → a ≤ b → (if test then a else 0) ≤ b
or_none true a b h = h
or_none false a b h = omega arith

either : (test : Bool) (a b c : ℕ) → a ≤ c → b ≤ c → (if test then a else b) ≤ c
either true a b c h k = h
either false a b c h k = k

behind_fits : (text : Text) → digits_behind text ≤ length text
behind_fits [] = omega arith
behind_fits (byte ∷ text) = none_or (digits_len text == 0) (1 + digits_len text) (length (byte ∷ text)) (let f = digits_fit text in omega arith)

fraction_fits : (text : Text) → fraction_len text ≤ length text
fraction_fits text = or_none (slice_index text 0 == 46) (digits_behind text) (length text) (behind_fits text)

-- a part and then one of what is left
both_fit : (f : Text → ℕ) → ((text : Text) → f text ≤ length text) → (text : Text) (n : ℕ) → n ≤ length text → n + f (drop n text) ≤ length text
both_fit f fits text n h = omega (arith, fits (drop n text), length-drop n text)

exponent_fits : (text : Text) → exponent_len text ≤ length text
exponent_fits [] = omega arith
exponent_fits (byte ∷ text) =
    let before = 1 + sign_len text in
    let within : before ≤ length (byte ∷ text) = omega (arith, sign_fits text) in
    or_none (is_exponent byte) (behind before (digits_len (drop before (byte ∷ text)))) (length (byte ∷ text))
    (none_or (digits_len (drop before (byte ∷ text)) == 0) (before + digits_len (drop before (byte ∷ text))) (length (byte ∷ text)) (both_fit digits_len digits_fit (byte ∷ text) before within))

tail_fits : (text : Text) → tail_len text ≤ length text
tail_fits text = either (slice_index text 0 == 47) (digits_behind text) (fraction_len text + exponent_len (drop (fraction_len text) text)) (length text) (behind_fits text) (both_fit exponent_len exponent_fits text (fraction_len text) (fraction_fits text))

pub number_fits : (text : Text) → number_len text ≤ length text
number_fits text =
    let sign = sign_len text in
    let digits = digits_len (drop sign text) in
    none_or (digits == 0) ((sign + digits) + tail_len (drop (sign + digits) text)) (length text) (both_fit tail_len tail_fits text (sign + digits) (both_fit digits_len digits_fit text sign (sign_fits text)))
