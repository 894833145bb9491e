-- How many bytes stand behind the last line feed.
use Rattle.std.proofs.Common.{◌≡◌, ℕ, ◌+◌, ◌-◌, ◌<◌, ◌==◌, Bool, true, false, not, List, length, Some, None, get_or, refl, sym, ◌∙◌, ap, subst, arith}
use Rattle.std.specs.List.{suffix_len}
use Rattle.std.proofs.lemmas.List.Sums.{suffix_len_is}
use Rattle.memchr.specs.Find.{IsLastByte, is_byte}
use Rattle.tptp_base.specs.Place.{is_no_line_feed}

passes : (b : Bool) → (b ≡ true → ⊥) → not b ≡ true
passes true never = absurd (never refl)
passes false never = refl

pub behind_last : (text : List ℕ) (at : ℕ) → IsLastByte (is_byte 10) text (Some at) → suffix_len is_no_line_feed text ≡ length text - (at + 1)
behind_last text at last =
    let high : at < length text = last.0.high in
    suffix_len_is is_no_line_feed text (at + 1) 0 (omega (arith, high)) (λ k low within. passes (get_or text k 0 == 10) (last.0.after k low within)) (λ some. let same : at + 1 - 1 ≡ at = omega arith in subst (λ i. not (get_or text i 0 == 10) ≡ false) (sym same) (ap not last.1))

pub no_last : (text : List ℕ) → IsLastByte (is_byte 10) text None → suffix_len is_no_line_feed text ≡ length text
no_last text last =
    suffix_len_is is_no_line_feed text 0 0 (omega arith) (λ k low within. passes (get_or text k 0 == 10) (last k low within)) (λ some. absurd (omega (arith, some))) ∙ omega arith
