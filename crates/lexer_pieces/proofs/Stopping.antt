-- Where nothing begins at the front of a text, nothing does however the text goes on, but for a few beginnings.
use Rattle.std.specs.Prelude.{ℕ, ◌≡◌, ◌≤◌, true, false, [], ◌∷◌, ◌++◌, length, refl}
use Rattle.std.proofs.Common.{ap, sym, ◌∙◌, subst, arith, append_assoc, ◌⊎◌, inl, inr}
use Rattle.std.proofs.lemmas.List.{append-nil}
use Rattle.tptp_lexer.specs.declared.scan.Front.TheVariants.{Nothing}
use Rattle.tptp_lexer.specs.declared.style.Style.{Style}
use Rattle.tptp_lexer.specs.declared.token.Token.TheVariants as t
use Rattle.tptp_lexer.specs.Answer.{IsOpen, BeginsNothing, BeginsBlank}
use Rattle.tptp_lexer.specs.Bytes.{Text}
use Rattle.tptp_lexer.specs.Comments.{HasNoEnd, IsOpenComment}
use Rattle.tptp_lexer.specs.Quotes.{IsOpenQuote}
use Rattle.tptp_lexer.specs.Scan.{front_of}
use Rattle.tptp_lexer.specs.Spelled.{BeginsToken, number}
use Rattle.tptp_lexer.proofs.Sound.{nothing_begins}
use Rattle.lexer_pieces.specs.code.Settling.{may_grow}
use Rattle.lexer_pieces.proofs.Parting.{parted, empty_parts, without_last}
use Rattle.lexer_pieces.proofs.Unfinished.{Unfinished, is_token, is_open, is_begun, has_tail, unfinished, half_written, open_by}

-- ---- what is open was open before, or begins so

quote_was_open : (quote : ℕ) (text more : Text) → IsOpenQuote quote (text ++ more) → 1 ≤ length text → IsOpenQuote quote text
quote_was_open quote [] more o some = absurd (omega arith)
quote_was_open quote (x ∷ xs) more o some = elim o.is_text [ inl e ↦ whole e | inr e ↦ half more e ]
  where
    whole : (x ∷ xs) ++ more ≡ quote ∷ o.written → IsOpenQuote quote (x ∷ xs)
    whole e =
        let first : quote ≡ x = cc in
        let tails : o.written ≡ xs ++ more = cc in
        subst (λ c. IsOpenQuote quote (c ∷ xs)) first (open_by quote xs (half_written quote o.is_written xs more tails))

    half : (more : Text) → (x ∷ xs) ++ more ≡ quote ∷ (o.written ++ 92 ∷ []) → IsOpenQuote quote (x ∷ xs)
    half [] e = record { chars = o.chars; written = o.written; is_written = o.is_written; is_text = inr (sym (append-nil (x ∷ xs)) ∙ e) }
    half (y ∷ ys) e =
        let first : quote ≡ x = cc in
        let tails : xs ++ (y ∷ ys) ≡ o.written ++ 92 ∷ [] = cc in
        let (fewer, all) = without_last xs (y ∷ ys) o.written 92 tails (omega arith) in
        subst (λ c. IsOpenQuote quote (c ∷ xs)) first (open_by quote xs (half_written quote o.is_written xs fewer (sym all)))

comment_was_open : (text more : Text) → IsOpenComment (text ++ more) → 1 ≤ length text → IsOpenComment text ⊎ (may_grow text ≡ true)
comment_was_open [] more o some = absurd (omega arith)
comment_was_open (x ∷ []) more o some =
    let e = o.is_text in
    let is : x ≡ 47 = cc in
    inr (subst (λ c. may_grow (c ∷ []) ≡ true) (sym is) refl)
comment_was_open (x ∷ y ∷ ys) more o some =
    let e = o.is_text in
    let text : x ∷ y ∷ ys ≡ 47 ∷ 42 ∷ ys = cc in
    let tails : o.body ≡ ys ++ more = cc in
    inl (record { body = ys; has_no_end = clean tails; is_text = text })
  where
    clean : o.body ≡ ys ++ more → HasNoEnd ys
    clean tails before after is = o.has_no_end before (after ++ more) (tails ∙ ap (λ z. z ++ more) is ∙ append_assoc before (42 ∷ 47 ∷ after) more)

was_open : (text more : Text) → IsOpen (text ++ more) → 1 ≤ length text → IsOpen text ⊎ (may_grow text ≡ true)
was_open text more (inl o) some = inl (inl (quote_was_open 39 text more o some))
was_open text more (inr (inl o)) some = inl (inr (inl (quote_was_open 34 text more o some)))
was_open text more (inr (inr o)) some = elim (comment_was_open text more o some) [ inl p ↦ inl (inr (inr p)) | inr g ↦ inr g ]

-- ---- nothing begins

module _ (style : Style) (text : Text) (some : 1 ≤ length text) (none : front_of style text ≡ Nothing) (grown : may_grow text ≡ false) where
  nothing_here : BeginsNothing style text
  nothing_here = by text none some
    where
      by : (text : Text) → front_of style text ≡ Nothing → 1 ≤ length text → BeginsNothing style text
      by [] none some = absurd (omega arith)
      by (byte ∷ text) none some = nothing_begins style byte text none

  not_begun : may_grow text ≡ true → ⊥
  not_begun grows = cc

  none_unfinished : Unfinished style text → ⊥
  none_unfinished (is_token token spelled) = nothing_here.no_token (token, text, [], spelled, sym (append-nil text))
  none_unfinished (is_open o) = nothing_here.no_open o
  none_unfinished (is_begun grows) = not_begun grows
  none_unfinished (has_tail digits tail n begins same) = nothing_here.no_token (t.Number digits, digits, tail, number n, same)

  module _ (more : Text) where
    no_token : BeginsToken style (text ++ more) → ⊥
    no_token (token, spelling, rest, spelled, same) = elim (parted text more spelling rest same) [
      | inl (later, front, behind) ↦ none_unfinished (unfinished style spelled text later front some)
      | inr (left, front, one, behind) ↦ nothing_here.no_token (token, spelling, left, spelled, front)
    ]

    no_blank : BeginsBlank (text ++ more) → ⊥
    no_blank (byte, rest, h, same) = by text same nothing_here
      where
        by : (text : Text) → text ++ more ≡ byte ∷ rest → BeginsNothing style text → ⊥
        by [] same begins = begins.goes_on refl
        by (x ∷ xs) same begins = begins.no_blank (byte, xs, h, let first : x ≡ byte = cc in ap (λ c. c ∷ xs) first)

    pub nothing_anyway : BeginsNothing style (text ++ more)
    nothing_anyway = record {
      goes_on = λ e. nothing_here.goes_on (empty_parts text more e).0;
      no_blank = no_blank;
      no_token = no_token;
      no_open = λ o. elim (was_open text more o some) [ inl p ↦ nothing_here.no_open p | inr g ↦ not_begun g ];
    }
