-- Words and variables are spelled by tokens.
use Rattle.std.proofs.Common.{◌≡◌, ◌<◌, arith, ℕ, nat_lt, Bool, true, false, ◌||◌, ◌&&◌, ◌==◌, not, [], ◌∷◌, length, refl}
use Rattle.std.specs.List.{list_all}
use Rattle.std.proofs.lemmas.Bool.{and_parts, and_from}
use Rattle.std.proofs.lemmas.Bool.Decides.{nat_tests}
use Rattle.first_fault.specs.Nesting.{Within}
use Rattle.tptp_base.specs.Quotable.{is_printable}
use Rattle.tptp_lexer.specs.Bytes.{is_upper_alpha, is_alpha_numeric}
use Rattle.tptp_lexer.specs.Quotes.{IsWritten, nothing, plain, escaped, single_quote, backslash, is_escaped}
use Rattle.tptp_lexer.specs.declared.token.Token.TheVariants.{Quoted, Upper}
use Rattle.tptp_grammar.specs.Tokens.{Tokens}
use Rattle.canon_print.proofs.Lexed.{Facts, Given, IsQuotable}
use Rattle.derivation_items.specs.Words.{Text}
use Rattle.spelled_items.specs.Writable.{is_variable, is_word}

-- what a rule accepts before these tokens, each token spelled and none over the limit
pub record Has (limit : ℕ) (R : Tokens → Tokens → Type 0) (rest : Tokens) : Type 0 where
  pub us : Tokens
  pub rule : R us rest
  pub given : Given limit us

-- ---- words

neither : (a b : Bool) → (a || b) ≡ false → (not a && not b) ≡ true
neither true b h = absurd (cc)
neither false true h = absurd (cc)
neither false false h = refl

written_char : (char : ℕ) {chars written : Text} (b : Bool) → is_escaped single_quote char ≡ b → is_printable char ≡ true → IsWritten single_quote chars written → IsQuotable single_quote (char ∷ chars)
written_char char {written = written} true is printed more = record { written = backslash ∷ char ∷ written; is_written = escaped is more }
written_char char {written = written} false is printed more =
    record { written = char ∷ written; is_written = plain (and_from (is_printable char) (not (char == single_quote) && not (char == backslash)) printed (neither (char == single_quote) (char == backslash) is)) more }

quotable : (text : Text) → list_all is_printable text ≡ true → IsQuotable single_quote text
quotable [] h = record { written = []; is_written = nothing }
quotable (char ∷ chars) h =
    let parts = and_parts (is_printable char) (list_all is_printable chars) h in
    written_char char (is_escaped single_quote char) refl parts.0 (quotable chars parts.1).is_written

some_length : (n : ℕ) → 0 < n → nat_lt 0 n ≡ true
some_length n some = grind (arith, nat_tests)

-- a text of some bytes, all of them printable
pub printable_word : (text : Text) → 0 < length text → list_all is_printable text ≡ true → is_word text ≡ true
printable_word text some all = and_from (nat_lt 0 (length text)) (list_all is_printable text) (some_length (length text) some) all

pub word_facts : (text : Text) → is_word text ≡ true → Facts (Quoted text)
word_facts [] h = absurd (let clash : false ≡ true = h in cc)
word_facts (char ∷ chars) h = (quotable (char ∷ chars) (and_parts (nat_lt 0 (length (char ∷ chars))) (list_all is_printable (char ∷ chars)) h).1, tt)

pub variable_facts : (text : Text) → is_variable text ≡ true → Facts (Upper text)
variable_facts [] h = absurd (let clash : false ≡ true = h in cc)
variable_facts (first ∷ rest) h = and_parts (is_upper_alpha first) (list_all is_alpha_numeric rest) h

-- none of such tokens is over the limit
pub given_within : (limit : ℕ) (us : Tokens) → Given limit us → Within limit us
given_within limit [] given = tt
given_within limit (u ∷ us) given = (given.1, given_within limit us given.2)
