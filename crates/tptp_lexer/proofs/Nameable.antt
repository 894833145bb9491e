-- The words among tokens are names that can be written between quotes.
use Rattle.std.proofs.Common.{◌≡◌, ℕ, true, List, [], ◌∷◌, arith}
use Rattle.std.specs.List.{AllByRecursion, list_all}
use Rattle.std.proofs.lemmas.Bool.{and_parts}
use Rattle.std.proofs.lemmas.Bool.Decides.{nat_tests}
use Rattle.std.proofs.lemmas.List.Elements.{All-from_recursion}
use Rattle.tptp_base.specs.Quotable.{is_printable, IsQuotable}
use Rattle.tptp_base.specs.declared.place.Place.{Place}
use Rattle.tptp_lexer.specs.declared.style.Style.{Style}
use Rattle.tptp_lexer.specs.declared.token.Token.{Token}
use Rattle.tptp_lexer.specs.declared.token.Token.TheVariants.{Lower, Quoted}
use Rattle.tptp_lexer.specs.Bytes.{Text, is_lower_alpha, is_alpha_numeric}
use Rattle.tptp_lexer.specs.Quotes.{IsWritten, nothing, plain, escaped, single_quote, is_escaped}
use Rattle.tptp_lexer.specs.Spelled.{Spelled, lower_word, upper_word, dollar_word, dollar_dollar_word, single_quoted, distinct_object, number, comment_line, comment_block, mark}
use Rattle.tptp_lexer.specs.Tokenized.{Cut, here, after_blank, after_token, placed}

-- The token is no word, or its text can be written between quotes.
abbrev pub IsNameable : Token → Type 0
IsNameable (Lower name) = IsQuotable name
IsNameable (Quoted name) = IsQuotable name
IsNameable _ = Unit {0}

-- those of tokens with their places
abbrev pub AreNameable : List (Token × Place) → Type 0
AreNameable tokens = AllByRecursion (λ (entry : Token × Place). IsNameable entry.0) tokens

lower_printable : (byte : ℕ) → is_lower_alpha byte ≡ true → is_printable byte ≡ true
lower_printable byte h = grind (arith, nat_tests)

alpha_printable : (byte : ℕ) → is_alpha_numeric byte ≡ true → is_printable byte ≡ true
alpha_printable byte h = grind (arith, nat_tests)

escaped_printable : (byte : ℕ) → is_escaped single_quote byte ≡ true → is_printable byte ≡ true
escaped_printable byte h = grind (arith, nat_tests)

word_printable : (word : Text) → list_all is_alpha_numeric word ≡ true → AllByRecursion (λ (byte : ℕ). is_printable byte ≡ true) word
word_printable [] h = tt
word_printable (byte ∷ word) h = (let parts = and_parts (is_alpha_numeric byte) (list_all is_alpha_numeric word) h in (alpha_printable byte parts.0, word_printable word parts.1))

written_printable : {chars written : Text} → IsWritten single_quote chars written → AllByRecursion (λ (byte : ℕ). is_printable byte ≡ true) chars
written_printable nothing = tt
written_printable (plain h more) = ((and_parts _ _ h).0, written_printable more)
written_printable (escaped {char = char} h more) = (escaped_printable char h, written_printable more)

quotable : (first : ℕ) (rest : Text) → is_printable first ≡ true → AllByRecursion (λ (byte : ℕ). is_printable byte ≡ true) rest → IsQuotable (first ∷ rest)
quotable first rest one all = record { some = omega arith; printable = All-from_recursion (λ byte. is_printable byte ≡ true) (first ∷ rest) (one, all) }

pub spelled_nameable : {style : Style} {token : Token} {spelling : Text} → Spelled style token spelling → IsNameable token
spelled_nameable (lower_word {first = first} {word = word} h all) = quotable first word (lower_printable first h) (word_printable word all)
spelled_nameable (upper_word h all) = tt
spelled_nameable (dollar_word all) = tt
spelled_nameable (dollar_dollar_word all) = tt
spelled_nameable (single_quoted {char = char} {chars = chars} w) = (let all = written_printable w in quotable char chars all.0 all.1)
spelled_nameable (distinct_object w) = tt
spelled_nameable (number h) = tt
spelled_nameable (comment_line h all) = tt
spelled_nameable (comment_block body clean) = tt
spelled_nameable (mark sign) = tt

-- the tokens of any part of a text
pub cut_nameable : (style : Style) (file : ℕ) (whole : Text) {at : ℕ} {text : Text} {items : List (Token × Place)} {end : ℕ} {rest : Text} → Cut style (placed file whole) at text items end rest → AreNameable items
cut_nameable style file whole here = tt
cut_nameable style file whole (after_blank h more) = cut_nameable style file whole more
cut_nameable style file whole (after_token spelling spelled longest more) = (spelled_nameable spelled, cut_nameable style file whole more)
