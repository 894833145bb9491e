-- Texts that are cut into tokens with their nesting, up to a rest.
use Rattle.std.proofs.Common.{◌≡◌, ℕ, ◌≤◌, Bool, true, false, ◌||◌, ◌==◌, [], ◌∷◌, ◌++◌, length, Some, refl, sym, subst, ◌∙◌, arith, append_assoc}
use Rattle.std.proofs.lemmas.Bool.{and_parts, and_from, not-true, cond-true, cond-false}
use Rattle.std.specs.List.{list_all, flat_map}
use Rattle.tptp_lexer.specs.declared.style.Style.{Style}
use Rattle.tptp_lexer.specs.declared.token.Token.{Token}
use Rattle.tptp_lexer.specs.declared.token.Token.TheVariants.{Lower, Quoted, Upper, Dollar, System, Number, Distinct, Comment, Mark as Sign}
use Rattle.tptp_lexer.specs.declared.token.Mark.{Mark}
use Rattle.tptp_lexer.specs.Bytes.{Text, is_blank, is_upper_alpha, is_alpha_numeric}
use Rattle.tptp_lexer.specs.Marks.{mark_text}
use Rattle.tptp_lexer.specs.Numbers.{IsNumber}
use Rattle.tptp_lexer.specs.Quotes.{IsWritten, nothing, plain, escaped as with_backslash, single_quote, double_quote, backslash, is_plain, is_escaped}
use Rattle.tptp_lexer.specs.Spelled.{Spelled, lower_word, upper_word, dollar_word, dollar_dollar_word, single_quoted, distinct_object, number, comment_line, comment_block, mark, IsLongest}
use Rattle.tptp_lexer.proofs.MarkFronts.{mark_of}
use Rattle.tptp_lexer.specs.Dots.{is_comment}
use Rattle.tptp_grammar.specs.Tokens.{Tokens, word}
use Rattle.canon_print.specs.Words.{escaped, quoted, is_lower_word, word_text}
use Rattle.canon_print.proofs.Longest.{Ends, longest_lower, longest_upper, longest_dollar, longest_single, longest_double, longest_mark, longest_number}

-- blanks and longest tokens of texts of any style, none of them a comment or over the limit, lead to the rest
pub data LexedTo (limit : ℕ) (after : Text) (rest : Tokens) : Text → Tokens → Type 0 where
  done : LexedTo limit after rest after rest
  blank : {byte : ℕ} {text : Text} {us : Tokens} → is_blank byte ≡ true → LexedTo limit after rest text us → LexedTo limit after rest (byte ∷ text) us
  token : (spelling : Text) {text : Text} {t : Token} {n : ℕ} {us : Tokens} → is_comment t ≡ false → ((style : Style) → Spelled style t spelling) → ((style : Style) → IsLongest style (length spelling) (spelling ++ text)) → n ≤ limit
      → LexedTo limit after rest text us → LexedTo limit after rest (spelling ++ text) ((t, n) ∷ us)

pub chain : {limit : ℕ} {mid after : Text} {more rest : Tokens} {text : Text} {us : Tokens} → LexedTo limit mid more text us → LexedTo limit after rest mid more → LexedTo limit after rest text us
chain done second = second
chain (blank h first) second = blank h (chain first second)
chain (token spelling solid spelled longest fits first) second = token spelling solid spelled longest fits (chain first second)

-- two parts of a text
pub join : {limit : ℕ} {after : Text} {more rest us : Tokens} (a b : Text) → LexedTo limit (b ++ after) more (a ++ (b ++ after)) us → LexedTo limit after rest (b ++ after) more → LexedTo limit after rest ((a ++ b) ++ after) us
join {limit = limit} {after = after} {rest = rest} {us = us} a b first second = subst (λ (z : Text). LexedTo limit after rest z us) (sym (append_assoc a b after)) (chain first second)

-- a mark, which is found at its place
pub sign : {limit : ℕ} {after : Text} {rest : Tokens} (s : Mark) {text : Text} {n : ℕ} {us : Tokens} → mark_of (mark_text s ++ text) ≡ Some (s, length (mark_text s)) → n ≤ limit → LexedTo limit after rest text us
    → LexedTo limit after rest (mark_text s ++ text) ((Sign s, n) ∷ us)
sign s {text = text} is fits more = token (mark_text s) refl (λ style. mark s) (λ style. longest_mark style s text is) fits more

-- ---- what the spelling of a token says of its text

abbrev pub IsUpperWord : Text → Type 0
IsUpperWord [] = ⊥
IsUpperWord (first ∷ word) = (is_upper_alpha first ≡ true) × (list_all is_alpha_numeric word ≡ true)

pub record IsQuotable (quote : ℕ) (chars : Text) : Type 0 where
  pub written : Text
  pub is_written : IsWritten quote chars written

abbrev pub IsSome : Text → Type 0
IsSome [] = ⊥
IsSome (first ∷ rest) = Unit {0}

abbrev pub Facts : Token → Type 0
Facts (Lower text) = is_lower_word text ≡ true
Facts (Quoted text) = IsQuotable single_quote text × IsSome text
Facts (Upper text) = IsUpperWord text
Facts (Number text) = IsNumber text
Facts (Distinct text) = IsQuotable double_quote text
Facts _ = Unit {0}

pub facts_of : {style : Style} {t : Token} {spelling : Text} → Spelled style t spelling → Facts t
facts_of (lower_word h all) = and_from _ _ h all
facts_of (upper_word h all) = (h, all)
facts_of (dollar_word all) = tt
facts_of (dollar_dollar_word all) = tt
facts_of (single_quoted {written = written} w) = (record { written = written; is_written = w }, tt)
facts_of (distinct_object {written = written} w) = record { written = written; is_written = w }
facts_of (number h) = h
facts_of (comment_line h all) = tt
facts_of (comment_block body clean) = tt
facts_of (mark s) = tt

-- these tokens are spelled, and none of them is over the limit
abbrev pub Given : ℕ → Tokens → Type 0
Given limit [] = Unit {0}
Given limit (a ∷ ts) = Facts a.0 × (a.1 ≤ limit) × Given limit ts

-- ---- words

plain_escaped : (quote char : ℕ) → is_plain quote char ≡ true → escaped quote char ≡ char ∷ []
plain_escaped quote char h =
    let others = and_parts _ _ (and_parts _ _ h).1 in
    cond-false (is_escaped quote char) (backslash ∷ char ∷ []) (char ∷ []) (both (char == quote) (char == backslash) (not-true _ others.0) (not-true _ others.1))
  where
    both : (a b : Bool) → a ≡ false → b ≡ false → a || b ≡ false
    both a b h k = rw (h, k) refl

pub rewritten : (quote : ℕ) {chars written : Text} → IsWritten quote chars written → IsWritten quote chars (flat_map (escaped quote) chars)
rewritten quote nothing = nothing
rewritten quote (plain {char = char} {chars = chars} h more) =
    subst (λ (z : Text). IsWritten quote (char ∷ chars) (z ++ flat_map (escaped quote) chars)) (sym (plain_escaped quote char h)) (plain h (rewritten quote more))
rewritten quote (with_backslash {char = char} {chars = chars} h more) =
    subst (λ (z : Text). IsWritten quote (char ∷ chars) (z ++ flat_map (escaped quote) chars)) (sym (cond-true (is_escaped quote char) (backslash ∷ char ∷ []) (char ∷ []) h)) (with_backslash h (rewritten quote more))

some_written : (quote : ℕ) (chars written : Text) → IsSome chars → IsWritten quote chars written → 1 ≤ length written
some_written quote [] written some w = absurd some
some_written quote (char ∷ chars) written some w = written_some w
  where
    written_some : {quote char : ℕ} {chars written : Text} → IsWritten quote (char ∷ chars) written → 1 ≤ length written
    written_some (plain h more) = omega arith
    written_some (with_backslash h more) = omega arith

-- the text can stand as a word
pub record IsWordText (text : Text) : Type 0 where
  pub quotable : is_lower_word text ≡ false → IsQuotable single_quote text × IsSome text

pub word_facts : (w : Token) (text : Text) → word w ≡ Some text → Facts w → IsWordText text
word_facts (Lower name) text is facts = (let same : name ≡ text = cc in record { quotable = λ no. absurd (let clash : true ≡ false = sym (subst (λ z. is_lower_word z ≡ true) same facts) ∙ no in cc) })
word_facts (Quoted name) text is facts = (let same : name ≡ text = cc in record { quotable = λ no. subst (λ (z : Text). IsQuotable single_quote z × IsSome z) same facts })
word_facts (Upper name) text is facts = absurd (cc)
word_facts (Dollar name) text is facts = absurd (cc)
word_facts (System name) text is facts = absurd (cc)
word_facts (Number name) text is facts = absurd (cc)
word_facts (Distinct name) text is facts = absurd (cc)
word_facts (Comment name) text is facts = absurd (cc)
word_facts (Sign s) text is facts = absurd (cc)

-- the token that is printed for a word
pub record WordPrinted (limit n : ℕ) (text after : Text) (us : Tokens) : Type 0 where
  pub w : Token
  pub is_word : word w ≡ Some text
  pub lexed : LexedTo limit after us (word_text text ++ after) ((w, n) ∷ us)

quoted_printed : (limit n : ℕ) (text after : Text) (us : Tokens) → IsQuotable single_quote text → IsSome text → n ≤ limit
    → LexedTo limit after us (quoted single_quote text ++ after) ((Quoted text, n) ∷ us)
quoted_printed limit n [] after us quotable some fits = absurd some
quoted_printed limit n (char ∷ chars) after us quotable some fits =
    let text = char ∷ chars in
    let w = rewritten single_quote quotable.is_written in
    token (quoted single_quote text) refl (λ style. single_quoted w) (λ style. longest_single style text (flat_map (escaped single_quote) text) after w (some_written single_quote text _ tt w)) fits done

lower_printed : (limit n : ℕ) (text after : Text) (us : Tokens) → is_lower_word text ≡ true → Ends after → n ≤ limit → LexedTo limit after us (text ++ after) ((Lower text, n) ∷ us)
lower_printed limit n [] after us h ends fits = absurd (let clash : false ≡ true = h in cc)
lower_printed limit n (first ∷ word) after us h ends fits =
    let both = and_parts _ _ h in
    token (first ∷ word) refl (λ style. lower_word both.0 both.1) (λ style. longest_lower style first word after both.0 both.1 ends) fits done

word_by : (limit n : ℕ) (text after : Text) (us : Tokens) → (bare : Bool) → is_lower_word text ≡ bare → IsWordText text → Ends after → n ≤ limit → WordPrinted limit n text after us
word_by limit n text after us true is ok ends fits = record {
  w = Lower text;
  is_word = refl;
  lexed = subst (λ (z : Text). LexedTo limit after us (z ++ after) ((Lower text, n) ∷ us)) (sym (cond-true (is_lower_word text) text (quoted single_quote text) is)) (lower_printed limit n text after us is ends fits);
}
word_by limit n text after us false is ok ends fits = record {
  w = Quoted text;
  is_word = refl;
  lexed = (let (quotable, some) = ok.quotable is in
      subst (λ (z : Text). LexedTo limit after us (z ++ after) ((Quoted text, n) ∷ us)) (sym (cond-false (is_lower_word text) text (quoted single_quote text) is)) (quoted_printed limit n text after us quotable some fits));
}

pub print_word : (limit n : ℕ) (text after : Text) (us : Tokens) → IsWordText text → Ends after → n ≤ limit → WordPrinted limit n text after us
print_word limit n text after us ok ends fits = word_by limit n text after us (is_lower_word text) refl ok ends fits

-- ---- other tokens

pub print_quoted : (limit n : ℕ) (text after : Text) (us : Tokens) → Facts (Quoted text) → n ≤ limit → LexedTo limit after us (quoted single_quote text ++ after) ((Quoted text, n) ∷ us)
print_quoted limit n text after us facts fits = quoted_printed limit n text after us facts.0 facts.1 fits

pub print_distinct : (limit n : ℕ) (text after : Text) (us : Tokens) → Facts (Distinct text) → n ≤ limit → LexedTo limit after us (quoted double_quote text ++ after) ((Distinct text, n) ∷ us)
print_distinct limit n text after us facts fits =
    let w = rewritten double_quote facts.is_written in
    token (quoted double_quote text) refl (λ style. distinct_object w) (λ style. longest_double style text (flat_map (escaped double_quote) text) after w) fits done

pub print_number : (limit n : ℕ) (text after : Text) (us : Tokens) → IsNumber text → Ends after → n ≤ limit → LexedTo limit after us (text ++ after) ((Number text, n) ∷ us)
print_number limit n text after us h ends fits = token text refl (λ style. number h) (λ style. longest_number style text after h ends) fits done

pub print_upper : (limit n : ℕ) (text after : Text) (us : Tokens) → IsUpperWord text → Ends after → n ≤ limit → LexedTo limit after us (text ++ after) ((Upper text, n) ∷ us)
print_upper limit n [] after us h ends fits = absurd h
print_upper limit n (first ∷ word) after us h ends fits = token (first ∷ word) refl (λ style. upper_word h.0 h.1) (λ style. longest_upper style first word after h.0 h.1 ends) fits done

pub print_lower : (limit n : ℕ) (text after : Text) (us : Tokens) → is_lower_word text ≡ true → Ends after → n ≤ limit → LexedTo limit after us (text ++ after) ((Lower text, n) ∷ us)
print_lower limit n text after us h ends fits = lower_printed limit n text after us h ends fits

pub print_dollar : (limit n first : ℕ) (word after : Text) (us : Tokens) → first == 36 ≡ false → list_all is_alpha_numeric (first ∷ word) ≡ true → Ends after → n ≤ limit
    → LexedTo limit after us (36 ∷ first ∷ (word ++ after)) ((Dollar (36 ∷ first ∷ word), n) ∷ us)
print_dollar limit n first word after us other all ends fits = token (36 ∷ first ∷ word) refl (λ style. dollar_word all) (λ style. longest_dollar style first word after other all ends) fits done
