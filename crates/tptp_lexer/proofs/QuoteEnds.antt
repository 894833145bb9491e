-- Where a quote ends, and the characters in it.
use Rattle.std.proofs.Common.{◌≡◌, ℕ, suc, ◌+◌, ◌<◌, Bool, true, false, not, ◌==◌, [], ◌∷◌, ◌++◌, length, get_or, if◌then◌else◌, ◌⊎◌, inl, inr, refl, sym, ap, subst, ◌∙◌, arith, eq-eqb, append-nil}
use Rattle.std.proofs.lemmas.Bool.{and_parts, not-true, eqb-true, false_from_ne_true}
use Rattle.tptp_lexer.specs.declared.quotes.Quote.{Quote}
use Rattle.tptp_lexer.specs.declared.quotes.Quote.TheVariants.{Closed, Unclosed, Broken}
use Rattle.tptp_lexer.specs.declared.quotes.Turn.{Turn}
use Rattle.tptp_lexer.specs.declared.quotes.Turn.TheVariants.{Goes, Closes, Breaks}
use Rattle.tptp_lexer.specs.Bytes.{Text}
use Rattle.tptp_lexer.specs.Quotes.{is_plain, is_escaped, IsWritten, nothing, plain, escaped}
use Rattle.tptp_lexer.specs.Lexemes.{unescaped, unescaped_from}
use Rattle.tptp_lexer.specs.Scan.{turn_of, quote_by, quote_end}

-- a character that stands for itself is neither the quote nor `\`
plain_parts : (quote byte : ℕ) → is_plain quote byte ≡ true → (byte == quote ≡ false) × (byte == 92 ≡ false)
plain_parts quote byte h =
    let parts = and_parts _ _ h in
    let both = and_parts (not (byte == quote)) (not (byte == 92)) parts.1 in
    (not-true (byte == quote) both.0, not-true (byte == 92) both.1)

turn-plain : (quote byte : ℕ) → is_plain quote byte ≡ true → turn_of quote false byte ≡ Goes false
turn-plain quote byte h = let parts = plain_parts quote byte h in rw (h, parts.0, parts.1) refl

turn-escape : (quote : ℕ) → 92 == quote ≡ false → turn_of quote false 92 ≡ Goes true
turn-escape quote other = rw other refl

turn-escaped : (quote byte : ℕ) → is_escaped quote byte ≡ true → turn_of quote true byte ≡ Goes false
turn-escaped quote byte h = rw h refl

turn-quote : (quote : ℕ) → turn_of quote false quote ≡ Closes
turn-quote quote = rw (eq-eqb quote quote refl) refl

one_on : (quote : ℕ) (before next : Bool) (at byte : ℕ) (text : Text) → turn_of quote before byte ≡ Goes next → quote_end quote before at (byte ∷ text) ≡ quote_end quote next (at + 1) text
one_on quote before next at byte text e = ap (λ t. quote_by at t (λ n. quote_end quote n (at + 1) text)) e

-- written characters are passed over
pub written_goes : (quote : ℕ) {chars written : Text} → 92 == quote ≡ false → IsWritten quote chars written → (at : ℕ) (rest : Text)
    → quote_end quote false at (written ++ rest) ≡ quote_end quote false (at + length written) rest
written_goes quote other nothing at rest = ap (λ n. quote_end quote false n rest) (omega arith)
written_goes quote other (plain {char = char} {written = written} h more) at rest =
    one_on quote false false at char (written ++ rest) (turn-plain quote char h) ∙ written_goes quote other more (at + 1) rest ∙ ap (λ n. quote_end quote false n rest) (omega arith)
written_goes quote other (escaped {char = char} {written = written} h more) at rest =
    one_on quote false true at 92 (char ∷ written ++ rest) (turn-escape quote other) ∙ one_on quote true false (at + 1) char (written ++ rest) (turn-escaped quote char h)
    ∙ written_goes quote other more (at + 1 + 1) rest ∙ ap (λ n. quote_end quote false n rest) (omega arith)

pub written_closes : (quote : ℕ) {chars written : Text} → 92 == quote ≡ false → IsWritten quote chars written → (rest : Text) → quote_end quote false 0 (written ++ quote ∷ rest) ≡ Closed (length written)
written_closes quote {written = written} other h rest =
    written_goes quote other h 0 (quote ∷ rest) ∙ ap (λ t. quote_by (0 + length written) t (λ n. quote_end quote n (0 + length written + 1) rest)) (turn-quote quote) ∙ ap Closed (omega arith)

pub written_unclosed : (quote : ℕ) {chars written : Text} → 92 == quote ≡ false → IsWritten quote chars written → (text : Text) → (text ≡ written) ⊎ (text ≡ written ++ 92 ∷ []) → quote_end quote false 0 text ≡ Unclosed
written_unclosed quote {written = written} other h text (inl e) =
    let all : quote_end quote false 0 (written ++ []) ≡ Unclosed = written_goes quote other h 0 [] in
    ap (quote_end quote false 0) (e ∙ sym (append-nil written)) ∙ all
written_unclosed quote {written = written} other h text (inr e) =
    ap (quote_end quote false 0) e ∙ written_goes quote other h 0 (92 ∷ []) ∙ one_on quote false true (0 + length written) 92 [] (turn-escape quote other)

-- the text with the `\` before it
abbrev pub opened : Bool → Text → Text
opened true text = 92 ∷ text
opened false text = text

-- what an end says of the text
abbrev pub SaysEnd : ℕ → Bool → ℕ → Text → Quote → Type 0
SaysEnd quote before at text (Closed end) =
    (chars : Text) × (written : Text) × (rest : Text) × IsWritten quote chars (opened before written) × (text ≡ written ++ quote ∷ rest) × (end ≡ at + length written)
SaysEnd quote before at text Unclosed =
    (chars : Text) × (written : Text) × IsWritten quote chars written × ((opened before text ≡ written) ⊎ (opened before text ≡ written ++ 92 ∷ []))
SaysEnd quote before at text Broken = Unit {0}

module _ (quote at byte : ℕ) (text : Text) where
  goes_plain : is_plain quote byte ≡ true → (end : Quote) → SaysEnd quote false (at + 1) text end → SaysEnd quote false at (byte ∷ text) end
  goes_plain h (Closed end) (chars, written, rest, is, same, ended) = (byte ∷ chars, byte ∷ written, rest, plain h is, ap (λ z. byte ∷ z) same, omega arith)
  goes_plain h Unclosed (chars, written, is, inl same) = (byte ∷ chars, byte ∷ written, plain h is, inl (ap (λ z. byte ∷ z) same))
  goes_plain h Unclosed (chars, written, is, inr same) = (byte ∷ chars, byte ∷ written, plain h is, inr (ap (λ z. byte ∷ z) same))
  goes_plain h Broken says = tt

  goes_escape : byte ≡ 92 → (end : Quote) → SaysEnd quote true (at + 1) text end → SaysEnd quote false at (byte ∷ text) end
  goes_escape h (Closed end) (chars, written, rest, is, same, ended) =
      (chars, byte ∷ written, rest, subst (λ b. IsWritten quote chars (b ∷ written)) (sym h) is, ap (λ z. byte ∷ z) same, omega arith)
  goes_escape h Unclosed (chars, written, is, inl same) = (chars, written, is, inl (ap (λ b. b ∷ text) h ∙ same))
  goes_escape h Unclosed (chars, written, is, inr same) = (chars, written, is, inr (ap (λ b. b ∷ text) h ∙ same))
  goes_escape h Broken says = tt

  goes_escaped : is_escaped quote byte ≡ true → (end : Quote) → SaysEnd quote false (at + 1) text end → SaysEnd quote true at (byte ∷ text) end
  goes_escaped h (Closed end) (chars, written, rest, is, same, ended) = (byte ∷ chars, byte ∷ written, rest, escaped h is, ap (λ z. byte ∷ z) same, omega arith)
  goes_escaped h Unclosed (chars, written, is, inl same) = (byte ∷ chars, 92 ∷ byte ∷ written, escaped h is, inl (ap (λ z. 92 ∷ byte ∷ z) same))
  goes_escaped h Unclosed (chars, written, is, inr same) = (byte ∷ chars, 92 ∷ byte ∷ written, escaped h is, inr (ap (λ z. 92 ∷ byte ∷ z) same))
  goes_escaped h Broken says = tt

  closes : byte ≡ quote → SaysEnd quote false at (byte ∷ text) (Closed at)
  closes h = ([], [], text, nothing, ap (λ b. b ∷ text) h, omega arith)

by_turn : (quote : ℕ) (before : Bool) (at : ℕ) (text : Text) (test : Bool) (x y : Turn) (rest : Bool → Quote)
    → (test ≡ true → SaysEnd quote before at text (quote_by at x rest)) → (test ≡ false → SaysEnd quote before at text (quote_by at y rest)) → SaysEnd quote before at text (quote_by at (if test then x else y) rest)
by_turn quote before at text true x y rest h k = h refl
by_turn quote before at text false x y rest h k = k refl

pub end_says : (quote : ℕ) (before : Bool) (at : ℕ) (text : Text) → SaysEnd quote before at text (quote_end quote before at text)
end_says quote true at [] = ([], [], nothing, inr refl)
end_says quote false at [] = ([], [], nothing, inl refl)
end_says quote true at (byte ∷ text) =
    by_turn quote true at (byte ∷ text) (is_escaped quote byte) (Goes false) Breaks (λ n. quote_end quote n (at + 1) text) (λ h. goes_escaped quote at byte text h _ (end_says quote false (at + 1) text)) (λ h. tt)
end_says quote false at (byte ∷ text) =
    let rest = λ (n : Bool). quote_end quote n (at + 1) text in
    by_turn quote false at (byte ∷ text) (byte == quote) Closes (if byte == 92 then Goes true else (if is_plain quote byte then Goes false else Breaks)) rest (λ h. closes quote at byte text (eqb-true byte quote h)) (λ other.
    by_turn quote false at (byte ∷ text) (byte == 92) (Goes true) (if is_plain quote byte then Goes false else Breaks) rest (λ h. goes_escape quote at byte text (eqb-true byte 92 h) _ (end_says quote true (at + 1) text)) (λ also.
    by_turn quote false at (byte ∷ text) (is_plain quote byte) (Goes false) Breaks rest (λ h. goes_plain quote at byte text h _ (end_says quote false (at + 1) text)) (λ h. tt)))

-- the characters that were written
pub written_unescaped : (quote : ℕ) {chars written : Text} → IsWritten quote chars written → unescaped written ≡ chars
written_unescaped quote nothing = refl
written_unescaped quote (plain {char = char} {written = written} h more) =
    let no = (plain_parts quote char h).1 in
    ap (λ t. if t then unescaped_from true written else char ∷ unescaped written) no ∙ ap (λ z. char ∷ z) (written_unescaped quote more)
written_unescaped quote (escaped {char = char} h more) = ap (λ z. char ∷ z) (written_unescaped quote more)

-- Where there is no `\`, the characters are written as they are.
plain_by : (byte : ℕ) (text : Text) (test : Bool) → byte == 92 ≡ test → test ≡ false → unescaped text ≡ text → unescaped (byte ∷ text) ≡ byte ∷ text
plain_by byte text true e never h = cc
plain_by byte text false e ok h = ap (λ t. if t then unescaped_from true text else byte ∷ unescaped text) e ∙ ap (λ z. byte ∷ z) h

pub plain_unescaped : (text : Text) → ((j : ℕ) → j < length text → get_or text j 0 == 92 ≡ true → ⊥) → unescaped text ≡ text
plain_unescaped [] h = refl
plain_unescaped (byte ∷ text) h =
    plain_by byte text (byte == 92) refl (false_from_ne_true (byte == 92) (h 0 (omega arith))) (plain_unescaped text (λ j lt. h (suc j) (omega arith)))
