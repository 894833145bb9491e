-- How characters are written between quotes, and which quotes are open where a text ends.
use Rattle.std.specs.Prelude.{◌≡◌, ℕ, Bool, ◌||◌, ◌&&◌, ◌==◌, not, nat_le, IsTrue, [], ◌∷◌, ◌++◌, ◌⊎◌}
use Rattle.tptp_lexer.specs.Bytes.{Text}

-- `'`
abbrev pub single_quote : ℕ
single_quote = 39

-- `"`
abbrev pub double_quote : ℕ
double_quote = 34

-- `\`
abbrev pub backslash : ℕ
backslash = 92

-- a character that stands for itself: printable, and neither the quote nor `\`
abbrev pub is_plain : ℕ → ℕ → Bool
is_plain quote char = (nat_le 32 char && nat_le char 126) && (not (char == quote) && not (char == backslash))

-- a character that is written with `\` before it: the quote or `\`
abbrev pub is_escaped : ℕ → ℕ → Bool
is_escaped quote char = char == quote || char == backslash

-- <sq_char>*, or <do_char>*: the characters, and how they are written
pub data IsWritten (quote : ℕ) : Text → Text → Type 0 where
  nothing : IsWritten quote [] []
  plain : {char : ℕ} {chars written : Text} → IsTrue (is_plain quote char) → IsWritten quote chars written → IsWritten quote (char ∷ chars) (char ∷ written)
  escaped : {char : ℕ} {chars written : Text} → IsTrue (is_escaped quote char) → IsWritten quote chars written → IsWritten quote (char ∷ chars) (backslash ∷ char ∷ written)

-- The text is a quote and written characters, without a closing quote. Its last byte may be a `\` with nothing behind
-- it.
pub record IsOpenQuote (quote : ℕ) (text : Text) : Type 0 where
  pub chars : Text
  pub written : Text
  pub is_written : IsWritten quote chars written
  pub is_text : (text ≡ quote ∷ written) ⊎ (text ≡ quote ∷ (written ++ backslash ∷ []))
