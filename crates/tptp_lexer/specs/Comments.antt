-- How comments begin and end.
use Rattle.std.specs.Prelude.{◌≡◌, ℕ, Bool, ◌||◌, ◌==◌, codes, ◌++◌}
use Rattle.tptp_lexer.specs.declared.style.Style.{Style}
use Rattle.tptp_lexer.specs.declared.style.Style.TheVariants.{Problem, Derivation}
use Rattle.tptp_lexer.specs.Bytes.{Text}

-- `%`
abbrev pub percent : ℕ
percent = 37

-- `#`
abbrev pub number_sign : ℕ
number_sign = 35

-- the first byte of a line comment: `%`, and in a derivation `#` too
abbrev pub begins_comment : Style → ℕ → Bool
begins_comment Problem byte = byte == percent
begins_comment Derivation byte = byte == percent || byte == number_sign

-- `*/` stands nowhere in the text
abbrev pub HasNoEnd : Text → Type 0
HasNoEnd text = (before after : Text) → text ≡ before ++ (codes "*/" ++ after) → ⊥

-- The text is `/*` and goes on without a `*/`.
pub record IsOpenComment (text : Text) : Type 0 where
  pub body : Text
  pub has_no_end : HasNoEnd body
  pub is_text : text ≡ codes "/*" ++ body
