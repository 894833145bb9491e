-- Which texts spell a token, by the lexical rules of the TPTP BNF.
use Rattle.std.specs.Prelude.{◌≡◌, ◌≤◌, ℕ, IsTrue, codes, [], ◌∷◌, ◌++◌, length}
use Rattle.std.specs.List.{list_all}
use Rattle.tptp_lexer.specs.declared.style.Style.{Style}
use Rattle.tptp_lexer.specs.declared.token.Mark.{Mark as Sign}
use Rattle.tptp_lexer.specs.declared.token.Token.{Token}
use Rattle.tptp_lexer.specs.declared.token.Token.TheVariants.{Lower, Quoted, Upper, Dollar, System, Number, Distinct}
use Rattle.tptp_lexer.specs.declared.token.Token.TheVariants.{Comment, Mark}
use Rattle.tptp_lexer.specs.Bytes.{Text, is_lower_alpha, is_upper_alpha, is_alpha_numeric}
use Rattle.tptp_base.specs.Place.{is_no_line_feed}
use Rattle.tptp_lexer.specs.Comments.{begins_comment, HasNoEnd}
use Rattle.tptp_lexer.specs.Marks.{mark_text}
use Rattle.tptp_lexer.specs.Numbers.{IsNumber}
use Rattle.tptp_lexer.specs.Quotes.{IsWritten, single_quote, double_quote}

pub data Spelled (style : Style) : Token → Text → Type 0 where
  -- <lower_word>
  lower_word : {first : ℕ} {word : Text} → IsTrue (is_lower_alpha first) → IsTrue (list_all is_alpha_numeric word) → Spelled style (Lower (first ∷ word)) (first ∷ word)
  -- <upper_word>
  upper_word : {first : ℕ} {word : Text} → IsTrue (is_upper_alpha first) → IsTrue (list_all is_alpha_numeric word) → Spelled style (Upper (first ∷ word)) (first ∷ word)
  -- <dollar_word>, of at least one byte behind `$`
  dollar_word : {first : ℕ} {word : Text} → IsTrue (list_all is_alpha_numeric (first ∷ word)) → Spelled style (Dollar (codes "$" ++ first ∷ word)) (codes "$" ++ first ∷ word)
  -- <dollar_dollar_word>, of at least one byte behind `$$`
  dollar_dollar_word : {first : ℕ} {word : Text} → IsTrue (list_all is_alpha_numeric (first ∷ word)) → Spelled style (System (codes "$$" ++ first ∷ word)) (codes "$$" ++ first ∷ word)
  -- <single_quoted>
  single_quoted : {char : ℕ} {chars written : Text} → IsWritten single_quote (char ∷ chars) written → Spelled style (Quoted (char ∷ chars)) (single_quote ∷ (written ++ single_quote ∷ []))
  -- <distinct_object>
  distinct_object : {chars written : Text} → IsWritten double_quote chars written → Spelled style (Distinct chars) (double_quote ∷ (written ++ double_quote ∷ []))
  -- <number>
  number : {text : Text} → IsNumber text → Spelled style (Number text) text
  -- <comment_line>
  comment_line : {first : ℕ} {line : Text} → IsTrue (begins_comment style first) → IsTrue (list_all is_no_line_feed line) → Spelled style (Comment (first ∷ line)) (first ∷ line)
  -- <comment_block>: through the first `*/` behind `/*`
  comment_block : (body : Text) → HasNoEnd (body ++ codes "*") → Spelled style (Comment (codes "/*" ++ (body ++ codes "*/"))) (codes "/*" ++ (body ++ codes "*/"))
  -- the punctuation and the connectives
  mark : (sign : Sign) → Spelled style (Mark sign) (mark_text sign)

-- Of all spellings of tokens with which the text begins, none is longer.
abbrev pub IsLongest : Style → ℕ → Text → Type 0
IsLongest style len text = (other : Token) (spelling rest : Text) → Spelled style other spelling → text ≡ spelling ++ rest → length spelling ≤ len

-- The text begins with the spelling of a token.
abbrev pub BeginsToken : Style → Text → Type 0
BeginsToken style text = (token : Token) × (spelling : Text) × (rest : Text) × Spelled style token spelling × (text ≡ spelling ++ rest)
