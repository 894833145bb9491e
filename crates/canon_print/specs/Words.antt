-- How words, names and lists are written: the lexical rules of the TPTP BNF, with one spelling chosen for each.
use Rattle.std.specs.Prelude.{ℕ, Bool, false, ◌&&◌, if◌then◌else◌, List, [], ◌∷◌, ◌++◌}
use Rattle.std.specs.List.{flat_map, list_all}
use Rattle.tptp_base.specs.declared.name.Name.{Name}
use Rattle.tptp_lexer.specs.Bytes.{Text, is_lower_alpha, is_alpha_numeric}
use Rattle.tptp_lexer.specs.Quotes.{single_quote, backslash, is_escaped}
use Rattle.tptp_base.specs.declared.name.Name.TheVariants as nm

-- a character between quotes: the quote and `\` have a `\` before them
abbrev pub escaped : ℕ → ℕ → Text
escaped quote char = if is_escaped quote char then backslash ∷ char ∷ [] else char ∷ []

-- between quotes
abbrev pub quoted : ℕ → Text → Text
quoted quote chars = quote ∷ (flat_map (escaped quote) chars ++ quote ∷ [])

-- <lower_word>
abbrev pub is_lower_word : Text → Bool
is_lower_word [] = false
is_lower_word (first ∷ word) = is_lower_alpha first && list_all is_alpha_numeric word

-- bare where the text is a <lower_word>, and else quoted
abbrev pub word_text : Text → Text
word_text word = if is_lower_word word then word else quoted single_quote word

-- <name>
abbrev pub name_text : Name → Text
name_text (nm.Word word) = word_text word
name_text (nm.Integer number) = number

-- each part with the separator before it
abbrev pub later : Text → List Text → Text
later separator [] = []
later separator (part ∷ parts) = separator ++ (part ++ later separator parts)

-- the parts with the separator between them
abbrev pub separated : Text → List Text → Text
separated separator [] = []
separated separator (part ∷ parts) = part ++ later separator parts
