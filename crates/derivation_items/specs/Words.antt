-- Words with numbers, and words that have a spelling.
use Rattle.std.specs.Prelude.{ℕ, ◌++◌, List, if◌then◌else◌, decimal, map}
use Rattle.tptp_base.specs.Quotable.{is_printable}

abbrev pub Text : Type 0
Text = List ℕ

-- the word with the number behind it
abbrev pub numbered_word : Text → ℕ → Text
numbered_word word number = word ++ decimal number

-- a byte that no quoted word can hold becomes a question mark
abbrev pub printable_byte : ℕ → ℕ
printable_byte byte = if is_printable byte then byte else 63

abbrev pub printable_text : Text → Text
printable_text = map printable_byte
