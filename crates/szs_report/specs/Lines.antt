-- The lines of a text: each ends after its line feed, or at the end of the text. This is the text's own cut, before
-- any word of the SZS standard is looked for.
use Rattle.std.specs.Prelude.{ℕ, ◌==◌, Bool, not, List, [], ◌∷◌, length, take, drop, sum_by, if◌then◌else◌}
use Rattle.std.specs.List.{prefix_len}

-- a byte before the lines of what follows it: a line feed is a line's last byte, any other byte stands in a line
abbrev pub with_byte : ℕ → List (List ℕ) → List (List ℕ)
with_byte byte [] = (byte ∷ []) ∷ []
with_byte byte (line ∷ lines) = if byte == 10 then (byte ∷ []) ∷ line ∷ lines else (byte ∷ line) ∷ lines

-- the lines of a text, in order
unfoldable pub lines_of : List ℕ → List (List ℕ)
lines_of [] = []
lines_of (byte ∷ rest) = with_byte byte (lines_of rest)

-- how many bytes the lines have
abbrev pub bytes_in : List (List ℕ) → ℕ
bytes_in lines = sum_by length lines

-- the lines before the first one that passes: all, where none does
abbrev pub lines_before : (List ℕ → Bool) → List (List ℕ) → List (List ℕ)
lines_before test lines = take (prefix_len (λ line. not (test line)) lines) lines

-- the lines from the first one on that passes
abbrev pub lines_from_first : (List ℕ → Bool) → List (List ℕ) → List (List ℕ)
lines_from_first test lines = drop (prefix_len (λ line. not (test line)) lines) lines
