-- The part of a prover's output that holds the derivation, and where the claimed status stands in it, as the SZS
-- ontology presents them.
use Rattle.std.specs.Prelude.{ℕ, ◌+◌, List, [], ◌∷◌, length, drop, Option, None, Some}
use Rattle.std.specs.List.{prefix_len}
use Rattle.tptp_base.specs.declared.place.Region.{Region}
use Rattle.szs_report.specs.declared.line.LineKind.TheVariants.{Start, End, Status}
use Rattle.szs_report.specs.Lines.{lines_of, bytes_in, lines_before, lines_from_first}
use Rattle.szs_report.specs.Marks.{fits, is_letter}

-- the part that begins behind so many bytes, and ends before the first of these lines that says so, or with them
abbrev pub part_of : ℕ → List (List ℕ) → Region
part_of start later = record { start = start; end = start + bytes_in (lines_before (fits End) later) }

-- the part, by the lines before the first start line and those from it on
abbrev pub region_in : ℕ → List (List ℕ) → List (List ℕ) → Region
region_in size before [] = record { start = 0; end = size }
region_in size before (first ∷ later) = part_of (bytes_in before + length first) later

-- The part behind the first start line and before the next end line, or up to the text's end; without a start line
-- the whole text.
abbrev pub region_of : List ℕ → Region
region_of text = region_in (length text) (lines_before (fits Start) (lines_of text)) (lines_from_first (fits Start) (lines_of text))

-- the word of a status line that stands behind so many bytes: the run of letters behind the line's mark
abbrev pub word_of : ℕ → List ℕ → Region
word_of before line = record { start = before + 13; end = before + 13 + prefix_len is_letter (drop 13 line) }

-- the claim, by the lines before the first status line and those from it on
abbrev pub claim_in : List (List ℕ) → List (List ℕ) → Option Region
claim_in before [] = None
claim_in before (line ∷ later) = Some (word_of (bytes_in before) line)

-- where the word of the first status line stands
abbrev pub claim_of : List ℕ → Option Region
claim_of text = claim_in (lines_before (fits Status) (lines_of text)) (lines_from_first (fits Status) (lines_of text))
