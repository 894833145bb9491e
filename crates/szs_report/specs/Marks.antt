-- The lines of a prover's output by which a derivation and its status are found, as the SZS ontology presents them.
use Rattle.std.specs.Prelude.{ℕ, ◌==◌, ◌||◌, ◌&&◌, nat_le, nat_lt, nat_eq, Bool, true, false, List, [], ◌∷◌, drop}
use Rattle.std.specs.Prelude.{codes}
use Rattle.std.specs.List.{prefix_len, starts_with}
use Rattle.szs_report.specs.declared.line.LineKind.{LineKind}
use Rattle.szs_report.specs.declared.line.LineKind.TheVariants.{Start, End, Status}

-- the line begins with `%` or `#`, and then so
abbrev pub begins_with_mark : List ℕ → List ℕ → Bool
begins_with_mark mark [] = false
begins_with_mark mark (byte ∷ rest) = (byte == 37 || byte == 35) && starts_with nat_eq rest mark

abbrev pub is_letter : ℕ → Bool
is_letter byte = (nat_le 65 byte && nat_le byte 90) || (nat_le 97 byte && nat_le byte 122)

abbrev pub is_blank : ℕ → Bool
is_blank byte = (nat_le 9 byte && nat_le byte 13) || byte == 32

-- a word ends before this
abbrev pub is_end : List ℕ → Bool
is_end [] = true
is_end (byte ∷ rest) = is_blank byte

-- a run of letters that is not empty comes first, and then a blank or nothing
abbrev pub is_status : List ℕ → Bool
is_status rest = nat_lt 0 (prefix_len is_letter rest) && is_end (drop (prefix_len is_letter rest) rest)

-- The line is of this kind. The mark of a status line has 13 bytes, and its word stands behind them.
unfoldable pub fits : LineKind → List ℕ → Bool
fits Start line = begins_with_mark (codes " SZS output start") line
fits End line = begins_with_mark (codes " SZS output end") line
fits Status line = begins_with_mark (codes " SZS status ") line && is_status (drop 13 line)
