-- Lines and columns: both count from 1, a line ends after its line feed, and columns count bytes.
use Rattle.std.specs.Prelude.{ℕ, ◌+◌, ◌==◌, Bool, not, List, take, count_by}
use Rattle.std.specs.List.{suffix_len}
use Rattle.tptp_base.specs.declared.place.Place.{Place}

abbrev pub is_line_feed : ℕ → Bool
is_line_feed byte = byte == 10

abbrev pub is_no_line_feed : ℕ → Bool
is_no_line_feed byte = not (byte == 10)

-- The line is 1 more than the line feeds before the place, the column 1 more than the bytes behind the last of them.
abbrev pub place_of : ℕ → List ℕ → ℕ → Place
place_of file text offset = record {
  file = file;
  offset = offset;
  line = count_by is_line_feed (take offset text) + 1;
  column = suffix_len is_no_line_feed (take offset text) + 1;
}
