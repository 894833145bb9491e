-- The lines that the items of a derivation denote: each has the name and the form of a line of the derivation.
use Rattle.std.specs.Prelude.{ℕ, ◌+◌, List, [], ◌∷◌, map}
use Rattle.tptp_base.specs.declared.name.Name.TheVariants.{Word}
use Rattle.tptp_base.specs.declared.item.Role.TheVariants.{Plain}
use Rattle.tptp_base.specs.declared.place.Place.{Place}
use Rattle.sort_check.specs.declared.line.Line.{Line}
use Rattle.derivation_items.specs.Items.{first_place}
use Rattle.derivation_items.specs.declared.line.ProofLine.{ProofLine}

-- by the item of that number
abbrev pub denoted_line : ℕ → ProofLine → Line
denoted_line number l = record { item = number; place = first_place; name = Word l.name; role = Plain; form = l.form }

-- by items from that number on
abbrev pub denoted_lines : ℕ → List ProofLine → List Line
denoted_lines number [] = []
denoted_lines number (l ∷ ls) = denoted_line number l ∷ denoted_lines (number + 1) ls

-- the line at another place, and lines all at one place
abbrev pub line_at : Place → Line → Line
line_at place l = record l { place = place }

abbrev pub lines_at : Place → List Line → List Line
lines_at place = map (line_at place)
