-- Nodes that are marked as taken, as contracts see them.
use Rattle.std.specs.Prelude.{ℕ, ◌==◌, Bool, false, List, get_or}
use Rattle.std.specs.List.{list_any}
use Rattle.tstp_graph.specs.declared.shape.Ref.{Ref}
use Rattle.tstp_graph.specs.declared.shape.Ref.TheVariants.{Line, Given}

-- the mark of a number; numbers without one are not taken
abbrev pub flag_at : List Bool → ℕ → Bool
flag_at flags number = get_or flags number false

-- the parent is the line of this number
abbrev pub is_line : ℕ → Ref → Bool
is_line number (Line other) = number == other
is_line number (Given other) = false

-- one of these parents is the line of this number
abbrev pub cites : List Ref → ℕ → Bool
cites parents number = list_any (is_line number) parents
