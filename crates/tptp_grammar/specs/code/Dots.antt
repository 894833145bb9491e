-- Where the reader of an item stops: the first token behind so many.
use Rattle.std.specs.Prelude.{ℕ, zero, suc, if◌then◌else◌, List, [], ◌∷◌, Option, Some, None}
use Rattle.tptp_grammar.specs.Solid.{Placed, is_remark}

-- the first token behind so many, comments left out
abbrev pub entry_behind : ℕ → List Placed → Option Placed
entry_behind count [] = None
entry_behind zero (entry ∷ rest) = if is_remark entry then entry_behind zero rest else Some entry
entry_behind (suc count) (entry ∷ rest) = entry_behind (if is_remark entry then suc count else count) rest
