-- Lists that begin with no comment.
use Rattle.std.proofs.Common.{◌≡◌, false, List, [], ◌∷◌}
use Rattle.tptp_grammar.specs.Solid.{Placed, is_remark}

abbrev pub BeginsSolid : List Placed → Type 0
BeginsSolid [] = Unit {0}
BeginsSolid (entry ∷ rest) = is_remark entry ≡ false
