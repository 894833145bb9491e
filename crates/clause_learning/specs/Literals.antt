-- Literals over numbered atoms.
use Rattle.std.specs.Prelude.{not}
use Rattle.clause_learning.specs.declared.literal.Literal.{Literal}

-- the literal of the same atom with the other sign
abbrev pub complement : Literal → Literal
complement l = record { atom = l.atom; positive = not l.positive }
