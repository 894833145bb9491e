-- Images of variables that a list gives.
use Rattle.std.specs.Prelude.{ℕ, List, get_or}
use Rattle.fof_terms.specs.declared.term.Term.{Term, Var}

-- the image of a variable; one that has none stands for itself
abbrev pub given : List Term → ℕ → Term
given images k = get_or images k (Var k)
