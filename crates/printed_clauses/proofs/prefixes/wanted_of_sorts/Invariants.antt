use Rattle.std.proofs.Common.{◌≡◌, take, map}
use Rattle.fof_terms.specs.Lift.{greatest}
use Rattle.printed_clauses.specs.code.Underscores.{wanted}
use Rattle.printed_clauses.proofs.prefixes.wanted_of_sorts.Given as goal

abbrev pub invariant-loop-number : goal.invariant-loop-number
invariant-loop-number l = l.most ≡ greatest (map wanted (take l.number l.sig.sorts))
