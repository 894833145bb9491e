use Rattle.std.proofs.Common.{◌≡◌, take, map}
use Rattle.fof_terms.specs.Lift.{greatest}
use Rattle.fof_terms.specs.declared.signature.Symbol.{Symbol}
use Rattle.printed_clauses.specs.code.Underscores.{wanted}
use Rattle.printed_clauses.proofs.prefixes.wanted_of_symbols.Given as goal

abbrev pub invariant-loop-number : goal.invariant-loop-number
invariant-loop-number l = l.most ≡ greatest (map (λ (s : Symbol). wanted s.name) (take l.number l.sig.symbols))
