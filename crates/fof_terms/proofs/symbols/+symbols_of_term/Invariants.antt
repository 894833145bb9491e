use Rattle.std.proofs.Common.{take}
use Rattle.std.specs.List.{list_any}
use Rattle.fof_terms.specs.Occurs.{occurs_in_term}
use Rattle.fof_terms.specs.Standing.{AppendsOnly, GainsOnly}
use Rattle.fof_terms.proofs.symbols.+symbols_of_term.Given as goal

abbrev pub invariant-symbols_of_terms-loop-term : goal.invariant-symbols_of_terms-loop-term
invariant-symbols_of_terms-loop-term l =
    GainsOnly l.fn.symbols (λ symbol. list_any (occurs_in_term symbol) (take l.term-index l.terms)) l.symbols
    × AppendsOnly l.fn.symbols (λ symbol. list_any (occurs_in_term symbol) (take l.term-index l.terms)) l.symbols
