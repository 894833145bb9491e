use Rattle.std.proofs.Common.{take}
use Rattle.std.specs.List.{list_any}
use Rattle.fof_terms.specs.Occurs.{occurs_in}
use Rattle.fof_terms.specs.Standing.{AppendsOnly, GainsOnly}
use Rattle.fof_terms.proofs.symbols.+symbols_of.Given as goal

abbrev pub invariant-symbols_of_all-loop-form : goal.invariant-symbols_of_all-loop-form
invariant-symbols_of_all-loop-form l =
    GainsOnly l.fn.symbols (λ symbol. list_any (occurs_in symbol) (take l.form-index l.forms)) l.symbols
    × AppendsOnly l.fn.symbols (λ symbol. list_any (occurs_in symbol) (take l.form-index l.forms)) l.symbols
