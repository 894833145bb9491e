-- How symbols, sorts and variables are named.
use Rattle.std.specs.Prelude.{ℕ, ◌≡◌, zero, suc, Option, Some, None, slice_get}
use Rattle.tptp_base.specs.declared.surface.BoundVar.{BoundVar}
use Rattle.tptp_base.specs.declared.surface.SortName.{SortName}
use Rattle.tptp_base.specs.declared.surface.SortName.TheVariants.{Individual, Word}
use Rattle.fof_terms.specs.Vocabulary.{Vocabulary}
use Rattle.fof_terms.specs.declared.signature.Symbol.{Symbol}
use Rattle.sort_check.specs.Symbols.{Text}
use Rattle.prove_out.specs.Variables.{variable_name}

-- the name is that of the symbol, if there is one
abbrev pub IsNameOf : Option Symbol → Text → Type 0
IsNameOf (Some symbol) name = name ≡ symbol.name
IsNameOf None name = Unit {0}

abbrev pub worded : Option Text → SortName
worded (Some name) = Word name
worded None = Individual

-- the sort of that number, of this name
abbrev pub sort_written : ℕ → Option Text → SortName
sort_written zero name = Individual
sort_written (suc id) name = worded name

-- the variable of that binder, and its sort
abbrev pub variable_of : Vocabulary → ℕ → ℕ → BoundVar
variable_of v sort binder = record { name = variable_name binder; sort = Some (sort_written sort (slice_get v.sorts sort)) }
