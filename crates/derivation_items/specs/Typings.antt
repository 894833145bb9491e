-- What type lines declare (TPTP BNF, <tff_atom_typing>): each sort but that of individuals, and each symbol from a number
-- on, in the order of their numbers.
use Rattle.std.specs.Prelude.{ℕ, zero, suc, List, ◌++◌, drop, map, Option, Some, None, slice_get}
use Rattle.tptp_base.specs.declared.surface.SortName.{SortName}
use Rattle.tptp_base.specs.declared.surface.SortName.TheVariants.{Individual, Word}
use Rattle.tptp_base.specs.declared.item.Typing.{Typing}
use Rattle.tptp_base.specs.declared.item.Shape.TheVariants as shape
use Rattle.fof_terms.specs.Vocabulary.{Vocabulary}
use Rattle.fof_terms.specs.declared.signature.Symbol.{Symbol}
use Rattle.derivation_items.specs.Words.{Text}

abbrev pub named_sort : Option Text → SortName
named_sort (Some name) = Word name
named_sort None = Individual

-- how the sort of that number is written
abbrev pub written_sort : Vocabulary → ℕ → SortName
written_sort v zero = Individual
written_sort v (suc k) = named_sort (slice_get v.sorts (suc k))

abbrev pub sort_typing : Text → Typing
sort_typing name = record { name = name; shape = shape.Sort }

-- of a function, whose result has a sort
abbrev pub function_typing : Vocabulary → Symbol → Typing
function_typing v s = record { name = s.name; shape = shape.Symbol (map (written_sort v) s.args) (written_sort v s.result) }

abbrev pub typings_of : Vocabulary → ℕ → List Typing
typings_of v first = map sort_typing (drop 1 v.sorts) ++ map (function_typing v) (drop first v.symbols)
