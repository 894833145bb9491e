-- The declarations by which a signature grows to a longer one: its new sorts, and then its new symbols, each in the
-- order of their numbers.
use Rattle.std.specs.Prelude.{◌++◌, List, drop, length, map}
use Rattle.fof_terms.specs.Vocabulary.{Vocabulary}
use Rattle.kernel.specs.declared.entry.Decl.TheVariants.{Sort, Symbol}
use Rattle.kernel.specs.declared.entry.Entry.{Entry}
use Rattle.kernel.specs.declared.entry.Entry.TheVariants.{Declare}

abbrev pub declarations : Vocabulary → Vocabulary → List Entry
declarations old new =
    map (λ name. Declare (Sort name)) (drop (length old.sorts) new.sorts) ++ map (λ symbol. Declare (Symbol symbol)) (drop (length old.symbols) new.symbols)
