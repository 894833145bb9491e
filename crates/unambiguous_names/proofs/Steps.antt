-- The single steps by which what a text denotes changes a vocabulary: a symbol and a sort that are not there yet.
use Rattle.std.specs.Prelude.{◌≡◌, ◌++◌, List, [], ◌∷◌, None, length}
use Rattle.fof_terms.specs.Vocabulary.{Vocabulary, found_symbol, found_sort}
use Rattle.fof_terms.specs.declared.signature.Symbol.{Symbol}
use Rattle.sort_check.specs.Symbols.{Text}

abbrev pub and_symbol : Vocabulary → Symbol → Vocabulary
and_symbol v s = record v { symbols = v.symbols ++ s ∷ [] }

abbrev pub and_sort : Vocabulary → Text → Vocabulary
and_sort v name = record v { sorts = v.sorts ++ name ∷ [] }

-- The relation holds where nothing changes, from step to step, and of each single step.
pub record Steps (R : Vocabulary → Vocabulary → Type 0) : Type 0 where
  pub none : (v : Vocabulary) → R v v
  pub on : (u v w : Vocabulary) → R u v → R v w → R u w
  pub symbol : (v : Vocabulary) (s : Symbol) → found_symbol v s.name s.kind (length s.args) ≡ None → R v (and_symbol v s)
  pub sort : (v : Vocabulary) (name : Text) → found_sort v name ≡ None → R v (and_sort v name)
