-- A signature goes on from what it was, whatever comes of a part of a text.
use Rattle.std.proofs.Common.{◌≡◌, ℕ, List, [], ◌∷◌, ◌++◌, length, sym, subst}
use Rattle.fof_terms.specs.Vocabulary.{Vocabulary, IsDeclared}
use Rattle.fof_terms.specs.declared.signature.Symbol.{Symbol}
use Rattle.sort_check.specs.Sorting.{Extends}
use Rattle.sort_check.proofs.TermSorts.{grows_not, sort_added, symbol_added}

pub keeps_all : (v w : Vocabulary) → w ≡ v → Extends v w
keeps_all v w e = subst (Extends v) (sym e) (grows_not v)

pub keeps_with_symbol : (v w : Vocabulary) (s : Symbol) → IsDeclared (length v.sorts) s → w ≡ record v { symbols = v.symbols ++ s ∷ [] } → Extends v w
keeps_with_symbol v w s fits e = subst (Extends v) (sym e) (symbol_added v s (λ some. fits))

pub keeps_with_sort : (v w : Vocabulary) (name : List ℕ) → w ≡ record v { sorts = v.sorts ++ name ∷ [] } → Extends v w
keeps_with_sort v w name e = subst (Extends v) (sym e) (sort_added v name)
