-- What a text brings to a signature (TPTP technical manual, types): sorts and symbols that it names. A predicate has no
-- sort as its result, so 0 stands there.
use Rattle.std.specs.Prelude.{◌≡◌, List, ◌++◌}
use Rattle.std.specs.List.{AllByRecursion}
use Rattle.tptp_base.specs.Quotable.{IsQuotable, AreQuotable}
use Rattle.fof_terms.specs.Vocabulary.{Vocabulary}
use Rattle.fof_terms.specs.declared.signature.Kind.TheVariants.{Predicate}
use Rattle.fof_terms.specs.declared.signature.Symbol.{Symbol}
use Rattle.sort_check.specs.Symbols.{Text}

-- The name of the symbol can be written between quotes, and the result of a predicate is 0.
pub record IsNamed (s : Symbol) : Type 0 where
  pub quotable : IsQuotable s.name
  pub no_result : s.kind ≡ Predicate → s.result ≡ 0

-- The second vocabulary has the sorts and the symbols of the first, and then these.
pub record Brings (v w : Vocabulary) : Type 0 where
  pub more_sorts : List Text
  pub sorts : w.sorts ≡ v.sorts ++ more_sorts
  pub quotable : AreQuotable more_sorts
  pub more_symbols : List Symbol
  pub symbols : w.symbols ≡ v.symbols ++ more_symbols
  pub named : AllByRecursion IsNamed more_symbols
