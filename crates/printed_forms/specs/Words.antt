-- Names that a text can write (TPTP BNF, <name>, <single_quoted>): those of vocabularies and those of given formulas.
use Rattle.std.specs.Prelude.{◌≡◌, true, List}
use Rattle.std.specs.List.{AllByRecursion}
use Rattle.tptp_base.specs.Numerals.{is_integer}
use Rattle.tptp_base.specs.Quotable.{IsQuotable, AreQuotable}
use Rattle.tptp_base.specs.declared.name.Name.{Name}
use Rattle.tptp_base.specs.declared.name.Name.TheVariants.{Word, Integer}
use Rattle.fof_terms.specs.Vocabulary.{Vocabulary}
use Rattle.fof_terms.specs.declared.signature.Symbol.{Symbol}
use Rattle.sort_check.specs.declared.line.GivenEntry.{GivenEntry}

-- the name of each symbol and of each sort has a spelling between single quotes
pub record HasWords (v : Vocabulary) : Type 0 where
  pub symbols : AllByRecursion (λ (s : Symbol). IsQuotable s.name) v.symbols
  pub sorts : AreQuotable v.sorts

-- a word has such a spelling, and a number is an integer
abbrev pub HasSpelling : Name → Type 0
HasSpelling (Word word) = IsQuotable word
HasSpelling (Integer number) = is_integer number ≡ true

-- so it is with the name of each given formula
abbrev pub AreNamed : List GivenEntry → Type 0
AreNamed given = AllByRecursion (λ (entry : GivenEntry). HasSpelling entry.name) given
