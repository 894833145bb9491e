-- The front of a vocabulary: so many of its sorts and of its symbols.
use Rattle.std.specs.Prelude.{take}
use Rattle.fof_terms.specs.Vocabulary.{Vocabulary}
use Rattle.sort_check.specs.declared.front.Extent.{Extent}

abbrev pub front : Extent → Vocabulary → Vocabulary
front extent v = record { sorts = take extent.sorts v.sorts; symbols = take extent.symbols v.symbols }
