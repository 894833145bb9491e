-- Lemmas on what specs/Entries defines.
use Rattle.std.specs.Prelude.{List}
use Rattle.std.specs.List.{AllByRecursion}
use Rattle.kernel.specs.declared.entry.Entry.{Entry}
use Rattle.proof_log.specs.Entries.{IsWritable}

-- each of the entries can be
abbrev pub AreWritable : List Entry → Type 0
AreWritable entries = AllByRecursion IsWritable entries
