use Rattle.std.proofs.Common.{◌≡◌, take}
use Rattle.packed_clauses.specs.Reading.{read_from}
use Rattle.packed_clauses.proofs.reading.read.Given as goal

abbrev pub invariant-loop-byte : goal.invariant-loop-byte
invariant-loop-byte l = l.reader ≡ read_from (take l.byte-index l.bytes)
