use Rattle.std.proofs.Common.{◌≡◌, take, map}
use Rattle.derivation_items.specs.Words.{printable_byte}
use Rattle.derivation_items.proofs.words.printable.Given as goal

abbrev pub invariant-loop-byte : goal.invariant-loop-byte
invariant-loop-byte l = l.word ≡ map printable_byte (take l.byte-index l.text)
