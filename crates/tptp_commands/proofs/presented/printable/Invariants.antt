use Rattle.std.proofs.Common.{◌≡◌, take, map}
use Rattle.derivation_items.specs.Words.{printable_byte}
use Rattle.tptp_commands.proofs.presented.printable.Given as goal

abbrev pub invariant-loop-byte : goal.invariant-loop-byte
invariant-loop-byte l = l.word.items ≡ map printable_byte (take l.byte-index l.name)
