use Rattle.std.proofs.Common.{◌≡◌, ◌++◌, take}
use Rattle.std.specs.List.{flat_map}
use Rattle.proof_log.specs.Entries.{escaped}
use Rattle.proof_log.proofs.line.put_quoted.Given as goal

abbrev pub invariant-loop-byte : goal.invariant-loop-byte
invariant-loop-byte l = l.text.items ≡ (l.initial.text.items ++ flat_map escaped (take l.byte-index l.name))
