use Rattle.std.proofs.Common.{◌≡◌, map, take}
use Rattle.sort_check.specs.declared.line.GivenEntry.{GivenEntry}
use Rattle.given_parts.specs.Parts.{part_of}
use Rattle.given_parts.proofs.part.parts_of.Given as goal

abbrev pub invariant-loop-entry : goal.invariant-loop-entry
invariant-loop-entry l = l.parts ≡ map (λ (g : GivenEntry). part_of g.form) (take l.entry-index l.given)
