use Rattle.std.proofs.Common.{take}
use Rattle.std.specs.List.{AllZip}
use Rattle.search_proofs.specs.code.Repeats.{IsMerged}
use Rattle.search_proofs.proofs.merging.merged_members.Given as goal

abbrev pub invariant-loop-member : goal.invariant-loop-member
invariant-loop-member l = AllZip IsMerged (take l.member-index l.members) l.made
