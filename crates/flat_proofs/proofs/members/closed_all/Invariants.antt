use Rattle.std.proofs.Common.{◌≡◌, take, map}
use Rattle.flat_proofs.specs.code.Loose.{closed_of}
use Rattle.flat_proofs.specs.code.Members.{seen}
use Rattle.flat_proofs.proofs.members.closed_all.Given as goal

abbrev pub invariant-loop-member : goal.invariant-loop-member
invariant-loop-member l = l.made ≡ map closed_of (map seen (take l.member-index l.members))
