use Rattle.std.proofs.Common.{◌≡◌, length}
use Rattle.search_proofs.specs.code.Marks.{NameMarked}
use Rattle.search_proofs.specs.code.Members.{PassMembers}
use Rattle.search_proofs.proofs.members.push_members.Given as goal

abbrev pub invariant-loop-at : goal.invariant-loop-at
invariant-loop-at l = record {
  size : length l.numbers ≡ l.at;
  passed : NameMarked l.members l.needed → PassMembers l.signature l.start l.members l.needed l.of_inputs l.numbers l.initial.proofs l.proofs;
}
