use Rattle.std.proofs.Common.{◌≡◌, ◌≤◌, ◌++◌, drop, map, length}
use Rattle.flat_form.specs.Flat.{sorts_of}
use Rattle.flat_proofs.specs.code.Gathering.{and_arms}
use Rattle.flat_proofs.specs.code.Members.{seen}
use Rattle.flat_proofs.proofs.gathering.and_arms.Given as goal

abbrev pub invariant-loop-number : goal.invariant-loop-number
invariant-loop-number l = record {
  made : l.made ++ and_arms l.number (map seen (drop l.number l.members)) ≡ and_arms 0 (map seen l.members);
  left : l.left ≡ length (sorts_of (map seen (drop l.number l.members)));
}
