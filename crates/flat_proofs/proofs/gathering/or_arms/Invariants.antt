use Rattle.std.proofs.Common.{◌≡◌, ◌≤◌, ◌++◌, drop, map, length}
use Rattle.flat_form.specs.Flat.{sorts_of}
use Rattle.flat_proofs.specs.code.Gathering.{or_arms}
use Rattle.flat_proofs.specs.code.Members.{seen}
use Rattle.flat_proofs.proofs.gathering.or_arms.Given as goal

abbrev pub invariant-loop-number : goal.invariant-loop-number
invariant-loop-number l = record {
  made : l.made ++ or_arms l.bodies l.number (map seen (drop l.number l.members)) ≡ or_arms l.bodies 0 (map seen l.members);
  left : l.left ≡ length (sorts_of (map seen (drop l.number l.members)));
}
