use Rattle.std.proofs.Common.{◌≡◌, ◌+◌, ◌++◌, drop, map, length}
use Rattle.flat_form.specs.Flat.{sorts_of, bodies_of}
use Rattle.flat_proofs.specs.code.Members.{seen}
use Rattle.flat_proofs.proofs.members.bodies_of_all.Given as goal

abbrev pub invariant-loop-number : goal.invariant-loop-number
invariant-loop-number l = record {
  made : l.made ++ bodies_of l.before (map seen (drop l.number l.members)) ≡ bodies_of 0 (map seen l.members);
  count : l.before + length (sorts_of (map seen (drop l.number l.members))) ≡ l.count;
}
