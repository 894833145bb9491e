use Rattle.std.proofs.Common.{◌≡◌, ◌≤◌, ◌++◌, [], take, drop, map, length}
use Rattle.flat_form.specs.Flat.{sorts_of}
use Rattle.flat_proofs.specs.code.Gathering.{back_arms}
use Rattle.flat_proofs.specs.code.Members.{seen}
use Rattle.flat_proofs.proofs.gathering.back_arms.Given as goal

abbrev pub invariant-loop-number : goal.invariant-loop-number
invariant-loop-number l = record {
  made : l.made ++ back_arms (take l.before l.sorts) l.number (map seen (drop l.number l.members)) ≡ back_arms [] 0 (map seen l.members);
  later : drop l.before l.sorts ≡ sorts_of (map seen (drop l.number l.members));
  fits : l.before ≤ length l.sorts;
}
