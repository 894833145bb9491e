use Rattle.std.proofs.Common.{◌≡◌, ◌+◌, ◌-◌, drop, map, length}
use Rattle.flat_form.specs.Flat.{sorts_of}
use Rattle.flat_proofs.specs.code.Gathering.{refuted}
use Rattle.flat_proofs.specs.code.Members.{seen}
use Rattle.flat_proofs.proofs.denying.refuted.Given as goal

abbrev pub invariant-loop-done : goal.invariant-loop-done
invariant-loop-done l = record {
  made : l.made ≡ refuted l.closed (length l.members - l.done) l.before (map seen (drop (length l.members - l.done) l.members));
  count : l.before + length (sorts_of (map seen (drop (length l.members - l.done) l.members))) ≡ l.count;
}
