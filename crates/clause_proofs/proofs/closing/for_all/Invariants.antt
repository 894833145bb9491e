use Rattle.std.proofs.Common.{◌≡◌, ◌-◌, drop, length}
use Rattle.clause_proofs.specs.Closed.{all_tree}
use Rattle.clause_proofs.proofs.closing.for_all.Given as goal

abbrev pub invariant-loop-i : goal.invariant-loop-i
invariant-loop-i l = l.whole ≡ all_tree (drop (length l.sorts - l.i) l.sorts) l.fn.part
