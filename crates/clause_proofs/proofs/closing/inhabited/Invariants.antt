use Rattle.std.proofs.Common.{◌≡◌, drop}
use Rattle.clause_proofs.specs.Closed.{inhabit_tree}
use Rattle.clause_proofs.proofs.closing.inhabited.Given as goal

abbrev pub invariant-loop-sort : goal.invariant-loop-sort
invariant-loop-sort l = inhabit_tree (drop l.sort-index l.more) l.whole ≡ inhabit_tree l.more l.fn.part
