use Rattle.std.proofs.Common.{◌≡◌, drop}
use Rattle.tstp_graph.specs.Meaning.{with_refs}
use Rattle.tstp_graph.specs.code.RefSets.{AreMembers}
use Rattle.tstp_graph.proofs.refs.RefSet.with_all.Given as goal

abbrev pub invariant-loop-parent : goal.invariant-loop-parent
invariant-loop-parent l = record {
  members : AreMembers l.set.marks l.set.refs;
  so_far : with_refs l.fn.self.refs l.parents ≡ with_refs l.set.refs (drop l.parent-index l.parents);
}
