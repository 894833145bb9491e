use Rattle.std.proofs.Common.{◌≡◌, [], drop}
use Rattle.tstp_graph.specs.code.Meaning.{means_in}
use Rattle.tstp_graph.specs.code.Meaning.{resolved}
use Rattle.tstp_graph.specs.code.RefSets.{AreMembers}
use Rattle.tstp_graph.proofs.meaning.resolve.Given as goal

abbrev pub invariant-loop-cite : goal.invariant-loop-cite
invariant-loop-cite l = record {
  members : AreMembers l.set.marks l.set.refs;
  so_far : resolved l.is_strict (means_in l.scope) [] l.cites ≡ resolved l.is_strict (means_in l.scope) l.set.refs (drop l.cite-index l.cites);
}
