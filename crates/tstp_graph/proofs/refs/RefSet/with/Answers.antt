use Rattle.std.proofs.Common.{sym, subst}
use Rattle.tstp_graph.specs.code.RefSets.{AreMembers}
use Rattle.tstp_graph.proofs.Resolving.{members_new}
use Rattle.tstp_graph.proofs.refs.RefSet.with.Goals as goal

pub returns-clause-members : goal.returns-clause-members
returns-clause-members c =
    subst (AreMembers c.note.new.self) (sym c.in_ok-push.ensures.ok) (members_new c.args.self.marks c.note.new.self c.args.self.refs c.args.parent c.requires c.in_ok-note.ensures.marks)
