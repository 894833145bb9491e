use Rattle.std.proofs.Common.{refl}
use Rattle.tstp_graph.proofs.Places.{added_with}
use Rattle.tstp_graph.proofs.names.NameTable.add.Goals as goal

pub returns-clause-holds : goal.returns-clause-holds
returns-clause-holds c = added_with c.args.self.now c.note.new.self _ c.args.name.now c.args.self.now.count refl refl refl c.in_ok-note.ensures.adds refl
