use Rattle.std.proofs.Common.{refl}
use Rattle.tstp_graph.proofs.Places.{holds_none}
use Rattle.tstp_graph.proofs.names.NameTable.new.Goals as goal

pub returns-clause-holds : goal.returns-clause-holds
returns-clause-holds c = holds_none _ c.new.ensures c.new-2.ensures refl
