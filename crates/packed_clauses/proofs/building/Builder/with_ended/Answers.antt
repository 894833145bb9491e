use Rattle.packed_clauses.proofs.Read.{ended_with}
use Rattle.packed_clauses.proofs.building.Builder.with_ended.Goals as goal

pub returns : goal.returns
returns c = ended_with c.args.self c.pop.new.self c.in-Some.last c.push.new.self c.in-Some.ensures c.in_ok-push.ensures.ok
