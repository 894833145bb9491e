use Rattle.std.proofs.Common.{ap, arith, length}
use Rattle.flat_proofs.proofs.MemberFacts.{seen_count}
use Rattle.flat_proofs.proofs.halving.grouped.Goals as goal

pub bodies_of_all-requires-clause-many : goal.bodies_of_all-requires-clause-many
bodies_of_all-requires-clause-many c = omega (arith, c.requires.members, seen_count c.args.members.now)

pub bodies_of_all-requires-clause-few : goal.bodies_of_all-requires-clause-few
bodies_of_all-requires-clause-few c = let same = ap length c.in_ok-sorts.ensures in omega (arith, c.requires.few, c.len.ensures)
