use Rattle.std.proofs.Common.{ap, arith, length, map, true, false, ◌∙◌}
use Rattle.derive_kit.proofs.Built.{ok_map}
use Rattle.flat_proofs.specs.code.Members.{seen}
use Rattle.flat_proofs.proofs.Halves.{tree_gathers}
use Rattle.flat_proofs.proofs.MemberFacts.{seen_count}
use Rattle.flat_proofs.proofs.halving.at_once.Goals as goal

pub backwards-requires-clause-many : goal.backwards-requires-clause-many
backwards-requires-clause-many c = omega (arith, c.requires.room.members, seen_count c.args.members.now)

pub backwards-requires-clause-few : goal.backwards-requires-clause-few
backwards-requires-clause-few c = let same = ap length (c.as_slice-sorts.ensures ∙ c.requires.sorts) in omega (arith, c.requires.room.few)

pub returns : goal.returns
returns c = ok_map c.backwards.result (λ made e. tree_gathers true false (map seen c.args.members.now) made e) c.backwards.ensures
