use Rattle.search_proofs.proofs.Contradicted.{found_opposite}
use Rattle.search_proofs.proofs.contradicting.opposite_of.Goals as goal

pub returns-then-is_needed_opposite : goal.returns-then-is_needed_opposite
returns-then-is_needed_opposite c = found_opposite c.args.members.now c.loop-at.at c.index-members-at.result c.args.lit.now c.loop-at-test.true c.index-members-at.is (c.is_needed_opposite.ensures c.if-is_needed_opposite.true)
