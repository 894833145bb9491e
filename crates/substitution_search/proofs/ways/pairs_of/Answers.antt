use Rattle.clause_rules.proofs.Zips.{zip_grows}
use Rattle.substitution_search.proofs.ways.pairs_of.Goals as goal

pub loop-at-preserved : goal.loop-at-preserved
loop-at-preserved c =
    zip_grows c.args.left.now c.args.right.now c.loop-at.at c.index-left-at.result c.index-right-at.result c.loop-at.pairs c.push.new.self c.in_ok-pair_of.field-0 c.loop-at-test.true c.requires c.index-left-at.is c.index-right-at.is c.loop-at.invariant c.in_ok-pair_of.ensures c.in_ok-push.ensures.ok
