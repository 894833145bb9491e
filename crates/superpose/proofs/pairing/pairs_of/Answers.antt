use Rattle.std.proofs.Common.{ap, ◌∙◌}
use Rattle.clause_rules.specs.Ways.{pair_of}
use Rattle.clause_rules.proofs.Zips.{zip_grows}
use Rattle.superpose.proofs.pairing.pairs_of.Goals as goal

pub loop-at-preserved : goal.loop-at-preserved
loop-at-preserved c =
    zip_grows c.args.first.now c.args.second.now c.loop-at.at c.index-first-at.result c.index-second-at.result c.loop-at.pairs c.push.new.self (pair_of c.in_ok-copy.field-0 c.in_ok-copy-2.field-0) c.loop-at-test.true c.requires c.index-first-at.is c.index-second-at.is c.loop-at.invariant (ap (λ x. pair_of x c.in_ok-copy-2.field-0) c.in_ok-copy.ensures ∙ ap (pair_of c.index-first-at.result) c.in_ok-copy-2.ensures) c.in_ok-push.ensures.ok
