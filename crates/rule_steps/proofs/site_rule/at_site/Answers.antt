use Rattle.std.proofs.Common.{below_more}
use Rattle.std.proofs.lemmas.Option.{MatchOption-at_none, slice_get-get_or}
use Rattle.rule_steps.proofs.SiteLoops.{told_here, told_of_all}
use Rattle.rule_steps.proofs.site_rule.at_site.Goals as goal

pub loop-k-preserved : goal.loop-k-preserved
loop-k-preserved g c =
    below_more _ _ c.loop-k.invariant
    (told_here (g.R.SiteRule.Never c.args.search.now c.args.site.now) c.args.readings.now c.loop-k.k _ (slice_get-get_or c.args.readings.now c.loop-k.k _ c.loop-k-test.true)
    (MatchOption-at_none _ _ c.in_default.is c.in_ok-found.ensures))

pub returns : goal.returns
returns g c = told_of_all (g.R.SiteRule.Never c.args.search.now c.args.site.now) c.args.readings.now c.loop-k.k c.loop-k-test.false c.loop-k.invariant
