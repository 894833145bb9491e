use Rattle.std.proofs.Common.{below_more}
use Rattle.std.proofs.lemmas.Option.{MatchOption-at_none}
use Rattle.clause_rules.proofs.Firsts.{there_at}
use Rattle.rule_steps.specs.code.SiteSearch.{NeverWith}
use Rattle.rule_steps.proofs.SiteLoops.{told_here, told_of_all}
use Rattle.rule_steps.proofs.site_rule.at_sites.Goals as goal

pub loop-m-preserved : goal.loop-m-preserved
loop-m-preserved g c =
    below_more _ _ c.loop-m.invariant
    (told_here (NeverWith (g.R.SiteRule.Never c.args.search.now) c.args.readings.now) c.args.sites.now c.loop-m.m _ (there_at c.args.sites.now c.loop-m.m c.index-sites-m.result c.loop-m-test.true c.index-sites-m.is)
    (MatchOption-at_none _ _ c.in_default.is c.in_ok-found.ensures))

pub returns : goal.returns
returns g c = told_of_all (NeverWith (g.R.SiteRule.Never c.args.search.now) c.args.readings.now) c.args.sites.now c.loop-m.m c.loop-m-test.false c.loop-m.invariant
