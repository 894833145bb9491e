use Rattle.std.proofs.Common.{ℕ, ◌<◌, ◌≡◌, Some, slice_get}
use Rattle.rule_steps.specs.declared.sites.Site.{Site}
use Rattle.rule_steps.specs.code.SiteSearch.{NeverWith}
use Rattle.rule_steps.proofs.site_rule.at_sites.Given as goal

abbrev pub invariant-loop-m : goal.invariant-loop-m
invariant-loop-m g l = (m : ℕ) → m < l.m → (site : Site) → slice_get l.sites m ≡ Some site → NeverWith (g.R.SiteRule.Never l.search) l.readings site
