use Rattle.rule_steps.proofs.ParamodulationCode.{none_with, shown_with}
use Rattle.rule_steps.proofs.paramodulation_rule.paramodulation_at.Goals as goal

pub returns-in-Some : goal.returns-in-Some
returns-in-Some c = shown_with c.args.search.now.sig.now c.args.search.now.clauses.now c.args.search.now.line.now c.args.site.now c.args.reading.now c.in_ok-found.found c.in-Some.subst c.justified.result c.in-Some.is c.in_ok-found.ensures c.justified.ensures

pub returns-in-None : goal.returns-in-None
returns-in-None c = none_with c.args.search.now.sig.now c.args.search.now.clauses.now c.args.search.now.line.now c.args.site.now c.args.reading.now c.in_ok-found.found c.in-None.is c.in_ok-found.ensures
