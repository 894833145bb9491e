use Rattle.clause_rules.proofs.Firsts.{ok_map}
use Rattle.rule_steps.proofs.Changing.{closed_site, no_site, few_of}
use Rattle.rule_steps.proofs.paramodulation_rule.may_clause_change.Goals as goal

pub may_change-requires : goal.may_change-requires
may_change-requires c = record { few = few_of c.args.search.now.sig.now c.args.search.now.clauses.now c.args.site.now.clause c.in-Some.into.now c.requires.clauses c.in-Some.ensures }

pub returns-in-Some : goal.returns-in-Some
returns-in-Some c = ok_map c.may_change.result (λ answer never is. closed_site c.args.search.now.sig.now c.args.search.now.clauses.now c.args.search.now.line.now c.args.site.now c.in-Some.into.now c.requires.clauses c.in-Some.ensures (never is)) c.may_change.ensures

pub returns-in-None : goal.returns-in-None
returns-in-None c = λ is. no_site c.args.search.now.sig.now c.args.search.now.clauses.now c.args.search.now.line.now c.args.site.now c.in-None.ensures
