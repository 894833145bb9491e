use Rattle.std.proofs.Common.{sym, ◌∙◌}
use Rattle.clause_rules.proofs.Firsts.{ok_map}
use Rattle.rule_steps.proofs.FirstRule.{no_clause}
use Rattle.rule_steps.proofs.ResolutionLoops.{form_fits}
use Rattle.rule_steps.proofs.recognising.by_form.Goals as goal

pub by_clause-requires-clause-line : goal.by_clause-requires-clause-line
by_clause-requires-clause-line c = form_fits c.args.sig.now c.args.line.now c.requires.line c.in-Some.clause (sym c.in_ok-clause.ensures ∙ c.in-Some.is)

pub returns-in-Some : goal.returns-in-Some
returns-in-Some c = ok_map c.by_clause.result (λ answer told. told c.args.line.now (sym c.in_ok-clause.ensures ∙ c.in-Some.is)) c.by_clause.ensures

pub returns-in-None : goal.returns-in-None
returns-in-None c = no_clause c.args.sig.now c.args.parents.now c.args.line.now (sym c.in_ok-clause.ensures ∙ c.in-None.is)
