use Rattle.std.proofs.Common.{sym, subst, ◌∙◌}
use Rattle.rule_steps.specs.code.SlotFits.{AllFit}
use Rattle.clause_rules.proofs.Firsts.{ok_map}
use Rattle.rule_steps.proofs.FirstRule.{no_clause_by}
use Rattle.rule_steps.proofs.ResolutionLoops.{form_fits, parents_fit}
use Rattle.rule_steps.proofs.clause_rule.step_by.Goals as goal

pub among-requires-clause-clauses : goal.among-requires-clause-clauses
among-requires-clause-clauses g c = subst (AllFit c.args.sig.now) (sym (c.as_slice.ensures ∙ c.in_ok-clauses-in-Some.ensures)) (parents_fit c.args.sig.now c.args.parents.now c.requires.parents)

pub among-requires-clause-line : goal.among-requires-clause-line
among-requires-clause-line g c = form_fits c.args.sig.now c.args.line.now c.requires.line c.in-Some.line (sym c.in_ok-line.ensures ∙ c.in-Some.is)

pub returns-in_ok-clauses-in-Some : goal.returns-in_ok-clauses-in-Some
returns-in_ok-clauses-in-Some g c = ok_map c.among.result (λ found told. told c.args.parents.now c.args.line.now (c.as_slice.ensures ∙ c.in_ok-clauses-in-Some.ensures) (sym c.in_ok-line.ensures ∙ c.in-Some.is)) c.among.ensures

pub returns-in-None : goal.returns-in-None
returns-in-None g c = no_clause_by c.args.sig.now c.args.parents.now c.args.line.now g.R.ClauseRule.rule g.met.R.ClauseRule.clauses_alone (sym c.in_ok-line.ensures ∙ c.in-None.is)
