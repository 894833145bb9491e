use Rattle.std.proofs.Common.{sym, ◌∙◌}
use Rattle.rule_steps.proofs.CoverEnds.{cover_answer}
use Rattle.clause_rules.proofs.Firsts.{ok_map}
use Rattle.rule_steps.proofs.ResolutionLoops.{form_fits}
use Rattle.rule_steps.proofs.cover_rule.cover_step.Goals as goal

pub cover_among-requires-clause-line : goal.cover_among-requires-clause-line
cover_among-requires-clause-line c = form_fits c.args.sig.now c.args.line.now c.requires.line c.in-Some.line (sym c.in_ok-line.ensures ∙ c.in-Some.is)

pub returns-in-Some : goal.returns-in-Some
returns-in-Some c = ok_map c.cover_among.result (cover_answer c.args.sig.now c.args.parents.now c.args.line.now c.in-Some.line (sym c.in_ok-line.ensures ∙ c.in-Some.is)) c.cover_among.ensures
