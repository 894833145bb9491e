use Rattle.std.proofs.Common.{sym, ◌∙◌}
use Rattle.derive_kit.proofs.Built.{ok_map}
use Rattle.rule_steps.proofs.ResolutionLoops.{form_fits}
use Rattle.split_defs.proofs.split.split_step.Goals as goal

pub split_clause-requires-clause-line : goal.split_clause-requires-clause-line
split_clause-requires-clause-line c = rw c.signature.ensures (form_fits c.args.theory.now.vocabulary c.args.line.now c.requires.line c.in-Some.line (sym c.in_ok-line.ensures ∙ c.in-Some.is))

pub returns-in-Some : goal.returns-in-Some
returns-in-Some c = ok_map c.split_clause.result (λ answer f. f c.args.line.now (sym c.in_ok-line.ensures ∙ c.in-Some.is)) (rw c.signature.ensures at c.split_clause.ensures)
