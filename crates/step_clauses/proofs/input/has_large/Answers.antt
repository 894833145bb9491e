use Rattle.std.proofs.Common.{ap, sym, ◌∙◌, ◌||◌}
use Rattle.step_clauses.specs.Wide.{is_large}
use Rattle.step_clauses.proofs.InputFacts.{step_large}
use Rattle.step_clauses.proofs.input.has_large.Goals as goal

pub returns-then-has_large_parent : goal.returns-then-has_large_parent
returns-then-has_large_parent c = sym (step_large c.args.parents.now c.args.line.now ∙ ap (λ b. b || is_large c.args.line.now) (sym c.has_large_parent.ensures ∙ c.if-has_large_parent.true))

pub returns : goal.returns
returns c = c.is_large_form.ensures ∙ sym (step_large c.args.parents.now c.args.line.now ∙ ap (λ b. b || is_large c.args.line.now) (sym c.has_large_parent.ensures ∙ c.if-has_large_parent.false))
