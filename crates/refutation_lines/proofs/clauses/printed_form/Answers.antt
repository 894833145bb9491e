use Rattle.std.proofs.Common.{ℕ, List, ap, ◌∙◌}
use Rattle.clause_form.specs.declared.clause.Clause.{Clause}
use Rattle.clause_form.specs.ClauseView.{closed}
use Rattle.printed_clauses.specs.Renumbered.{new_number, renumbered_clause}
use Rattle.printed_clauses.specs.Trimmed.{trimmed}
use Rattle.refutation_lines.proofs.clauses.printed_form.Goals as goal

pub returns : goal.returns
returns c =
    c.in_ok-close.ensures
    ∙ ap (λ (d : Clause). closed d) c.in_ok-trimmed.ensures
    ∙ ap (λ (d : Clause). closed (trimmed d)) c.in_ok-renumbered.ensures
    ∙ ap (λ (ns : List ℕ). closed (trimmed (renumbered_clause (new_number c.args.plan.now.first ns) c.args.clause.now))) c.as_slice.ensures
