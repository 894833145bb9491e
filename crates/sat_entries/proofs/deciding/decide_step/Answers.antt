use Rattle.std.proofs.Common.{List, subst, ◌∙◌}
use Rattle.clause_form.specs.Paths.{forms_of}
use Rattle.clause_form.specs.declared.clause.Clause.{Clause}
use Rattle.sat_step.specs.Decisions.{IsDecision}
use Rattle.sat_step.specs.declared.decision.Decision.TheVariants.{Refuted, Valuation}
use Rattle.sat_step.proofs.Deciding.{decides}
use Rattle.sat_entries.proofs.deciding.decide_step.Goals as goal

pub returns-in-Refuted : goal.returns-in-Refuted
returns-in-Refuted c =
    let step = c.in_ok-is_propositional.ensures.0 c.if-not-is_propositional.false in
    let decision = subst (λ (cs : List Clause). IsDecision cs (Refuted c.in-Refuted.log)) (c.as_slice-clauses.ensures ∙ c.in_ok-clauses.ensures) (subst (IsDecision c.as_slice-clauses.result.now) c.in-Refuted.is c.in_ok-log.ensures) in
    record { propositional = step; entailed = decides (forms_of c.args.parents.now) c.args.line.now (Refuted c.in-Refuted.log) step decision; derived = c.in_ok-entries-in-Refuted.ensures }

pub returns : goal.returns
returns c =
    let decision = subst (λ (cs : List Clause). IsDecision cs (Valuation c.in-Valuation.field-0)) (c.as_slice-clauses.ensures ∙ c.in_ok-clauses.ensures) (subst (IsDecision c.as_slice-clauses.result.now) c.in-Valuation.is c.in_ok-log.ensures) in
    λ step. decides (forms_of c.args.parents.now) c.args.line.now (Valuation c.in-Valuation.field-0) step decision
