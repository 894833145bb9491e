use Rattle.std.proofs.Common.{ℕ, List, Bool, length, subst, sym, ap, ◌∙◌}
use Rattle.given_parts.specs.declared.part.Part.{Part}
use Rattle.refutation_lines.specs.Plans.{Refutation, refutation}
use Rattle.refutation_lines.specs.code.Printable.{AreRoomy}
use Rattle.refutation_lines.proofs.PlanFacts.{all_lines}
use Rattle.refutation_lines.proofs.derivation.lines_of.Goals as goal

pub push_given-requires : goal.push_given-requires
push_given-requires c = ap (λ (bs : List Bool). length bs) c.as_slice-used.ensures ∙ c.requires.used

pub push_skolemized-requires-clause-count : goal.push_skolemized-requires-clause-count
push_skolemized-requires-clause-count c = ap (λ (bs : List Bool). length bs) c.as_slice-used.ensures ∙ c.requires.parts ∙ sym (ap (λ (ps : List Part). length ps) c.as_slice-parts.ensures)

pub push_skolemized-requires-clause-roomy : goal.push_skolemized-requires-clause-roomy
push_skolemized-requires-clause-roomy c =
    subst (λ (ns : List ℕ). AreRoomy ns c.as_slice-parts.result.now) (sym c.as_slice-firsts.ensures)
    (subst (λ (ps : List Part). AreRoomy c.args.plan.now.numbers.firsts ps) (sym c.as_slice-parts.ensures) c.requires.roomy)

pub push_inputs-requires : goal.push_inputs-requires
push_inputs-requires c = ap (λ (bs : List Bool). length bs) c.as_slice-printed.ensures ∙ c.requires.printed

pub push_inferred-requires : goal.push_inferred-requires
push_inferred-requires c = ap (λ (bs : List Bool). length bs) c.as_slice-needed.ensures ∙ c.requires.needed

pub returns : goal.returns
returns c =
    let r : Refutation = refutation c.args.given.now c.args.plan.now.first c.args.inputs.now c.args.members.now c.args.last.now in
    all_lines r c.args.plan.now c.as_slice-used.result.now c.as_slice-printed.result.now c.as_slice-needed.result.now c.as_slice-parts.result.now c.as_slice-firsts.result.now c.new-lines.result c.push_given.new.lines c.push_skolemized.new.lines c.push_inputs.new.lines c.push_inferred.new.lines c.push.new.self
    c.in_ok-last_line.field-0 c.as_slice-used.ensures c.as_slice-firsts.ensures c.as_slice-parts.ensures c.as_slice-printed.ensures c.as_slice-needed.ensures c.new-lines.ensures c.in_ok-push_given.ensures c.in_ok-push_skolemized.ensures c.in_ok-push_inputs.ensures c.in_ok-push_inferred.ensures
    c.in_ok-last_line.ensures c.in_ok-push.ensures.ok
