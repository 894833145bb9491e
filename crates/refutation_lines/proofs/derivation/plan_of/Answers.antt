use Rattle.std.proofs.Common.{List, ℕ, Bool, length, sym, ap, ◌∙◌}
use Rattle.std.proofs.lemmas.List.{length-map}
use Rattle.std.proofs.lemmas.List.FromFn.{length-map-range_with_len}
use Rattle.clause_form.specs.declared.clause.Clause.{Clause}
use Rattle.sort_check.specs.declared.line.GivenEntry.{GivenEntry}
use Rattle.given_parts.specs.declared.part.Part.{Part}
use Rattle.given_parts.specs.Owners.{owners_from}
use Rattle.given_parts.specs.Parts.{part_of}
use Rattle.refutation_lines.specs.Needs.{prints_input, uses_part}
use Rattle.refutation_lines.specs.Plans.{Refutation, refutation}
use Rattle.refutation_lines.proofs.PlanFacts.{owners_count, plan_is}
use Rattle.refutation_lines.proofs.derivation.plan_of.Goals as goal

pub used_parts-requires : goal.used_parts-requires
used_parts-requires c =
    ap (λ (bs : List Bool). length bs) (c.as_slice-marks.ensures ∙ c.in_ok-printed.ensures)
    ∙ length-map-range_with_len (prints_input c.as_slice-wanted.result.now c.args.members.now) 0 (length c.args.inputs.now)
    ∙ ap (λ (cs : List Clause). length cs) c.requires.inputs
    ∙ sym (owners_count 0 c.args.first c.args.given.now)
    ∙ sym (ap (λ (ps : List Part). length (owners_from 0 ps)) (c.as_slice-listed.ensures ∙ c.in_ok-parts.ensures))
    ∙ sym (ap (λ (os : List ℕ). length os) (c.as_slice-owned.ensures ∙ c.in_ok-owners.ensures))

pub numbers_of-requires-clause-count : goal.numbers_of-requires-clause-count
numbers_of-requires-clause-count c =
    ap (λ (bs : List Bool). length bs) (c.as_slice-chosen.ensures ∙ c.in_ok-used.ensures)
    ∙ length-map-range_with_len (uses_part c.as_slice-owned.result.now c.as_slice-marks.result.now c.args.last.now.origin) 0 (length c.args.given.now)
    ∙ sym (length-map c.args.given.now (λ (g : GivenEntry). part_of g.form))
    ∙ sym (ap (λ (ps : List Part). length ps) (c.as_slice-listed.ensures ∙ c.in_ok-parts.ensures))

pub returns : goal.returns
returns c =
    let r : Refutation = refutation c.args.given.now c.args.first c.args.inputs.now c.args.members.now c.args.last.now in
    plan_is r c.args.needed c.as_slice-wanted.result.now c.in_ok-parts.parts c.as_slice-listed.result.now c.in_ok-owners.owners c.as_slice-owned.result.now c.in_ok-printed.printed c.as_slice-marks.result.now c.in_ok-used.used c.as_slice-chosen.result.now c.in_ok-ranks.ranks c.as_slice-counts.result.now
    c.number_at-behind.result c.in_ok-places.places c.in_ok-numbers.numbers c.as_slice-wanted.ensures c.in_ok-parts.ensures c.as_slice-listed.ensures c.in_ok-owners.ensures c.as_slice-owned.ensures c.in_ok-printed.ensures c.as_slice-marks.ensures c.in_ok-used.ensures c.as_slice-chosen.ensures c.in_ok-ranks.ensures
    c.as_slice-counts.ensures c.number_at-behind.ensures c.in_ok-places.ensures c.in_ok-numbers.ensures.firsts c.in_ok-numbers.ensures.all
