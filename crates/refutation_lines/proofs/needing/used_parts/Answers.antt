use Rattle.std.proofs.Common.{ℕ, ◌==◌, [], ◌∷◌, get_or}
use Rattle.std.proofs.lemmas.List.{get_or_default}
use Rattle.given_parts.specs.Chosen.{chosen}
use Rattle.refutation_lines.specs.Needs.{owner_of}
use Rattle.refutation_lines.proofs.NeedFacts.{marked_first, marked_step, marked_all, marks_are_both}
use Rattle.refutation_lines.proofs.needing.used_parts.Goals as goal

pub loop-at-init : goal.loop-at-init
loop-at-init c = marked_first ℕ ℕ (λ i owner. owner ∷ []) (λ k o. o == k) c.args.count c.args.printed.now c.args.owners.now c.in_ok-marks.marks c.in_ok-marks.ensures

pub loop-at-preserved : goal.loop-at-preserved
loop-at-preserved c =
    marked_step ℕ ℕ (λ i owner. owner ∷ []) (λ k o. o == k) c.args.count c.args.printed.now c.args.owners.now c.loop-at.at (get_or c.args.owners.now c.loop-at.at 0) c.loop-at.marks c.mark_if.new.marks c.requires c.loop-at-test.true (get_or_default c.args.owners.now c.loop-at.at 0 (get_or c.args.owners.now c.loop-at.at 0) c.loop-at-test.true) c.mark_if.ensures c.loop-at.invariant

pub returns : goal.returns
returns c =
    marks_are_both ℕ (λ k o. o == k) c.args.count (chosen (λ i owner. owner ∷ []) c.args.printed.now c.args.owners.now) (owner_of c.args.owners.now c.args.last.now) c.loop-at.marks c.mark_owner.new.marks
    (marked_all ℕ ℕ (λ i owner. owner ∷ []) (λ k o. o == k) c.args.count c.args.printed.now c.args.owners.now c.loop-at.at c.loop-at.marks c.loop-at-test.false c.loop-at.invariant) c.mark_owner.ensures
