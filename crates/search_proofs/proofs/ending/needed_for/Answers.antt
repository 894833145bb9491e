use Rattle.std.proofs.Common.{ap, sym, ◌∙◌, List, ℕ, length, arith}
use Rattle.std.specs.Prelude.{Bool, slice_get}
use Rattle.search_proofs.proofs.Contradicted.{clause_within, listed_within, needed_for}
use Rattle.search_proofs.proofs.Sweeping.{set_count}
use Rattle.search_proofs.proofs.ending.needed_for.Goals as goal

pub set-requires : goal.set-requires
set-requires c = let lt = clause_within c.args.members.now c.args.contradiction.now c.requires.contradicts in omega (arith, c.in_ok-marks.ensures.count)

pub mark_all-requires : goal.mark_all-requires
mark_all-requires c i at =
    let lt = listed_within c.args.members.now c.args.contradiction.now c.requires.contradicts i (at.0, ap (λ (ps : List ℕ). slice_get ps at.0) (sym c.as_slice.ensures) ∙ at.1) in
    let count = ap (λ (bs : List Bool). length bs) c.set.ensures ∙ set_count c.in_ok-marks.marks c.args.contradiction.now.clause in
    omega (arith, c.in_ok-marks.ensures.count)

pub sweep-requires-clause-size : goal.sweep-requires-clause-size
sweep-requires-clause-size c = c.mark_all.ensures.count ∙ (ap (λ (bs : List Bool). length bs) c.set.ensures ∙ (set_count c.in_ok-marks.marks c.args.contradiction.now.clause ∙ c.in_ok-marks.ensures.count))

pub returns : goal.returns
returns c =
    needed_for c.args.members.now c.args.contradiction.now c.as_slice.result.now c.in_ok-marks.marks c.set.new.self c.mark_all.new.marks c.sweep.new.marks c.requires.contradicts c.as_slice.ensures c.in_ok-marks.ensures c.set.ensures c.mark_all.ensures c.sweep.ensures
