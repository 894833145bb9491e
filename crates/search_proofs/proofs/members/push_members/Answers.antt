use Rattle.std.proofs.Common.{ap, arith, refl, length, get_or, take, List, ℕ}
use Rattle.std.specs.Prelude.{false, [], ◌∷◌}
use Rattle.std.proofs.lemmas.List.{length-append}
use Rattle.search_proofs.proofs.Passing.{step_passed}
use Rattle.search_proofs.proofs.members.push_members.Goals as goal

pub loop-at-preserved : goal.loop-at-preserved
loop-at-preserved c =
    let pushed = ap (λ (ns : List ℕ). length ns) c.in_ok-push.ensures.ok in
    let long = length-append c.loop-at.numbers (c.in_ok-number.number ∷ []) in
    let before = c.loop-at.invariant.size in
    record {
      size = omega arith;
      passed = λ needs.
          step_passed c.args.signature.now c.args.start c.args.members.now (take c.loop-at.at c.args.members.now) c.args.needed.now c.args.of_inputs.now c.loop-at.at c.index-members-at.result (get_or c.args.needed.now c.loop-at.at false) c.loop-at.numbers c.as_slice.result.now c.push.new.self c.in_ok-number.number c.args.proofs.now c.loop-at.proofs c.push_if_needed.new.proofs
          needs c.requires.made c.loop-at-test.true c.requires.needed refl c.index-members-at.is refl c.loop-at.invariant.size c.as_slice.ensures (c.loop-at.invariant.passed needs)
          c.in_ok-number.ensures
          c.in_ok-push.ensures.ok;
    }
