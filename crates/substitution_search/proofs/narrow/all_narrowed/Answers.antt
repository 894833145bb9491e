use Rattle.std.proofs.Common.{ap, sym, take, ◌+◌, ◌∷◌, ◌++◌, [], ◌∙◌}
use Rattle.std.proofs.lemmas.List.{take_more}
use Rattle.substitution_search.proofs.Narrowing.{narrow_more}
use Rattle.substitution_search.proofs.narrow.all_narrowed.Goals as goal

pub loop-lit-preserved : goal.loop-lit-preserved
loop-lit-preserved c =
    let before = take c.loop-lit.lit-index c.args.lits.now in
    narrow_more c.args.targets.now before (take (c.loop-lit.lit-index + 1) c.args.lits.now) c.lit-item.result c.loop-lit.goals c.push.new.self c.in-Some.goal
    (take_more c.args.lits.now c.loop-lit.lit-index c.lit-item.result c.loop-lit-test.true ∙ ap (λ k. before ++ k ∷ []) (sym c.lit-item.is)) c.loop-lit.invariant (rw c.in-Some.is at c.in_ok-goal.ensures) c.in_ok-push-in-Some.ensures.ok
