use Rattle.std.proofs.Common.{Bool, subst, inl, inr, ap, ◌∙◌, ◌+◌}
use Rattle.chain_proofs.specs.code.Keys.{Adds}
use Rattle.chain_proofs.proofs.Stepping.{advanced}
use Rattle.chain_proofs.proofs.stretching.advance.Goals as goal

pub returns-in_ok-push-clause-advanced : goal.returns-in_ok-push-clause-advanced
returns-in_ok-push-clause-advanced c =
    let adds = subst (λ (b : Bool). Adds b c.args.known.now.lits c.args.lit c.add.new.self.lits) c.if-branch.true c.in_ok-add.ensures.added in
    advanced c.args.base c.in_ok-count.count c.args.fact.now c.args.lit c.args.known.now.lits c.add.new.self.lits c.args.steps.now c.push.new.self c.in_ok-refuted.refuted c.in_ok-part.part c.in_ok-fact.fact (c.in_ok-count.ensures ∙ ap (λ n. n + 1) c.len.ensures) c.in_ok-refuted.ensures
    c.in_ok-part.ensures c.in_ok-fact.ensures (inl (adds, c.in_ok-push.ensures.ok))
