use Rattle.std.proofs.Common.{◌∙◌, ap, subst}
use Rattle.std.specs.Prelude.{◌↔◌, IsTrue}
use Rattle.std.proofs.lemmas.Result.{on_ok_weaker}
use Rattle.clause_form.specs.declared.clause.Clause.{Clause}
use Rattle.clause_form.specs.Covers.{IsTrivial}
use Rattle.clause_order.specs.Weights.{clause_weight}
use Rattle.saturation.proofs.Placed.{placed_nowhere, placed_known, placed_heavy, placed_queued}
use Rattle.saturation.proofs.sifting.place.Goals as goal

pub returns-then-is_trivial : goal.returns-then-is_trivial
returns-then-is_trivial c =
    placed_nowhere c.args.bound c.args.member c.args.queue.now c.args.heavy.now c.is_trivial.result
    (subst (λ (e : Clause). IsTrue c.is_trivial.result ↔ IsTrivial e.lits) c.in_ok-clause.ensures c.is_trivial.ensures) c.if-is_trivial.true

pub push-requires-else-weight-bound : goal.push-requires-else-weight-bound
push-requires-else-weight-bound c = c.clause_weight_of-weight.ensures ∙ ap clause_weight c.in_ok-clause.ensures

pub returns-then-has : goal.returns-then-has
returns-then-has c =
    let found = c.has.ensures c.if-has.true in
    placed_known c.args.bound c.args.member found.0 c.args.queue.now c.args.heavy.now found.1 found.2

pub returns-then-weight-bound : goal.returns-then-weight-bound
returns-then-weight-bound c =
    placed_heavy c.args.bound c.clause_weight_of-weight.result c.args.member c.args.queue.now c.args.heavy.now c.push.new.self c.is_trivial.result
    (subst (λ (e : Clause). IsTrue c.is_trivial.result ↔ IsTrivial e.lits) c.in_ok-clause.ensures c.is_trivial.ensures) c.if-is_trivial.false
    (c.clause_weight_of-weight.ensures ∙ ap clause_weight c.in_ok-clause.ensures) c.if-weight-bound.true c.in_ok-push.ensures.ok

pub returns : goal.returns
returns c =
    on_ok_weaker c.push-else-weight-bound.result
    (placed_queued c.args.bound c.clause_weight_of-weight.result c.args.member c.args.queue.now c.args.heavy.now c.push-else-weight-bound.new.self c.is_trivial.result
    (subst (λ (e : Clause). IsTrue c.is_trivial.result ↔ IsTrivial e.lits) c.in_ok-clause.ensures c.is_trivial.ensures) c.if-is_trivial.false
    (c.clause_weight_of-weight.ensures ∙ ap clause_weight c.in_ok-clause.ensures) c.if-weight-bound.false)
    c.push-else-weight-bound.ensures
