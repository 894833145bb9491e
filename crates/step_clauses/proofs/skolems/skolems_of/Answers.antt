use Rattle.std.proofs.Common.{arith, ap, ◌∙◌, ◌∷◌, ◌++◌, []}
use Rattle.fof_terms.specs.declared.signature.Symbol.{Symbol}
use Rattle.step_clauses.proofs.SkolemsFacts.{as_skolem, skolems_more}
use Rattle.step_clauses.proofs.skolems.skolems_of.Goals as goal

pub loop-existential-preserved : goal.loop-existential-preserved
loop-existential-preserved c = (
  omega (arith, c.loop-existential.invariant.0),
  skolems_more c.args.next c.args.existentials.now c.loop-existential.existential-index c.loop-existential.id c.existential-item.result c.loop-existential.skolems c.push.new.self c.loop-existential-test.true c.existential-item.is c.loop-existential.invariant.0 c.loop-existential.invariant.1
      (c.in_ok-push.ensures.ok ∙ ap (λ (x : Symbol). c.loop-existential.skolems ++ as_skolem x c.loop-existential.id ∷ []) c.in_ok-symbol_of.ensures),
)
