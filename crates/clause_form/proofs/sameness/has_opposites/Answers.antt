use Rattle.clause_form.specs.Covers.{AreComplementary, HasOne}
use Rattle.clause_form.proofs.Ones.{none_more, none_found}
use Rattle.clause_form.proofs.sameness.has_opposites.Goals as goal

pub loop-lit-preserved : goal.loop-lit-preserved
loop-lit-preserved c =
    none_more (λ k. HasOne (AreComplementary k) c.args.lits.now) c.args.lits.now c.loop-lit.lit-index c.lit-item.result c.loop-lit-test.true c.lit-item.is c.loop-lit.invariant
    c.has_opposite.result c.if-has_opposite.false c.has_opposite.ensures

pub returns : goal.returns
returns c = none_found (λ k. HasOne (AreComplementary k) c.args.lits.now) c.args.lits.now c.loop-lit.lit-index c.loop-lit-test.false c.loop-lit.invariant
