use Rattle.std.proofs.Common.{List, subst}
use Rattle.clause_form.specs.declared.clause.Lit.{Lit}
use Rattle.clause_learning.specs.Refutations.{HasSame}
use Rattle.chain_proofs.proofs.Knowing.{adds_same}
use Rattle.chain_proofs.proofs.Parting.{take_all}
use Rattle.chain_proofs.proofs.known.Known.of.Goals as goal

pub loop-lit-preserved : goal.loop-lit-preserved
loop-lit-preserved c = record {
  kept = c.in_ok-add.ensures.kept;
  same = adds_same c.in_ok-add.field-0 c.args.lits.now c.loop-lit.known.lits c.loop-lit.lit-index c.lit-item.result c.in_ok-copy.field-0 c.add.new.self.lits c.loop-lit-test.true c.lit-item.is c.in_ok-copy.ensures c.loop-lit.invariant.same c.in_ok-add.ensures.added;
}

pub returns-clause-same : goal.returns-clause-same
returns-clause-same c = subst (λ (ls : List Lit). HasSame ls c.loop-lit.known.lits) (take_all c.args.lits.now c.loop-lit.lit-index c.loop-lit-test.false) c.loop-lit.invariant.same
