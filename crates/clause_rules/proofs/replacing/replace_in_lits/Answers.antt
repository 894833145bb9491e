use Rattle.std.proofs.Common.{refl}
use Rattle.clause_rules.proofs.Rewritten.{lits_more}
use Rattle.clause_rules.proofs.replacing.replace_in_lits.Goals as goal

pub loop-lit-preserved : goal.loop-lit-preserved
loop-lit-preserved c =
    lits_more c.args.target.now c.args.new.now c.args.lits.now c.loop-lit.made c.push.new.self c.loop-lit.lit-index c.lit-item.result _ c.loop-lit-test.true c.lit-item.is c.loop-lit.invariant refl c.in_ok-atom.ensures c.in_ok-push.ensures.ok
