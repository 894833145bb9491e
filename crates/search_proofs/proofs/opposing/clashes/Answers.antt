use Rattle.std.proofs.Common.{refl}
use Rattle.search_proofs.proofs.Clashing.{arms_done, arms_more}
use Rattle.search_proofs.proofs.opposing.clashes.Goals as goal

pub loop-k-preserved : goal.loop-k-preserved
loop-k-preserved c =
    arms_more c.args.members.now c.args.numbers.now c.args.lits.now c.args.places.now c.loop-k.k _ c.number_at.result c.index-lits-k.result c.clause_at-opposite.result.now c.in_ok-arm.arm c.into_inner.result c.loop-k.arms c.push.new.self
    c.requires.opposed c.requires.size c.loop-k-test.true c.index-lits-k.is refl c.clause_at-opposite.ensures c.number_at.ensures c.in_ok-arm.ensures c.into_inner.ensures c.loop-k.invariant c.in_ok-push.ensures.ok

pub returns : goal.returns
returns c = arms_done c.args.members.now c.args.numbers.now c.args.places.now c.args.lits.now c.loop-k.k c.loop-k.arms c.loop-k-test.false c.loop-k.invariant
