use Rattle.search_proofs.specs.code.Contradictions.{IsOpposite}
use Rattle.search_proofs.proofs.Contradicted.{zip_done, zip_more}
use Rattle.search_proofs.proofs.contradicting.opposites_of.Goals as goal

pub loop-lit-preserved : goal.loop-lit-preserved
loop-lit-preserved c =
    zip_more (IsOpposite c.args.members.now) c.args.lits.now c.loop-lit.lit-index c.lit-item.result c.loop-lit.places c.push.new.self c.in-Some.place c.loop-lit-test.true c.lit-item.is c.loop-lit.invariant c.in-Some.ensures c.in_ok-push-in-Some.ensures.ok

pub returns : goal.returns
returns c = zip_done (IsOpposite c.args.members.now) c.args.lits.now c.loop-lit.lit-index c.loop-lit.places c.loop-lit-test.false c.loop-lit.invariant
