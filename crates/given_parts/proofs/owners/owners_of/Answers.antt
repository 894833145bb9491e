use Rattle.given_parts.specs.Owners.{owners_from}
use Rattle.given_parts.proofs.PartFacts.{owners_step, owners_end}
use Rattle.given_parts.proofs.owners.owners_of.Goals as goal

pub loop-number-preserved : goal.loop-number-preserved
loop-number-preserved c =
    owners_step c.args.parts.now c.loop-number.number c.index-parts-number.result c.loop-number.owners c.push_owner.new.owners (owners_from 0 c.args.parts.now) c.loop-number-test.true c.index-parts-number.is c.loop-number.invariant c.in_ok-push_owner.ensures

pub returns : goal.returns
returns c = owners_end c.args.parts.now c.loop-number.number c.loop-number.owners (owners_from 0 c.args.parts.now) c.loop-number-test.false c.loop-number.invariant
