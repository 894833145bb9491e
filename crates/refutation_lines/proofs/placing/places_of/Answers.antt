use Rattle.refutation_lines.specs.Places.{places_from}
use Rattle.refutation_lines.proofs.PlaceFacts.{places_step, places_end}
use Rattle.refutation_lines.proofs.placing.places_of.Goals as goal

pub loop-at-preserved : goal.loop-at-preserved
loop-at-preserved c =
    places_step c.args.ranks.now c.args.needed.now c.args.members.now c.loop-at.at c.index-members-at.result c.place_of.result c.loop-at.next c.in_ok-next.next c.loop-at.places c.push.new.self (places_from c.args.ranks.now c.args.first c.args.needed.now c.args.members.now) c.requires c.loop-at-test.true
    c.index-members-at.is c.loop-at.invariant c.place_of.ensures c.in_ok-push.ensures.ok c.in_ok-next.ensures

pub returns : goal.returns
returns c = places_end c.args.ranks.now c.args.needed.now c.args.members.now c.loop-at.at c.loop-at.next c.loop-at.places (places_from c.args.ranks.now c.args.first c.args.needed.now c.args.members.now) c.loop-at-test.false c.loop-at.invariant
