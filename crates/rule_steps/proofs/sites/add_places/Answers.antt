use Rattle.std.proofs.Common.{◌∙◌}
use Rattle.rule_steps.proofs.Indexed.{places_more}
use Rattle.rule_steps.proofs.sites.add_places.Goals as goal

pub loop-place-preserved : goal.loop-place-preserved
loop-place-preserved c =
    places_more c.args.clause c.args.lit c.as_slice-place-items.result.now c.loop-place.place-index c.place-item.result c.args.sites.now c.loop-place.sites c.push.new.self c.in_ok-at.at c.loop-place-test.true c.place-item.is c.loop-place.invariant (c.in_ok-at.ensures ∙ c.as_slice.ensures) c.in_ok-push.ensures.ok
