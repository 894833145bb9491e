use Rattle.saturation.proofs.Feeding.{spot_not_asked}
use Rattle.saturation.proofs.asking.ask_spot.Goals as goal

pub returns-then-positive : goal.returns-then-positive
returns-then-positive g c = spot_not_asked (g.I.Partners.is_whole c.args.index.now) (g.I.Partners.entries c.args.index.now) c.args.positive c.args.lits.now c.args.spot.now c.args.marks.now c.if-positive.true
