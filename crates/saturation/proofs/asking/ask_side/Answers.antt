use Rattle.saturation.proofs.Feeding.{side_not_asked}
use Rattle.saturation.proofs.asking.ask_side.Goals as goal

pub returns-then-not-positive : goal.returns-then-not-positive
returns-then-not-positive g c = side_not_asked (g.I.Partners.is_whole c.args.index.now) (g.I.Partners.entries c.args.index.now) c.args.positive c.args.lits.now c.args.side.now c.args.marks.now c.if-not-positive.true
