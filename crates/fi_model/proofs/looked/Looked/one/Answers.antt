use Rattle.fi_model.proofs.LookFacts.{near_set}
use Rattle.fi_model.proofs.looked.Looked.one.Goals as goal

pub returns-then-distance-lt63 : goal.returns-then-distance-lt63
returns-then-distance-lt63 c = near_set c.args.distance c.if-distance-lt63.true
