use Rattle.fi_model.proofs.LookFacts.{outside}
use Rattle.fi_model.proofs.looked.Looked.outside.Goals as goal

pub returns : goal.returns
returns c = λ distance h. outside c.args.self.bits distance h
