use Rattle.fi_model.specs.code.Looks.{bit_of}
use Rattle.fi_model.proofs.LookFacts.{these, others}
use Rattle.fi_model.proofs.looked.Looked.with.Goals as goal

pub returns-clause-these : goal.returns-clause-these
returns-clause-these c = λ distance h. these c.args.self.bits c.args.other.bits (bit_of distance) h

pub returns-clause-others : goal.returns-clause-others
returns-clause-others c = λ distance h. others c.args.self.bits c.args.other.bits (bit_of distance) h
