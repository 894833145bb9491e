use Rattle.elaborate.specs.ByRule.{rules}
use Rattle.derivation_follows.proofs.Firsts.{first_sure}
use Rattle.derivation_follows.proofs.laws.some_rule_is_first.Goals as goal

pub returns : goal.returns
returns c = λ t parents line h. first_sure rules t parents line h
