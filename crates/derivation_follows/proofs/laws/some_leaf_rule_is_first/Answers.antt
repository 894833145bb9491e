use Rattle.elaborate.specs.ByRule.{leaf_rules}
use Rattle.derivation_follows.proofs.Firsts.{first_alone_sure}
use Rattle.derivation_follows.proofs.laws.some_leaf_rule_is_first.Goals as goal

pub returns : goal.returns
returns c = λ t candidates line h. first_alone_sure leaf_rules t candidates line h
