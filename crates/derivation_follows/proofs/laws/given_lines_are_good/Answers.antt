use Rattle.derivation_follows.proofs.Following.{good_sure}
use Rattle.derivation_follows.proofs.laws.given_lines_are_good.Goals as goal

pub returns : goal.returns
returns c = λ v d order h ends. good_sure v d order h ends
