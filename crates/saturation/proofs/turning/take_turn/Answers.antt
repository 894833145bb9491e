use Rattle.std.proofs.lemmas.Result.{IfOk-weaker}
use Rattle.saturation.proofs.turning.take_turn.Goals as goal

pub returns-clause-turn : goal.returns-clause-turn
returns-clause-turn g c = IfOk-weaker c.sift.result _ _ (λ r h. record { made = c.in_ok-made.made; joins = c.in_ok-made.ensures.joins; sifts = h }) c.sift.ensures
