use Rattle.std.proofs.Common.{[]}
use Rattle.function_choices.proofs.Replaced.{replaced}
use Rattle.function_choices.proofs.laws.chosen_as_skolemized.Goals as goal

pub returns : goal.returns
returns c = λ v atoms symbols a b uses e h. replaced v atoms symbols [] [] uses a b h e
