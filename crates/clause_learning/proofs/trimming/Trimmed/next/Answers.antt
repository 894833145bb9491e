use Rattle.std.proofs.Common.{refl, inr}
use Rattle.clause_learning.proofs.trimming.Trimmed.next.Goals as goal

pub returns : goal.returns
returns c = λ is. inr (record { log = refl; numbers = c.in_ok-push.ensures.ok })
