use Rattle.std.proofs.Common.{ℕ, List, ◌∙◌, subst}
use Rattle.read_problems.specs.Stop.{IfRefused}
use Rattle.read_problems.proofs.Told.{Refuses}
use Rattle.read_problems.proofs.text_items.tell_alone.Goals as goal

pub returns-clause-refused : goal.returns-clause-refused
returns-clause-refused c = subst (λ (files : List (List ℕ)). IfRefused c.tell.result (λ answer. Refuses c.args.found files answer)) (c.as_slice.ensures ∙ c.in_ok-files.ensures) c.tell.ensures.refused
