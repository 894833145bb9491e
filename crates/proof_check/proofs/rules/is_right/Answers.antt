use Rattle.std.proofs.Common.{◌∙◌, sym, ap, Some}
use Rattle.fof_terms.proofs.Trees.{Iff-injective}
use Rattle.proof_check.proofs.Concluded.{some_same}
use Rattle.proof_check.proofs.rules.is_right.Goals as goal

pub returns-in-Some : goal.returns-in-Some
returns-in-Some c = (
  λ yes. (c.in-Some._left.now, c.in-Some.right.now, c.in-Some.ensures.some, c.is_shown.ensures.0 yes),
  λ s. c.is_shown.ensures.1 (s.3 ∙ ap Some (sym (Iff-injective c.in-Some._left.now c.in-Some.right.now s.0 s.1 (some_same (sym c.in-Some.ensures.some ∙ s.2))).1)),
)
