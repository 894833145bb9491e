use Rattle.std.proofs.Common.{ℕ, ◌==◌, [], ◌∷◌}
use Rattle.refutation_lines.proofs.NeedFacts.{IsLeftFrom}
use Rattle.refutation_lines.proofs.needing.used_parts.Given as goal

abbrev pub invariant-loop-at : goal.invariant-loop-at
invariant-loop-at l = IsLeftFrom ℕ ℕ (λ i owner. owner ∷ []) (λ k o. o == k) l.count l.printed l.owners l.at l.marks
