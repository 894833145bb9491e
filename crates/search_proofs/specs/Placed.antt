-- Proofs that are added where they are there, with the numbers of their formulas.
use Rattle.std.specs.Prelude.{ℕ, ◌+◌, List, [], ◌∷◌, Option, Some, None}
use Rattle.kernel.specs.declared.proof.Proof.{Proof}

-- those that are there
abbrev pub there : List (Option Proof) → List Proof
there [] = []
there (None ∷ made) = there made
there (Some p ∷ made) = p ∷ there made

-- for each place the number of the formula that stands next, the first being n
abbrev pub numbers_from : ℕ → List (Option Proof) → List ℕ
numbers_from n [] = []
numbers_from n (None ∷ made) = n ∷ numbers_from n made
numbers_from n (Some p ∷ made) = n ∷ numbers_from (n + 1) made
