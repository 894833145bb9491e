-- Nothing public rests on this: what makes a term the greater of two that weigh the same.
use Rattle.std.specs.Prelude.{ℕ, ◌<◌, List, [], ◌∷◌, ◌≡◌, ◌⊎◌}
use Rattle.fof_terms.specs.declared.term.Term.{Term, App}
use Rattle.clause_order.specs.Order.{IsGreater}

-- at the first place where the lists differ the first has the greater term
abbrev pub ExceedAtFirst : List Term → List Term → Type 0
ExceedAtFirst [] us = ⊥
ExceedAtFirst (s ∷ ss) [] = ⊥
ExceedAtFirst (s ∷ ss) (u ∷ us) = IsGreater s u ⊎ ((s ≡ u) × ExceedAtFirst ss us)

-- the head and the arguments exceed those of the second
abbrev pub ExceedsApp : ℕ → List Term → ℕ → List Term → Type 0
ExceedsApp f ss g ts = (g < f) ⊎ ((g ≡ f) × ExceedAtFirst ss ts)

-- the first term has the greater head, or the same head and greater arguments
abbrev pub IsGreaterInside : Term → Term → Type 0
IsGreaterInside s t = (f g : ℕ) × (ss ts : List Term) × (s ≡ App f ss) × (t ≡ App g ts) × ExceedsApp f ss g ts
