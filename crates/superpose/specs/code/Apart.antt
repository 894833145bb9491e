-- What a cheap test says that answers no: no instances of the two are equal. Their variables are kept apart.
use Rattle.std.specs.Prelude.{ℕ, ◌≡◌, List, map}
use Rattle.fof_terms.specs.declared.term.Term.{Term}
use Rattle.clause_form.specs.Images.{image}

abbrev pub NeverMeet : Term → Term → Type 0
NeverMeet t u = (s r : ℕ → Term) → image s t ≡ image r u → ⊥

abbrev pub NeverAllMeet : List Term → List Term → Type 0
NeverAllMeet ts us = (s r : ℕ → Term) → map (image s) ts ≡ map (image r) us → ⊥
