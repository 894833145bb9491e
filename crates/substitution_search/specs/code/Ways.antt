-- What private contracts say, beside the definitions of specs/Ways.
use Rattle.std.specs.Prelude.{◌⊎◌, List, [], ◌∷◌}
use Rattle.fof_terms.specs.declared.term.Term.{Term}
use Rattle.unify_terms.specs.declared.pair.Pair.{Pair}
use Rattle.unify_terms.specs.Unifiers.{Unifies}

-- one of the ways is met
abbrev pub HasWay : List Term → List (List Pair) → Type 0
HasWay images [] = ⊥
HasWay images (way ∷ ways) = Unifies images way ⊎ HasWay images ways
