-- Goals that no substitution meets, whatever is chosen, as a cheap test finds them.
use Rattle.std.specs.Prelude.{ℕ, ◌≡◌, ◌<◌, List, map, Some}
use Rattle.fof_terms.specs.declared.term.Term.{Term, Var}
use Rattle.unify_terms.specs.declared.goal.Goal.{Goal}
use Rattle.unify_terms.specs.declared.pair.Pair.{Pair}
use Rattle.unify_terms.specs.Goals.{Ways, asked, each_of, one_of}
use Rattle.unify_terms.specs.Substitution.{image_at, instance}
use Rattle.unify_terms.specs.Unifiers.{Unifies}

-- the images leave the variables below this number as they are
pub record Leaves (rigid : ℕ) (images : List Term) : Type 0 where
  pub stays : (k : ℕ) → k < rigid → image_at images k ≡ Var k

abbrev pub NeverInstance : ℕ → Term → Term → Type 0
NeverInstance rigid t u = (images : List Term) → Leaves rigid images → instance images t ≡ instance images u → ⊥

abbrev pub NeverInstances : ℕ → List Term → List Term → Type 0
NeverInstances rigid ts us = (images : List Term) → Leaves rigid images → map (instance images) ts ≡ map (instance images) us → ⊥

abbrev pub NeverUnified : ℕ → List Pair → Type 0
NeverUnified rigid pairs = (images : List Term) → Leaves rigid images → Unifies images pairs → ⊥

-- what these ways ask is never made equal
abbrev pub NeverBy : ℕ → Ways → Type 0
NeverBy rigid way = (images : List Term) → Leaves rigid images → (choices : List ℕ) (pairs : List Pair) (rest : List ℕ) → way choices ≡ Some (pairs, rest) → Unifies images pairs → ⊥

abbrev pub NeverMet : ℕ → Goal → Type 0
NeverMet rigid goal = NeverBy rigid (asked goal)

-- not all of the goals together, and none of them
abbrev pub NeverEach : ℕ → List Goal → Type 0
NeverEach rigid goals = NeverBy rigid (each_of (map asked goals))

abbrev pub NeverOne : ℕ → List Goal → Type 0
NeverOne rigid goals = NeverBy rigid (one_of (map asked goals))
