-- What a search asks for: for each of some needs one of its ways, each of which asks pairs of terms to be equal.
use Rattle.std.specs.Prelude.{Bool, true, false, if◌then◌else◌, ◌==◌, ◌&&◌, List, [], ◌∷◌, ◌++◌, length, map, flat_map}
use Rattle.fof_terms.specs.declared.term.Term.{Term}
use Rattle.clause_form.specs.declared.clause.AtomOf.{AtomOf}
use Rattle.clause_form.specs.declared.clause.AtomOf.TheVariants.{Pred, Eq, True, False}
use Rattle.clause_form.specs.declared.clause.Lit.{Lit}
use Rattle.unify_terms.specs.declared.pair.Pair.{Pair}
use Rattle.unify_terms.specs.declared.goal.Goal.{Goal, All, Any, Same}

-- the goal of a need, and of several
abbrev pub goal_of_need : List (List Pair) → Goal
goal_of_need ways = Any (map Same ways)

abbrev pub goal_of_needs : List (List (List Pair)) → Goal
goal_of_needs needs = All (map goal_of_need needs)

abbrev pub pair_of : Term → Term → Pair
pair_of s t = record { left = s; right = t }

-- the terms at the same places of two lists
abbrev pub zip_pairs : List Term → List Term → List Pair
zip_pairs [] us = []
zip_pairs (t ∷ ts) [] = []
zip_pairs (t ∷ ts) (u ∷ us) = pair_of t u ∷ zip_pairs ts us

-- ways to make two atoms the same up to the sides of an equation; none where their heads differ
abbrev pub atom_ways : AtomOf → AtomOf → List (List Pair)
atom_ways (Pred p ts) (Pred q us) = if (p == q) && (length ts == length us) then zip_pairs ts us ∷ [] else []
atom_ways (Pred p ts) (Eq c d) = []
atom_ways (Pred p ts) True = []
atom_ways (Pred p ts) False = []
atom_ways (Eq a b) (Pred q us) = []
atom_ways (Eq a b) (Eq c d) = (pair_of a c ∷ pair_of b d ∷ []) ∷ (pair_of b c ∷ pair_of a d ∷ []) ∷ []
atom_ways (Eq a b) True = []
atom_ways (Eq a b) False = []
atom_ways True (Pred q us) = []
atom_ways True (Eq c d) = []
atom_ways True True = [] ∷ []
atom_ways True False = []
atom_ways False (Pred q us) = []
atom_ways False (Eq c d) = []
atom_ways False True = []
atom_ways False False = [] ∷ []

-- of two literals of one sign
abbrev pub signed_ways : Bool → Bool → List (List Pair) → List (List Pair)
signed_ways true true ways = ways
signed_ways false false ways = ways
signed_ways true false ways = []
signed_ways false true ways = []

-- ways to make the literal of this sign and atom the other one
abbrev pub lit_ways : Bool → AtomOf → Lit → List (List Pair)
lit_ways positive a l = signed_ways positive l.positive (atom_ways a l.atom)

-- ways to make the literal of this sign and atom false by its form
abbrev pub absurd_ways : AtomOf → Bool → List (List Pair)
absurd_ways (Pred p ts) positive = []
absurd_ways (Eq s t) positive = if positive then [] else (pair_of s t ∷ []) ∷ []
absurd_ways True positive = if positive then [] else [] ∷ []
absurd_ways False positive = if positive then [] ∷ [] else []

-- ways to make the literal one of the targets, or false by its form
abbrev pub cover_ways : List Lit → Lit → List (List Pair)
cover_ways targets k = flat_map (lit_ways k.positive k.atom) targets ++ absurd_ways k.atom k.positive

-- the need that each literal be covered
abbrev pub cover_needs : List Lit → List Lit → List (List (List Pair))
cover_needs targets lits = map (cover_ways targets) lits
