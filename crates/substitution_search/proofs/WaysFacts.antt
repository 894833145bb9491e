-- Lemmas on what specs/code/Ways defines.
use Rattle.std.specs.Prelude.{Bool, true, false, if◌then◌else◌, ◌==◌, ◌&&◌, ◌⊎◌, List, [], ◌∷◌, ◌++◌, length, map, flat_map}
use Rattle.fof_terms.specs.declared.term.Term.{Term}
use Rattle.clause_form.specs.declared.clause.AtomOf.{AtomOf}
use Rattle.clause_form.specs.declared.clause.AtomOf.TheVariants.{Pred, Eq, True, False}
use Rattle.clause_form.specs.declared.clause.Lit.{Lit}
use Rattle.unify_terms.specs.declared.pair.Pair.{Pair}
use Rattle.unify_terms.specs.declared.goal.Goal.{Goal, All, Any, Same}
use Rattle.unify_terms.specs.Unifiers.{Unifies}
use Rattle.substitution_search.specs.code.Ways.{HasWay}

-- each of the needs has a way that is met
abbrev pub MeetsNeeds : List Term → List (List (List Pair)) → Type 0
MeetsNeeds images [] = Unit {0}
MeetsNeeds images (need ∷ needs) = HasWay images need × MeetsNeeds images needs
