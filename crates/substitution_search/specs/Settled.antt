-- What private contracts say, beside the definitions of specs/Settled.
use Rattle.std.specs.Prelude.{◌≡◌, List, Option, Some, None}
use Rattle.fof_terms.specs.declared.term.Term.{Term}
use Rattle.fof_terms.specs.Vocabulary.{Vocabulary}
use Rattle.unify_terms.specs.declared.goal.Goal.{Goal}
use Rattle.unify_terms.specs.declared.scope.Scope.{Scope}
use Rattle.unify_terms.specs.declared.solving.Solution.{Solution}
use Rattle.unify_terms.specs.Goals.{SolvesGoal}

-- the substitution of a solution of the goal, or none where it has none
abbrev pub IsSolution : Vocabulary → Scope → Goal → Option (List Term) → Type 0
IsSolution v scope goal None = SolvesGoal v scope goal None
IsSolution v scope goal (Some images) = (solution : Solution) × (solution.subst ≡ images) × SolvesGoal v scope goal (Some solution)

-- the substitution of a solution of the goal, or none, which tells nothing
abbrev pub IsGuessed : Vocabulary → Scope → Goal → Option (List Term) → Type 0
IsGuessed v scope goal None = Unit {0}
IsGuessed v scope goal (Some images) = IsSolution v scope goal (Some images)
