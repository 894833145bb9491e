-- Folds over goals, one equation for each kind.
use Rattle.std.specs.Prelude.{◌≡◌, List, map}
use Rattle.unify_terms.specs.declared.pair.Pair.{Pair}
use Rattle.unify_terms.specs.declared.goal.Goal.{Goal, All, Any, Same}
use Rattle.unify_terms.specs.declared.goal.Goal.TheViews.{roll-Goal}
use Rattle.unify_terms.specs.declared.goal.Goal.TheFolds.{fold-Goal, fold-roll-Goal}
use denote.Hole.Carrier.{roll}
use Rattle.unify_terms.specs.declared.goal.Goal.TheOpen as goal

pub fold-All : (A : Type 0) (step : goal.Goal-F A → A) (gs : List Goal) → fold-Goal A step (All gs) ≡ step (goal.All (map (fold-Goal A step) gs))
unfolding roll-Goal roll
fold-All A step gs = fold-roll-Goal A step (goal.All gs)

pub fold-Any : (A : Type 0) (step : goal.Goal-F A → A) (gs : List Goal) → fold-Goal A step (Any gs) ≡ step (goal.Any (map (fold-Goal A step) gs))
unfolding roll-Goal roll
fold-Any A step gs = fold-roll-Goal A step (goal.Any gs)

pub fold-Same : (A : Type 0) (step : goal.Goal-F A → A) (ps : List Pair) → fold-Goal A step (Same ps) ≡ step (goal.Same ps)
unfolding roll-Goal roll
fold-Same A step ps = fold-roll-Goal A step (goal.Same ps)
