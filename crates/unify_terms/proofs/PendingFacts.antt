-- Lemmas on what specs/code/Pending defines.
use Rattle.std.specs.Prelude.{ℕ, ◌≡◌, ◌+◌, Bool, true, ◌&&◌, List, map, sum, drop}
use Rattle.std.specs.List.{list_all}
use Rattle.std.specs.Borrow.{Bor}
use Rattle.fof_terms.specs.Vocabulary.{Vocabulary}
use Rattle.unify_terms.specs.declared.pair.Pair.{Pair}
use Rattle.unify_terms.specs.declared.goal.Goal.{Goal, All, Any, Same}
use Rattle.unify_terms.specs.declared.goal.Goal.TheFolds.{fold-Goal}
use Rattle.unify_terms.specs.declared.pending.Pending.{Pending, Done, One, Each}
use Rattle.unify_terms.specs.declared.pending.Pending.TheViews.{roll-Pending}
use Rattle.unify_terms.specs.declared.pending.Pending.TheFolds.{fold-Pending, fold-roll-Pending}
use Rattle.unify_terms.proofs.GoalTrees.{fold-All, fold-Any, fold-Same}
use Rattle.unify_terms.specs.Goals.{Ways, before, nothing, each_of, one_of, asked, goal_sorted}
use denote.Hole.Carrier.{roll}
use Rattle.unify_terms.specs.code.Pending.{pending_step, asked_pending, pending_sorted_step, pending_sorted}
use Rattle.unify_terms.specs.declared.goal.Goal.TheOpen as goal
use Rattle.unify_terms.specs.declared.pending.Pending.TheOpen as pending

pub asked_pending-Done : asked_pending Done ≡ nothing
unfolding asked_pending roll-Pending roll
asked_pending-Done = fold-roll-Pending Ways pending_step pending.Done

pub asked_pending-One : (goal : Bor Goal) (rest : Bor Pending) → asked_pending (One goal rest) ≡ before (asked goal.now) (asked_pending rest.now)
unfolding asked_pending roll-Pending roll
asked_pending-One goal rest = fold-roll-Pending Ways pending_step (pending.One goal rest)

pub asked_pending-Each : (goals : Bor (List Goal)) (from : ℕ) (rest : Bor Pending) → asked_pending (Each goals from rest) ≡ before (each_of (map asked (drop from goals.now))) (asked_pending rest.now)
unfolding asked_pending roll-Pending roll
asked_pending-Each goals from rest = fold-roll-Pending Ways pending_step (pending.Each goals from rest)

pub pending_sorted-Done : (v : Vocabulary) (sorts : List ℕ) → pending_sorted v sorts Done ≡ true
unfolding pending_sorted roll-Pending roll
pending_sorted-Done v sorts = fold-roll-Pending Bool (pending_sorted_step v sorts) pending.Done

pub pending_sorted-One : (v : Vocabulary) (sorts : List ℕ) (goal : Bor Goal) (rest : Bor Pending) → pending_sorted v sorts (One goal rest) ≡ (goal_sorted v sorts goal.now && pending_sorted v sorts rest.now)
unfolding pending_sorted roll-Pending roll
pending_sorted-One v sorts goal rest = fold-roll-Pending Bool (pending_sorted_step v sorts) (pending.One goal rest)

pub pending_sorted-Each : (v : Vocabulary) (sorts : List ℕ) (goals : Bor (List Goal)) (from : ℕ) (rest : Bor Pending)
    → pending_sorted v sorts (Each goals from rest) ≡ (list_all (goal_sorted v sorts) (drop from goals.now) && pending_sorted v sorts rest.now)
unfolding pending_sorted roll-Pending roll
pending_sorted-Each v sorts goals from rest = fold-roll-Pending Bool (pending_sorted_step v sorts) (pending.Each goals from rest)

-- how much there is to do
abbrev pub size_step : goal.Goal-F ℕ → ℕ
size_step (goal.All sizes) = 2 + sum sizes
size_step (goal.Any sizes) = 2 + sum sizes
size_step (goal.Same ps) = 2

unfoldable pub goal_size : Goal → ℕ
goal_size = fold-Goal ℕ size_step

pub goal_size-All : (gs : List Goal) → goal_size (All gs) ≡ 2 + sum (map goal_size gs)
unfolding goal_size
goal_size-All gs = fold-All ℕ size_step gs

pub goal_size-Any : (gs : List Goal) → goal_size (Any gs) ≡ 2 + sum (map goal_size gs)
unfolding goal_size
goal_size-Any gs = fold-Any ℕ size_step gs

pub goal_size-Same : (ps : List Pair) → goal_size (Same ps) ≡ 2
unfolding goal_size
goal_size-Same ps = fold-Same ℕ size_step ps

abbrev pub pending_size_step : pending.Pending-F ℕ → ℕ
pending_size_step pending.Done = 0
pending_size_step (pending.One goal rest) = 1 + goal_size goal.now + rest.now
pending_size_step (pending.Each goals from rest) = 1 + sum (map goal_size (drop from goals.now)) + rest.now

unfoldable pub pending_size : Pending → ℕ
pending_size = fold-Pending ℕ pending_size_step

pub pending_size-One : (goal : Bor Goal) (rest : Bor Pending) → pending_size (One goal rest) ≡ 1 + goal_size goal.now + pending_size rest.now
unfolding pending_size roll-Pending roll
pending_size-One goal rest = fold-roll-Pending ℕ pending_size_step (pending.One goal rest)

pub pending_size-Each : (goals : Bor (List Goal)) (from : ℕ) (rest : Bor Pending) → pending_size (Each goals from rest) ≡ 1 + sum (map goal_size (drop from goals.now)) + pending_size rest.now
unfolding pending_size roll-Pending roll
pending_size-Each goals from rest = fold-roll-Pending ℕ pending_size_step (pending.Each goals from rest)
