-- What a search for a solution has still to meet, and how much that is.
use Rattle.std.specs.Prelude.{ℕ, Bool, true, ◌&&◌, List, map, drop}
use Rattle.std.specs.List.{list_all}
use Rattle.fof_terms.specs.Vocabulary.{Vocabulary}
use Rattle.unify_terms.specs.declared.pending.Pending.{Pending, Done, One, Each}
use Rattle.unify_terms.specs.declared.pending.Pending.TheFolds.{fold-Pending}
use Rattle.unify_terms.specs.Goals.{Ways, before, nothing, each_of, one_of, asked, goal_sorted}
use Rattle.unify_terms.specs.declared.goal.Goal.TheOpen as goal
use Rattle.unify_terms.specs.declared.pending.Pending.TheOpen as pending

abbrev pub one_before : List Ways → Ways → Ways
one_before gs next = before (one_of gs) next

-- what is pending, with the goals from a place on
abbrev pub pending_step : pending.Pending-F Ways → Ways
pending_step pending.Done = nothing
pending_step (pending.One goal rest) = before (asked goal.now) rest.now
pending_step (pending.Each goals from rest) = before (each_of (map asked (drop from goals.now))) rest.now

unfoldable pub asked_pending : Pending → Ways
asked_pending = fold-Pending Ways pending_step

abbrev pub pending_sorted_step : Vocabulary → List ℕ → pending.Pending-F Bool → Bool
pending_sorted_step v sorts pending.Done = true
pending_sorted_step v sorts (pending.One goal rest) = goal_sorted v sorts goal.now && rest.now
pending_sorted_step v sorts (pending.Each goals from rest) = list_all (goal_sorted v sorts) (drop from goals.now) && rest.now

unfoldable pub pending_sorted : Vocabulary → List ℕ → Pending → Bool
pending_sorted v sorts = fold-Pending Bool (pending_sorted_step v sorts)
