use Rattle.std.proofs.Common.{◌+◌, ◌*◌, sum, map}
use Rattle.unify_terms.specs.code.Chosen.{chosen_pairs}
use Rattle.unify_terms.specs.code.Pending.{asked_pending}
use Rattle.unify_terms.proofs.PendingFacts.{goal_size, pending_size}
use Rattle.unify_terms.proofs.SearchedFacts.{NoneOf}
use Rattle.unify_terms.proofs.solving.+search.Given as goal

abbrev pub invariant-first_of-loop-at : goal.invariant-first_of-loop-at
invariant-first_of-loop-at l = NoneOf l.signature l.scope (chosen_pairs l.chosen) l.goals (asked_pending l.rest) l.at

abbrev pub decreases-search : goal.decreases-search
decreases-search l = 2 * pending_size l.pending.now + 1

abbrev pub decreases-meet : goal.decreases-meet
decreases-meet l = 2 * (goal_size l.goal.now + pending_size l.rest.now)

abbrev pub decreases-first_of : goal.decreases-first_of
decreases-first_of l = 2 * (sum (map goal_size l.goals.now) + pending_size l.rest.now) + 1
