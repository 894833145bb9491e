use Rattle.std.proofs.Common.{◌≤◌, ◌+◌, ◌*◌, take}
use Rattle.unify_terms.specs.code.Shown.{AllShown}
use Rattle.unify_terms.proofs.showing.+shown.Given as goal

abbrev pub invariant-all_shown-loop-term : goal.invariant-all_shown-loop-term
invariant-all_shown-loop-term l = record {
  fewer : l.steps ≤ l.fn.steps;
  all : AllShown l.bound l.depth (take l.term-index l.terms) l.made.items;
}

abbrev pub decreases-shown : goal.decreases-shown
decreases-shown l = 2 * l.steps.now

abbrev pub decreases-all_shown : goal.decreases-all_shown
decreases-all_shown l = 2 * l.steps.now + 1
