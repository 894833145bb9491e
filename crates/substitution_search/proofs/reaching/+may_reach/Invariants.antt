use Rattle.std.proofs.Common.{ℕ, ◌<◌, ◌≡◌, Some, slice_get}
use Rattle.fof_terms.specs.declared.form.Form.{Form}
use Rattle.substitution_search.specs.Screens.{NeverReached}
use Rattle.substitution_search.proofs.reaching.+may_reach.Given as goal

abbrev pub invariant-may_reach_one-loop-at : goal.invariant-may_reach_one-loop-at
invariant-may_reach_one-loop-at l = (i : ℕ) → i < l.at → (a : Form) → slice_get l.forms i ≡ Some a → NeverReached l.line a
