use Rattle.std.proofs.Common.{◌≤◌, ◌+◌, ◌*◌, length, take, drop, map, sum}
use Rattle.fof_terms.specs.Scope.{scope_sorts}
use Rattle.clause_form.specs.Sizes.{norm_size_of}
use Rattle.skolem_fresh.specs.code.Skolemizing.{AreWalkedTo}
use Rattle.skolem_fresh.proofs.skolemizing.+skolemize.Given as goal

abbrev pub decreases-skolemize : goal.decreases-skolemize
decreases-skolemize l = 2 * norm_size_of l.form.now

abbrev pub decreases-skolemize_all : goal.decreases-skolemize_all
decreases-skolemize_all l = 2 * sum (map norm_size_of l.forms.now) + 1

abbrev pub invariant-skolemize_all-loop-form : goal.invariant-skolemize_all-loop-form
invariant-skolemize_all-loop-form l = record {
  at : l.at ≤ length l.leaves;
  walked : AreWalkedTo l.sig (scope_sorts l.scope) (take l.form-index l.forms) l.made (drop l.fn.at l.leaves) (drop l.at l.leaves) l.fn.uses l.uses;
}
