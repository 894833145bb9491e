use Rattle.std.proofs.Common.{◌+◌, ◌*◌, take, map, sum}
use Rattle.fof_terms.specs.Scope.{scope_sorts}
use Rattle.clause_form.specs.Sizes.{norm_size_of}
use Rattle.function_choices.specs.code.Walked.{AreWalkedTo}
use Rattle.function_choices.proofs.choosing.+choose.Given as goal

abbrev pub decreases-choose : goal.decreases-choose
decreases-choose l = 2 * norm_size_of l.form.now

abbrev pub decreases-choose_all : goal.decreases-choose_all
decreases-choose_all l = 2 * sum (map norm_size_of l.forms.now) + 1

abbrev pub invariant-choose_all-loop-form : goal.invariant-choose_all-loop-form
invariant-choose_all-loop-form l = AreWalkedTo l.sig l.atoms l.symbols (scope_sorts l.scope) (take l.form-index l.forms) l.fn.uses l.uses l.made
