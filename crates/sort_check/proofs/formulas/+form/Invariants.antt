use Rattle.std.proofs.Common.{◌≡◌}
use Rattle.sort_check.proofs.Loops.{Turns}
use Rattle.sort_check.specs.Denotation.{denoted_form}
use Rattle.sort_check.specs.code.Denotation.{setting, state}
use Rattle.sort_check.specs.Sorting.{Extends}
use Rattle.sort_check.proofs.formulas.+form.Given as goal

abbrev pub invariant-denote_members-loop-form : goal.invariant-denote_members-loop-form
invariant-denote_members-loop-form l = record {
  turns : Turns (λ place a. denoted_form (setting l.declared l.initial.scope) a l.initial.scope.variables) l.forms (state l.initial.signature l.initial.scope) l.found l.form-index (state l.signature l.scope);
  keeps : Extends l.initial.signature l.signature;
  kept : l.scope ≡ record l.initial.scope { bound = l.scope.bound };
}
