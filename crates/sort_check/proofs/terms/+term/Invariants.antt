use Rattle.sort_check.proofs.Loops.{Turns}
use Rattle.sort_check.specs.Denotation.{argument, denoted_term}
use Rattle.sort_check.specs.code.Denotation.{setting}
use Rattle.sort_check.specs.Sorting.{Extends}
use Rattle.sort_check.proofs.terms.+term.Given as goal

abbrev pub invariant-denote_arguments-loop-place : goal.invariant-denote_arguments-loop-place
invariant-denote_arguments-loop-place l = record {
  turns : Turns (λ place t. argument l.symbol place (denoted_term (setting l.declared l.scope) l.scope.variables t)) l.terms l.initial.signature l.found l.place l.signature;
  keeps : Extends l.initial.signature l.signature;
}
