use Rattle.std.proofs.Common.{take}
use Rattle.std.specs.List.{list_any}
use Rattle.fof_terms.specs.Occurs.{occurs_in_term}
use Rattle.proof_check.specs.code.Marking.{Marks}
use Rattle.proof_check.proofs.marks.+mark_term.Given as goal

abbrev pub invariant-mark_terms-loop-term : goal.invariant-mark_terms-loop-term
invariant-mark_terms-loop-term l = Marks (λ k. list_any (occurs_in_term k) (take l.term-index l.terms)) l.fn.marks l.marks
