use Rattle.std.proofs.Common.{take}
use Rattle.std.specs.List.{list_any}
use Rattle.fof_terms.specs.Variables.{has_in_term}
use Rattle.printed_clauses.specs.Marks.{Marks}
use Rattle.printed_clauses.proofs.marking.+mark_term.Given as goal

abbrev pub invariant-mark_terms-loop-term : goal.invariant-mark_terms-loop-term
invariant-mark_terms-loop-term l = Marks (λ k. list_any (has_in_term k) (take l.term-index l.terms)) l.fn.marks l.marks
