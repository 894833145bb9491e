use Rattle.std.proofs.Common.{take}
use Rattle.std.specs.List.{list_any}
use Rattle.clause_form.specs.declared.clause.Lit.{Lit}
use Rattle.printed_clauses.specs.Trimmed.{has_in_atom}
use Rattle.printed_clauses.specs.Marks.{Marks}
use Rattle.printed_clauses.proofs.marking.mark_lits.Given as goal

abbrev pub invariant-loop-lit : goal.invariant-loop-lit
invariant-loop-lit l = Marks (λ k. list_any (λ (x : Lit). has_in_atom k x.atom) (take l.lit-index l.lits)) l.fn.marks l.marks
