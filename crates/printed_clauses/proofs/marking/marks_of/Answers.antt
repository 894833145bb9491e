use Rattle.std.proofs.Common.{ℕ, List, length, subst}
use Rattle.clause_form.specs.declared.clause.Lit.{Lit}
use Rattle.printed_clauses.specs.Marks.{AreUnmarked, Marks}
use Rattle.printed_clauses.specs.Trimmed.{occurs_in}
use Rattle.printed_clauses.proofs.MarkingFacts.{marks_from_none}
use Rattle.printed_clauses.proofs.marking.marks_of.Goals as goal

pub returns : goal.returns
returns c = marks_from_none (occurs_in c.args.clause.now.lits) (length c.args.clause.now.sorts) c.in_ok-marks.marks c.mark_lits.new.marks (subst (λ (n : ℕ). AreUnmarked n c.in_ok-marks.marks) c.len.ensures c.in_ok-marks.ensures) (subst (λ (lits : List Lit). Marks (occurs_in lits) c.in_ok-marks.marks c.mark_lits.new.marks) c.as_slice.ensures c.mark_lits.ensures)
