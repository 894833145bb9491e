use Rattle.clause_form.specs.declared.clause.AtomOf.TheVariants.{Eq}
use Rattle.printed_clauses.proofs.MarkingFacts.{marks_of_atom, marks_of_two}
use Rattle.printed_clauses.proofs.marking.mark_atom.Goals as goal

pub returns-in-Eq : goal.returns-in-Eq
returns-in-Eq c =
    marks_of_atom (Eq c.in-Eq.left c.in-Eq.right) c.args.atom.now c.args.marks.now c.mark_term-in-Eq.new.marks c.in-Eq.is
    (marks_of_two c.in-Eq.left c.in-Eq.right c.args.marks.now c.mark_term.new.marks c.mark_term-in-Eq.new.marks c.mark_term.ensures c.mark_term-in-Eq.ensures)
