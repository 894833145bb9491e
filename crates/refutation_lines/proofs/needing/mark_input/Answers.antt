use Rattle.std.proofs.Common.{refl}
use Rattle.printed_clauses.proofs.MarkingFacts.{marks_none}
use Rattle.refutation_lines.proofs.NeedFacts.{marks_of_input}
use Rattle.refutation_lines.proofs.needing.mark_input.Goals as goal

pub returns-in-Input : goal.returns-in-Input
returns-in-Input c = marks_of_input _ c.args.origin.now c.args.marks.now c.mark.new.marks c.in-Input.is c.mark.ensures

pub returns-in-Inferred : goal.returns-in-Inferred
returns-in-Inferred c = marks_of_input _ c.args.origin.now c.args.marks.now c.args.marks.now c.in-Inferred.is (marks_none c.args.marks.now c.args.marks.now refl)
