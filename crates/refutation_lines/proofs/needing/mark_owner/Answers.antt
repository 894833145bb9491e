use Rattle.std.proofs.Common.{subst, sym, refl, ◌==◌}
use Rattle.std.specs.List.{list_any}
use Rattle.saturation.specs.declared.member.Origin.{Origin}
use Rattle.printed_clauses.specs.Marks.{Marks}
use Rattle.printed_clauses.proofs.MarkingFacts.{marks_none}
use Rattle.refutation_lines.specs.Needs.{owner_of}
use Rattle.refutation_lines.proofs.NeedFacts.{marks_of_owner}
use Rattle.refutation_lines.proofs.needing.mark_owner.Goals as goal

pub returns-in-Input : goal.returns-in-Input
returns-in-Input c = marks_of_owner c.args.owners.now c.in-Input.number c.number_at.result c.args.origin.now c.args.marks.now c.mark.new.marks c.in-Input.is c.number_at.ensures c.mark.ensures

pub returns-in-Inferred : goal.returns-in-Inferred
returns-in-Inferred c =
    subst (λ (o : Origin). Marks (λ k. list_any (λ p. p == k) (owner_of c.args.owners.now o)) c.args.marks.now c.args.marks.now) (sym c.in-Inferred.is) (marks_none c.args.marks.now c.args.marks.now refl)
