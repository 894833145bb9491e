use Rattle.std.proofs.Common.{ℕ, ◌==◌, refl}
use Rattle.refutation_lines.proofs.NeedFacts.{marks_unless, marks_if}
use Rattle.refutation_lines.proofs.needing.mark_if.Goals as goal

pub returns-then-not-is_printed : goal.returns-then-not-is_printed
returns-then-not-is_printed c = marks_unless ℕ (λ k o. o == k) c.args.owner c.args.is_printed c.args.marks.now c.args.marks.now c.if-not-is_printed.true refl

pub returns : goal.returns
returns c = marks_if ℕ (λ k o. o == k) c.args.owner c.args.is_printed c.args.marks.now c.mark.new.marks c.if-not-is_printed.false c.mark.ensures
