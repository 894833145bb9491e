use Rattle.skolem_fresh.proofs.LoopsRead.{not_same, not_fresh, is_free_by, free_at_end}
use Rattle.skolem_fresh.proofs.choosing.is_free.Goals as goal

pub returns-then-not-are_same : goal.returns-then-not-are_same
returns-then-not-are_same c =
    (λ f. cc, λ h. absurd (not_same c.args.theory.now c.args.form.now c.args.variables.now c.args.function.now c.are_same.result c.if-not-are_same.true (rw c.as_slice.ensures at c.are_same.ensures) h))

pub returns-then-uses : goal.returns-then-uses
returns-then-uses c =
    (λ f. cc, λ h. absurd (not_fresh c.args.theory.now c.args.form.now c.args.variables.now c.args.function.now c.uses.result c.if-uses.true c.uses.ensures h))

pub returns : goal.returns
returns c =
    free_at_end c.args.theory.now c.args.form.now c.args.variables.now c.args.function.now c.are_same.result c.uses.result c.occurs.result c.if-not-are_same.false (rw c.as_slice.ensures at c.are_same.ensures) c.if-uses.false c.uses.ensures c.occurs.ensures
