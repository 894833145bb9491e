use Rattle.std.proofs.Common.{subst, sym, ◌<◌, ◌^◌}
use Rattle.fof_terms.specs.Sorts.{binder_depth}
use Rattle.clause_form.specs.declared.path.Parent.{Parent}
use Rattle.step_clauses.proofs.input.norms_of_parents.Goals as goal

pub norm_signed-requires : goal.norm_signed-requires
norm_signed-requires c = subst (λ (p : Parent). binder_depth p.form < 2 ^ 32) (sym c.parent-item.is) (c.requires c.loop-parent.parent-index c.parent-item.result c.loop-parent-test.true)
