use Rattle.std.proofs.Common.{subst, sym}
use Rattle.std.specs.Prelude.{IfSome}
use Rattle.unify_terms.specs.code.Binding.{IsResolved}
use Rattle.unify_terms.proofs.Binds.{resolved_next}
use Rattle.unify_terms.proofs.binding.next.Goals as goal

pub returns-in-Var : goal.returns-in-Var
returns-in-Var c =
    subst (λ t. IfSome c.bound_to.result (λ next. IsResolved c.args.bound.now t next.now)) (sym c.in-Var.is) (resolved_next c.args.bound.now c.in-Var.variable c.bound_to.result c.bound_to.ensures)
