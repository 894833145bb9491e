use Rattle.std.proofs.Common.{subst, sym}
use Rattle.clause_form.specs.Norm.{HasNorm}
use Rattle.norm_parts.proofs.DecidedParts.{too_wide}
use Rattle.norm_parts.proofs.deciding.by_parts.Goals as goal

pub of_norm-requires-clause-norm : goal.of_norm-requires-clause-norm
of_norm-requires-clause-norm c = subst (HasNorm c.args.line.now) (sym c.get.ensures) (rw c.in-Some.is at c.in_ok-norm.ensures)

pub returns-in-None : goal.returns-in-None
returns-in-None c = too_wide c.args.signature.now c.args.parents.now c.args.line.now (rw c.in-None.is at c.in_ok-norm.ensures)
