use Rattle.std.proofs.Common.{refl}
use Rattle.fof_terms.specs.Scope.{scope_sorts}
use Rattle.fof_terms.proofs.Reaches.{lift_fits}
use Rattle.proof_check.proofs.quantifiers.same_over.Goals as goal

pub lift-requires : goal.lift-requires
lift-requires c = lift_fits c.args.theory.now.vocabulary (scope_sorts c.args.scope.now) c.args.goal.now (rw c.signature.ensures at (c.if-not-well_sorted_in.ensures.0 refl))
