use Rattle.fof_terms.specs.Scope.{scope_sorts}
use Rattle.skolem_fresh.proofs.ReplaceTests.{found_reaches}
use Rattle.skolem_fresh.proofs.replacing.replaced.Goals as goal

pub instantiate-requires : goal.instantiate-requires
instantiate-requires c =
    found_reaches c.args.sig.now (scope_sorts c.args.scope.now) c.args.outer c.args.sort c.args.body.now c.args.leaves.now c.in_ok-found.field-0 c.in-Some.found c.in-Some.is c.in_ok-found.ensures c.in_ok-value.value c.in_ok-value.ensures c.requires.within
