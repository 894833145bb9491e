use Rattle.fof_terms.specs.Scope.{scope_sorts}
use Rattle.function_choices.proofs.Found.{reaches}
use Rattle.function_choices.proofs.finding.replaced.Goals as goal

pub instantiate-requires : goal.instantiate-requires
instantiate-requires c =
    reaches c.args.sig.now c.args.atoms.now c.args.symbols.now (scope_sorts c.args.scope.now) c.as_slice-before.result.now c.args.uses.now c.as_slice-before.ensures c.args.sort c.args.body.now c.in_ok-found.found c.in_ok-found.ensures c.in-Some.found c.in_ok-value.value c.in-Some.is c.in_ok-value.ensures c.requires.within
