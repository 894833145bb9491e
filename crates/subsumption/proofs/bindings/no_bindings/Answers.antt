use Rattle.std.proofs.Common.{◌≡◌, ◌∙◌, ap, arith, replicate, None}
use Rattle.subsumption.proofs.BoundFacts.{none_bound}
use Rattle.subsumption.proofs.bindings.no_bindings.Goals as goal

pub returns-clause-images : goal.returns-clause-images
returns-clause-images c =
    let all : c.loop.counter ≡ c.args.variables = omega arith in
    none_bound c.loop.images.items c.args.variables (c.loop.invariant ∙ ap (λ n. replicate n None) all)
