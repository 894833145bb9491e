use Rattle.std.proofs.Common.{◌∙◌, sym, ap, refl, arith}
use Rattle.std.specs.Str.{bytes_eq}
use Rattle.sort_check.proofs.Scopes.{passed_found}
use Rattle.sort_check.proofs.scope.innermost.Goals as goal

pub returns-then-eq : goal.returns-then-eq
returns-then-eq c =
    let same = sym (c.if-eq.ensures ∙ ap (λ name. bytes_eq name c.args.name.now) c.as_slice.ensures) in
    passed_found c.args.variables.now c.args.name.now c.loop-behind.behind _ c.index-variables-variables.result (omega arith) refl c.index-variables-variables.is c.loop-behind.invariant same
