use Rattle.std.proofs.Common.{◌≡◌, take, map}
use Rattle.fof_terms.specs.declared.term.Term.{Var}
use Rattle.skolem_fresh.proofs.opening.value_of.Given as goal

abbrev pub invariant-loop-variable : goal.invariant-loop-variable
invariant-loop-variable l = l.args ≡ map Var (take l.variable-index l.function.variables)
