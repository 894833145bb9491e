use Rattle.std.proofs.Common.{◌≡◌, take, map}
use Rattle.fof_terms.specs.declared.term.Term.{Var}
use Rattle.skolem_fresh.proofs.telling.chosen_part.Given as goal

abbrev pub invariant-loop-variable : goal.invariant-loop-variable
invariant-loop-variable l = l.terms ≡ map Var (take l.variable-index l.chosen.variables)
