use Rattle.std.proofs.Common.{ℕ, List, map}
use Rattle.fi_model.specs.Interpretations.{value_of}
use Rattle.fi_model.specs.code.Looks.{Agree}
use Rattle.fi_model.specs.code.Scope.{scope_elements}
use Rattle.fi_model.specs.Tables.{interpretation}
use Rattle.fi_model.proofs.CellFacts.{Reaches}
use Rattle.fi_model.proofs.truth.+value.Given as goal

abbrev pub invariant-value_in-loop-i : goal.invariant-value_in-loop-i
invariant-value_in-loop-i l = (there : List ℕ) → Agree l.looked (scope_elements l.scope) there → Reaches l.table.sizes (map (value_of (interpretation l.model) there) l.args) l.i l.at
