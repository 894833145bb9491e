use Rattle.std.proofs.Common.{◌≤◌, take}
use Rattle.tstp_graph.specs.code.Tables.{Holds}
use Rattle.tstp_graph.specs.Lines.{names_in}
use Rattle.tstp_graph.proofs.scope.formula_names.Given as goal

abbrev pub invariant-loop-item : goal.invariant-loop-item
invariant-loop-item l = record {
  few : l.table.count ≤ l.item-index;
  holds : Holds l.table (names_in l.is_type (take l.item-index l.items));
}
