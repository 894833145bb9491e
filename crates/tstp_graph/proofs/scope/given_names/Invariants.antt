use Rattle.std.proofs.Common.{◌≤◌, take}
use Rattle.tstp_graph.specs.code.Tables.{Holds}
use Rattle.tstp_graph.proofs.scope.given_names.Given as goal

abbrev pub invariant-loop-name : goal.invariant-loop-name
invariant-loop-name l = record {
  few : l.table.count ≤ l.name-index;
  holds : Holds l.table (take l.name-index l.given);
}
