use Rattle.std.proofs.Common.{◌≡◌, ◌≤◌, take, count_by}
use Rattle.tstp_graph.specs.Lines.{is_formula}
use Rattle.tstp_graph.proofs.lines.formula_count.Given as goal

abbrev pub invariant-loop-item : goal.invariant-loop-item
invariant-loop-item l = record {
  value : l.count ≡ count_by is_formula (take l.item-index l.items);
  few : l.count ≤ l.item-index;
}
