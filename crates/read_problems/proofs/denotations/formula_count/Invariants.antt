use Rattle.std.specs.Prelude.{count_by, drop}
use Rattle.std.proofs.Common.{◌≡◌, ◌+◌}
use Rattle.tstp_graph.specs.Lines.{is_formula}
use Rattle.read_problems.proofs.denotations.formula_count.Given as goal

-- the formulas so far, and those that are left, are all
abbrev pub invariant-loop-item : goal.invariant-loop-item
invariant-loop-item l = l.count + count_by is_formula (drop l.item-index l.items) ≡ count_by is_formula l.items
