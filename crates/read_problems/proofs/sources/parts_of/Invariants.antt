use Rattle.std.proofs.Common.{◌≡◌, ◌++◌, map, reverse, length}
use Rattle.sort_check.specs.declared.line.GivenEntry.{GivenEntry}
use Rattle.read_problems.specs.Sources.{entry_names, entry_marks}
use Rattle.read_problems.proofs.sources.parts_of.Given as goal

-- the parts so far, and those that are left, are all
abbrev pub invariant-loop-entry : goal.invariant-loop-entry
invariant-loop-entry l = record {
  names : l.parts.names ++ entry_names (reverse l.left) ≡ entry_names l.fn.entries;
  marks : l.parts.marks ++ entry_marks (reverse l.left) ≡ entry_marks l.fn.entries;
  forms : l.parts.forms ++ map (λ (e : GivenEntry). e.form) (reverse l.left) ≡ map (λ (e : GivenEntry). e.form) l.fn.entries;
}

abbrev pub decreases-loop-entry : goal.decreases-loop-entry
decreases-loop-entry l = length l.left
