use Rattle.std.proofs.Common.{◌≡◌, ◌++◌, filter, reverse, length}
use Rattle.include_resolve.specs.Selection.{is_selected}
use Rattle.include_resolve.proofs.selection.kept_items.Given as goal

abbrev pub invariant-loop-last : goal.invariant-loop-last
invariant-loop-last l = filter (is_selected l.names) l.left ++ reverse l.kept ≡ filter (is_selected l.names) l.fn.items

abbrev pub decreases-loop-last : goal.decreases-loop-last
decreases-loop-last l = length l.left
