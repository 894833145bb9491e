use Rattle.std.proofs.Common.{◌∙◌}
use Rattle.include_resolve.specs.Selection.{is_selected}
use Rattle.include_resolve.proofs.Sets.{kept_more, kept_end, selects_same}
use Rattle.include_resolve.proofs.selection.kept_items.Goals as goal

pub loop-last-preserved : goal.loop-last-preserved
loop-last-preserved c =
    kept_more (is_selected c.args.names.now) c.loop-last.left c.pop.new.self c.loop-last.kept c.keep.new.kept _ c.in-Some.last _ c.in-Some.ensures c.in_ok-keep.ensures.ok
    (selects_same c.args.names.now c.in_ok-set.set c.in_ok-set.ensures.ok c.in-Some.last) c.loop-last.invariant

pub returns-clause-ok : goal.returns-clause-ok
returns-clause-ok c = c.in_ok-reversed.ensures ∙ kept_end (is_selected c.args.names.now) c.loop-last.left c.loop-last.kept _ (rw c.in_default.is at c.pop.ensures).0 c.loop-last.invariant
