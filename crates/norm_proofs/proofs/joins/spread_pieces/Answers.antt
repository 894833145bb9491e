use Rattle.std.proofs.Common.{◌∙◌}
use Rattle.norm_proofs.specs.code.Joining.{spread_tree}
use Rattle.norm_proofs.proofs.Gathered.{numbered_next}
use Rattle.norm_proofs.proofs.joins.spread_pieces.Goals as goal

pub loop-place-preserved : goal.loop-place-preserved
loop-place-preserved c =
    c.in_ok-push.ensures.ok ∙ numbered_next (spread_tree c.args.kind c.args.whole.now c.args.number c.args.inner.now) c.loop-place.place c.loop-place.made c.into_inner.result c.loop-place.invariant (c.into_inner.ensures ∙ c.in_ok-piece.ensures)
