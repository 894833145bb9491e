use Rattle.std.proofs.Common.{◌∙◌}
use Rattle.norm_proofs.specs.code.Joining.{lone_tree}
use Rattle.norm_proofs.proofs.Gathered.{numbered_after}
use Rattle.norm_proofs.proofs.joins.lone_pieces.Goals as goal

pub loop-place-preserved : goal.loop-place-preserved
loop-place-preserved c =
    c.in_ok-push.ensures.ok ∙ numbered_after (lone_tree c.args.kind c.args.flat.now) c.args.start c.loop-place.place c.loop-place.made c.into_inner.result c.loop-place.invariant (c.into_inner.ensures ∙ c.in_ok-piece.ensures)
