use Rattle.std.proofs.Common.{◌∙◌}
use Rattle.derive_kit.proofs.Built.{ok_map}
use Rattle.norm_proofs.proofs.RoutesFacts.{segment_one, segment_several}
use Rattle.norm_proofs.proofs.widening.by_segment.Goals as goal

pub returns-then-count-eq1 : goal.returns-then-count-eq1
returns-then-count-eq1 c = ok_map c.chosen.result (λ made e. e ∙ segment_one c.args.members.now c.args.start c.args.count c.args.part c.if-count-eq1.true) c.chosen.ensures

pub returns : goal.returns
returns c =
    ok_map c.or_e.result (λ made e. rw e (rw (c.into_inner.ensures, c.in_ok-goal.ensures, c.in_ok-arms.ensures) (segment_several c.args.members.now c.args.start c.args.count c.args.part c.if-count-eq1.false))) c.or_e.ensures
