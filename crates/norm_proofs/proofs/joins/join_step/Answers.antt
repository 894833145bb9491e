use Rattle.std.proofs.Common.{refl, ◌∙◌}
use Rattle.derive_kit.proofs.Built.{ok_map}
use Rattle.norm_proofs.proofs.Gathered.{join_settled, join_both}
use Rattle.norm_proofs.proofs.joins.join_step.Goals as goal

pub returns-then-equal_all : goal.returns-then-equal_all
returns-then-equal_all c = λ n.
    join_settled c.args.kind c.args.forth n c.args.whole.now c.in_ok-flat.flat c.in_ok-last.last c.in_ok-flat.ensures (c.if-equal_all.ensures.0 refl ∙ c.as_slice-2.ensures) (rw c.as_slice.ensures at (c.in_ok-last.ensures n))

pub returns : goal.returns
returns c =
    ok_map c.then.result (λ made e n.
    join_both c.args.kind c.args.forth n c.args.whole.now c.in_ok-flat.flat made c.in_ok-before.before c.in_ok-last.last c.in_ok-joined.joined (e ∙ (rw c.in_ok-node.ensures refl)) (c.in_ok-joined.ensures ∙ c.join_flat.ensures) c.in_ok-flat.ensures
    (rw c.as_slice-3.ensures at (c.in_ok-before.ensures n)) (rw c.as_slice.ensures at (c.in_ok-last.ensures n))) c.then.ensures
