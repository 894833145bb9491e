use Rattle.derive_kit.proofs.Built.{ok_map}
use Rattle.norm_proofs.proofs.SettledFacts.{ended_shows, alone_shows, kept_shows}
use Rattle.norm_proofs.proofs.Places.{one_alone}
use Rattle.norm_proofs.proofs.joins.settle.Goals as goal

pub returns-in-Some : goal.returns-in-Some
returns-in-Some c =
    ok_map c.ended.result (λ made e n. rw e (ended_shows c.args.kind c.args.forth n c.args.flat.now c.in-Some.number c.in-Some.ensures.1.0 c.in-Some.ensures.1.1 c.in-Some.ensures.1.2)) c.ended.ensures

pub returns-then-flat-eq1 : goal.returns-then-flat-eq1
returns-then-flat-eq1 c =
    ok_map c.alone.result (λ made e n. rw e (alone_shows c.args.kind c.args.forth n c.args.flat.now c.index-flat-0.result c.in_default.ensures (one_alone c.args.flat.now c.index-flat-0.result c.if-flat-eq1.true c.index-flat-0.is))) c.alone.ensures

pub returns : goal.returns
returns c =
    ok_map c.same.result (λ made e n. rw e (rw c.in_ok-node.ensures (kept_shows c.args.kind c.args.forth n c.args.flat.now c.in_default.ensures c.if-flat-eq1.false))) c.same.ensures
