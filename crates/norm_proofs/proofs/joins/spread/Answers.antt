use Rattle.std.proofs.Common.{refl}
use Rattle.derive_kit.proofs.Built.{ok_map}
use Rattle.norm_proofs.proofs.Gathered.{spread_some, spread_none}
use Rattle.norm_proofs.proofs.joins.spread.Goals as goal

pub returns-in-Some : goal.returns-in-Some
returns-in-Some c =
    ok_map c.spread_pieces.result (λ made e at. spread_some c.args.kind c.args.whole.now c.args.number c.args.form.now c.in-Some.inner.now made e c.in-Some.ensures.0 c.in-Some.ensures.1 at) c.spread_pieces.ensures

pub returns-in_ok-push-in-None : goal.returns-in_ok-push-in-None
returns-in_ok-push-in-None c = λ at. spread_none c.args.kind c.args.whole.now c.args.number c.args.form.now c.push.new.self (rw (c.in_ok-push-in-None.ensures.ok, c.new-made.ensures, c.into_inner.ensures, c.in_ok-lone_piece-in-None.ensures) refl) c.in-None.ensures at
