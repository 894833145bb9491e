use Rattle.derive_kit.proofs.Built.{ok_map}
use Rattle.norm_proofs.proofs.Gathered.{gather_some, gather_none}
use Rattle.norm_proofs.proofs.joins.gather.Goals as goal

pub returns-in-Some : goal.returns-in-Some
returns-in-Some c =
    ok_map c.gather_pieces.result (λ made e stands. gather_some c.args.kind c.args.flat.now c.args.start c.args.form.now c.in-Some.inner.now made e c.in-Some.ensures.0 c.in-Some.ensures.1 stands) c.gather_pieces.ensures

pub returns-in-None : goal.returns-in-None
returns-in-None c =
    ok_map c.lone_piece.result (λ made e stands. gather_none c.args.kind c.args.flat.now c.args.start c.args.form.now made e c.in-None.ensures stands) c.lone_piece.ensures
