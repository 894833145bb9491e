use Rattle.std.proofs.Common.{sym, ◌∙◌}
use Rattle.derive_kit.proofs.Built.{ok_map}
use Rattle.norm_proofs.proofs.Gathered.{flat_spread, flat_gather}
use Rattle.norm_proofs.proofs.joins.flat_step.Goals as goal

pub returns-then-toward : goal.returns-then-toward
returns-then-toward c =
    ok_map c.plain_link.result (λ made e n. flat_spread c.args.kind c.args.forth n c.args.whole.now c.args.flat.now c.in_ok-pieces.pieces made (sym c.toward.ensures ∙ c.if-toward.true) c.requires.joined e c.in_ok-pieces.ensures) c.plain_link.ensures

pub returns : goal.returns
returns c =
    ok_map c.plain_link-2.result (λ made e n. flat_gather c.args.kind c.args.forth n c.args.whole.now c.args.flat.now c.in_ok-pieces-2.pieces made (sym c.toward.ensures ∙ c.if-toward.false) c.requires.joined e c.in_ok-pieces-2.ensures) c.plain_link-2.ensures
