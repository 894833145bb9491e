use Rattle.std.proofs.Common.{refl}
use Rattle.derive_kit.proofs.Built.{ok_map}
use Rattle.cover_proofs.proofs.NormLines.{itself_shown, line_shown}
use Rattle.cover_proofs.proofs.norm.normed.Goals as goal

pub returns-then-equal : goal.returns-then-equal
returns-then-equal c = itself_shown c.args.signature.now c.args.line.now c.args.parent.now c.in_ok-own.own c.in_ok-own.ensures c.requires.parent (c.if-equal.ensures.0 refl)

pub returns-then-is_one_norm : goal.returns-then-is_one_norm
returns-then-is_one_norm c =
    ok_map c.by_normal_forms.result (λ made leads. line_shown c.args.signature.now c.args.line.now c.args.parent.now c.in_ok-own.own made c.in_ok-own.ensures c.requires.parent c.requires.line leads) c.by_normal_forms.ensures

pub returns : goal.returns
returns c =
    ok_map c.by_flat_forms.result (λ made leads. line_shown c.args.signature.now c.args.line.now c.args.parent.now c.in_ok-own.own made c.in_ok-own.ensures c.requires.parent c.requires.line leads) c.by_flat_forms.ensures
