use Rattle.std.proofs.Common.{refl, ap, sym, ◌∙◌}
use Rattle.derive_kit.proofs.Built.{ok_map}
use Rattle.norm_proofs.specs.code.Applying.{is_itself}
use Rattle.norm_proofs.proofs.AlongsideFacts.{under_itself, under_other}
use Rattle.norm_proofs.proofs.paths.below.Goals as goal

pub returns-then-is_itself : goal.returns-then-is_itself
returns-then-is_itself c =
    let is = ap is_itself (sym c.get.ensures) ∙ sym c.is_itself.ensures ∙ c.if-is_itself.true in
    ok_map c.same.result (λ made e. e ∙ (rw (under_itself c.args.sort c.args.body.now c.args.part is, c.in_ok-whole.ensures, c.in_ok-copy.ensures) refl)) c.same.ensures

pub returns : goal.returns
returns c =
    let is = ap is_itself (sym c.get.ensures) ∙ sym c.is_itself.ensures ∙ c.if-is_itself.false in
    ok_map c.under.result (λ made e. e ∙ (rw (under_other c.args.sort c.args.body.now c.args.part is, c.in_ok-whole.ensures, c.in_ok-copy.ensures, c.in_ok-last.ensures, c.in_ok-imp_e.ensures, c.in_ok-own.ensures, c.in_ok-hyp.ensures) refl)) c.under.ensures
