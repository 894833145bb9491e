use Rattle.std.proofs.Common.{ap, sym, ◌∙◌}
use Rattle.derive_kit.proofs.Built.{ok_map}
use Rattle.norm_proofs.specs.code.Applying.{is_itself}
use Rattle.norm_proofs.proofs.ApplyingFacts.{applied_itself, applied_other}
use Rattle.norm_proofs.proofs.applying.applied.Goals as goal

pub returns-then-is_itself : goal.returns-then-is_itself
returns-then-is_itself c = sym (applied_itself c.args.implication c.args.part (ap is_itself (sym c.get.ensures) ∙ sym c.is_itself.ensures ∙ c.if-is_itself.true))

pub returns : goal.returns
returns c =
    ok_map c.imp_e.result (λ made e. e ∙ sym (applied_other c.args.implication c.args.part (ap is_itself (sym c.get.ensures) ∙ sym c.is_itself.ensures ∙ c.if-is_itself.false))) c.imp_e.ensures
