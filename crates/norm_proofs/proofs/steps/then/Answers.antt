use Rattle.std.proofs.Common.{ap, sym, ◌∙◌}
use Rattle.fof_terms.specs.declared.form.Form.{Form}
use Rattle.kernel.specs.declared.proof.Proof.{ImpI}
use Rattle.derive_kit.proofs.Built.{ok_map}
use Rattle.norm_proofs.specs.code.Applying.{is_itself}
use Rattle.norm_proofs.proofs.StepsFacts.{then_first, then_last, then_forth_made, then_back_made}
use Rattle.norm_proofs.proofs.steps.then.Goals as goal

pub returns-then-is_itself : goal.returns-then-is_itself
returns-then-is_itself c = sym (then_first c.args.forth c.args.first c.args.last c.args.before c.args.after (ap is_itself (sym c.get.ensures) ∙ sym c.is_itself.ensures ∙ c.if-is_itself.true))

pub returns-then-is_itself-2 : goal.returns-then-is_itself-2
returns-then-is_itself-2 c =
    sym
    (then_last c.args.forth c.args.first c.args.last c.args.before c.args.after (ap is_itself (sym c.get.ensures) ∙ sym c.is_itself.ensures ∙ c.if-is_itself.false)
    (ap is_itself (sym c.get-2.ensures) ∙ sym c.is_itself-2.ensures ∙ c.if-is_itself-2.true))

pub returns-then-forth : goal.returns-then-forth
returns-then-forth c =
    ok_map c.under.result (λ node e.
    then_forth_made c.args.forth c.args.first c.args.last c.args.before c.args.after node c.in_ok-imp_e.field-0 c.in_ok-middle.middle c.in_ok-own.own (ap is_itself (sym c.get.ensures) ∙ sym c.is_itself.ensures ∙ c.if-is_itself.false)
    (ap is_itself (sym c.get-2.ensures) ∙ sym c.is_itself-2.ensures ∙ c.if-is_itself-2.false) c.if-forth.true (e ∙ ap (λ (x : Form). ImpI x c.in_ok-imp_e.field-0) c.first.view_is) c.in_ok-imp_e.ensures c.in_ok-middle.ensures c.in_ok-own.ensures) c.under.ensures

pub returns : goal.returns
returns c =
    ok_map c.under-2.result (λ node e.
    then_back_made c.args.forth c.args.first c.args.last c.args.before c.args.after node c.in_ok-imp_e-2.field-0 c.in_ok-middle-2.middle c.in_ok-own.own (ap is_itself (sym c.get.ensures) ∙ sym c.is_itself.ensures ∙ c.if-is_itself.false)
    (ap is_itself (sym c.get-2.ensures) ∙ sym c.is_itself-2.ensures ∙ c.if-is_itself-2.false) c.if-forth.false (e ∙ ap (λ (x : Form). ImpI x c.in_ok-imp_e-2.field-0) c.last.view_is) c.in_ok-imp_e-2.ensures c.in_ok-middle-2.ensures c.in_ok-own.ensures) c.under-2.ensures
