use Rattle.derive_kit.proofs.Built.{ok_map}
use Rattle.input_proofs.proofs.FormFacts.{linked_shown}
use Rattle.input_proofs.proofs.forms.linked.Goals as goal

pub returns : goal.returns
returns c =
    ok_map c.imp_e-2.result
    (λ made e. linked_shown c.args.form.now c.args.number c.args.part c.in_ok-cited.cited c.in_ok-norm_forth.field-0 c.in_ok-norm.norm made c.in_ok-cited.ensures c.in_ok-norm_forth.ensures c.in_ok-norm.ensures e) c.imp_e-2.ensures
