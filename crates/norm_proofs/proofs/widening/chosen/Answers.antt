use Rattle.std.proofs.Common.{◌∙◌, ap, List}
use Rattle.fof_terms.specs.declared.form.Form.{Form}
use Rattle.kernel.specs.declared.proof.Proof.{OrI}
use Rattle.derive_kit.proofs.Built.{ok_map}
use Rattle.norm_proofs.proofs.RoutesFacts.{chosen_one, chosen_several}
use Rattle.norm_proofs.proofs.widening.chosen.Goals as goal

pub returns-then-members-eq1 : goal.returns-then-members-eq1
returns-then-members-eq1 c = chosen_one c.args.members.now c.args.number c.args.part c.if-members-eq1.true

pub returns : goal.returns
returns c =
    ok_map c.or_i.result (λ made e. e ∙ ap (λ (xs : List Form). OrI xs c.args.number c.args.part) c.in_ok-copy_all.ensures ∙ chosen_several c.args.members.now c.args.number c.args.part c.if-members-eq1.false) c.or_i.ensures
