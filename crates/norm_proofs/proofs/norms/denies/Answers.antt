use Rattle.std.proofs.Common.{sym, ◌∙◌}
use Rattle.norm_proofs.proofs.NormsFacts.{same_if, room}
use Rattle.norm_proofs.proofs.norms.denies.Goals as goal

pub norm_signed-requires : goal.norm_signed-requires
norm_signed-requires c = room c.args.denied.now c.requires.first

pub norm_signed-requires-2 : goal.norm_signed-requires-2
norm_signed-requires-2 c = room c.args.form.now c.requires.second

pub returns : goal.returns
returns c = λ yes. sym (c.get.ensures ∙ c.in_ok-one.ensures ∙ c.in_ok-norm_signed.ensures) ∙ same_if c.equal.result _ c.equal.ensures yes ∙ (c.get-2.ensures ∙ c.in_ok-other.ensures ∙ c.in_ok-norm_signed-2.ensures)
