use Rattle.std.proofs.Common.{ap, ◌∙◌}
use Rattle.clause_form.specs.Norm.{signed}
use Rattle.derive_kit.proofs.Built.{ok_map}
use Rattle.norm_proofs.proofs.StepsFacts.{same_shows}
use Rattle.norm_proofs.proofs.connecting.literal.Goals as goal

pub returns-clause-norm : goal.returns-clause-norm
returns-clause-norm c = ok_map c.unchanged.result (λ made e. e ∙ c.in_ok-signed.ensures ∙ ap (signed c.args.positive) c.in_ok-copy.ensures) c.unchanged.ensures.norm

pub returns-clause-part : goal.returns-clause-part
returns-clause-part c = ok_map c.unchanged.result (λ made e forth n. rw e (rw (c.in_ok-signed.ensures, c.in_ok-copy.ensures) (same_shows forth n _))) c.unchanged.ensures.part
