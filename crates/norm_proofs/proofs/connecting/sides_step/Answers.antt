use Rattle.std.proofs.Common.{ap, ◌∙◌, List}
use Rattle.fof_terms.specs.declared.form.Form.{Form, Or}
use Rattle.clause_form.specs.Norm.{norm_of}
use Rattle.derive_kit.proofs.Built.{ok_map}
use Rattle.norm_proofs.proofs.NormsFacts.{sides_size}
use Rattle.norm_proofs.proofs.Made.{sides_made, sides_norms}
use Rattle.norm_proofs.proofs.connecting.sides_step.Goals as goal

pub pair_step-requires-clause-size : goal.pair_step-requires-clause-size
pair_step-requires-clause-size c = rw (c.as_slice.ensures, c.in_ok-forms.ensures, sides_size c.args.left.now c.args.right.now) c.requires.size

pub pair_step-requires-clause-norms : goal.pair_step-requires-clause-norms
pair_step-requires-clause-norms c = sides_norms c.args.positive c.as_slice.result.now c.args.left.now c.args.right.now c.args.first.norm c.args.second.norm (c.as_slice.ensures ∙ c.in_ok-forms.ensures) c.requires.first c.requires.second

pub returns-clause-norm : goal.returns-clause-norm
returns-clause-norm c = ok_map c.pair_step.result (λ made e. e ∙ ap (λ (ms : List Form). norm_of c.args.positive (Or ms)) (c.as_slice.ensures ∙ c.in_ok-forms.ensures)) c.pair_step.ensures.norm

pub returns-clause-part : goal.returns-clause-part
returns-clause-part c =
    ok_map c.pair_step.result (λ made f n l k.
    sides_made c.args.positive c.args.forth n c.as_slice.result.now c.in_ok-part.part c.args.second.part made.part c.args.left.now c.args.right.now (c.as_slice.ensures ∙ c.in_ok-forms.ensures) f
    ((rw (c.get.ensures, c.requires.first) at (c.in_ok-part.ensures n)) l) k) c.pair_step.ensures.part
