use Rattle.std.proofs.Common.{refl, ap, ◌∙◌, List}
use Rattle.fof_terms.specs.declared.form.Form.{Form, And}
use Rattle.clause_form.specs.Norm.{norm_of}
use Rattle.derive_kit.proofs.Built.{ok_map}
use Rattle.norm_proofs.proofs.NormsFacts.{both_size, norm_of_both}
use Rattle.norm_proofs.proofs.Made.{iff_made, both_norms}
use Rattle.norm_proofs.proofs.connecting.iff_step.Goals as goal

pub pair_step-requires-clause-size : goal.pair_step-requires-clause-size
pair_step-requires-clause-size c = rw (c.as_slice.ensures, c.in_ok-forms.ensures, both_size c.args.left.now c.args.right.now) c.requires.size

pub pair_step-requires-clause-norms : goal.pair_step-requires-clause-norms
pair_step-requires-clause-norms c = both_norms c.args.positive c.as_slice.result.now c.args.left.now c.args.right.now c.args.first.norm c.args.second.norm (c.as_slice.ensures ∙ c.in_ok-forms.ensures) c.requires.first c.requires.second

pub by_other-requires : goal.by_other-requires
by_other-requires c = rw (c.in_ok-other.ensures, c.as_slice-2.ensures) (c.in_ok-inner.ensures.norm ∙ ap (λ (ms : List Form). norm_of c.args.positive (And ms)) c.as_slice.ensures)

pub returns-clause-norm : goal.returns-clause-norm
returns-clause-norm c =
    ok_map c.by_other.result (λ made e. e ∙ c.in_ok-inner.ensures.norm ∙ ap (λ (ms : List Form). norm_of c.args.positive (And ms)) (c.as_slice.ensures ∙ c.in_ok-forms.ensures) ∙ norm_of_both c.args.positive c.args.left.now c.args.right.now) c.by_other.ensures.norm

pub returns-clause-part : goal.returns-clause-part
returns-clause-part c =
    ok_map c.by_other.result (λ made f n l k.
    iff_made c.args.positive c.args.forth n c.toward.result c.in_ok-whole.whole c.in_ok-other.other c.args.left.now c.args.right.now c.as_slice.result.now c.in_ok-turned.turned c.in_ok-inner.inner.part made.part c.args.first.part c.args.second.part
    (rw (c.in_ok-whole.ensures, c.in_ok-copy.ensures, c.in_ok-copy-2.ensures) refl) (rw (c.in_ok-other.ensures, c.as_slice-2.ensures, c.in_ok-forms.ensures) refl) (c.as_slice.ensures ∙ c.in_ok-forms.ensures) c.in_ok-turned.ensures c.toward.ensures f c.in_ok-inner.ensures.part l k) c.by_other.ensures.part
