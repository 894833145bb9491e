use Rattle.std.proofs.Common.{◌∙◌, arith}
use Rattle.clause_form.specs.Paths.{forms_of}
use Rattle.verifier.proofs.FaultCauses.{result_cause}
use Rattle.verifier.proofs.Knowing.{given_forms}
use Rattle.verifier.proofs.Running.{ran_over, stopped_over}
use Rattle.verifier.proofs.run.run_lines.Goals as goal

pub returns-clause-ran : goal.returns-clause-ran
returns-clause-ran g c =
    ran_over c.run_in_order.result c.args.theory.now c.run_in_order.new.theory _ _ c.args.limit (forms_of c.as_slice.result.now) c.args.theory.now.formulas _ _ c.args.forms.now _ _ (given_forms c.as_slice.result.now c.args.theory.now.formulas (c.as_slice.ensures ∙ c.in_ok-given.ensures)) c.as_slice-2.ensures c.as_slice-3.ensures c.run_in_order.ensures.ran

pub returns-clause-cause : goal.returns-clause-cause
returns-clause-cause g c =
    result_cause c.run_in_order.result _ _ _ _ _ (omega arith)
    (λ place. stopped_over c.args.theory.now c.run_in_order.new.theory _ _ c.args.limit place (forms_of c.as_slice.result.now) c.args.theory.now.formulas _ _ c.args.forms.now _ _ (given_forms c.as_slice.result.now c.args.theory.now.formulas (c.as_slice.ensures ∙ c.in_ok-given.ensures)) c.as_slice-2.ensures c.as_slice-3.ensures)
    c.run_in_order.ensures.cause
