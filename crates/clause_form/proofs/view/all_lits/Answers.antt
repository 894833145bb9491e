use Rattle.std.proofs.Common.{sym, ◌∙◌}
use Rattle.clause_form.specs.ClauseView.{view_of}
use Rattle.clause_form.proofs.Views.{more_there, not_all_there}
use Rattle.clause_form.proofs.view.all_lits.Goals as goal

pub returns-in-None : goal.returns-in-None
returns-in-None c =
    sym (not_all_there (λ a. (view_of a).lit) c.args.forms.now c.loop-form.form-index c.form-item.result c.loop-form-test.true c.form-item.is (sym c.in_ok-lit.ensures ∙ c.in-None.is))

pub loop-form-preserved : goal.loop-form-preserved
loop-form-preserved c =
    rw c.in_ok-push-in-Some.ensures.ok
    (more_there (λ a. (view_of a).lit) c.args.forms.now c.loop-form.form-index c.form-item.result c.in-Some.lit c.loop-form.lits c.loop-form-test.true c.form-item.is (sym c.in_ok-lit.ensures ∙ c.in-Some.is) c.loop-form.invariant)
