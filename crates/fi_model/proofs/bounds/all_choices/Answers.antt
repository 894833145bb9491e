use Rattle.std.proofs.Common.{sym}
use Rattle.fi_model.specs.Sentences.{choice}
use Rattle.fi_model.proofs.Loops.{more_there, not_all_there}
use Rattle.fi_model.proofs.bounds.all_choices.Goals as goal

pub returns-in-None : goal.returns-in-None
returns-in-None c =
    sym (not_all_there (choice c.args.name.now) c.args.forms.now c.loop-form.form-index c.form-item.result c.loop-form-test.true c.form-item.is (sym c.in-None.ensures))

pub loop-form-preserved : goal.loop-form-preserved
loop-form-preserved c =
    rw c.in_ok-push-in-Some.ensures.ok
    (more_there (choice c.args.name.now) c.args.forms.now c.loop-form.form-index c.form-item.result c.in-Some.element c.loop-form.found c.loop-form-test.true c.form-item.is (sym c.in-Some.ensures) c.loop-form.invariant)
