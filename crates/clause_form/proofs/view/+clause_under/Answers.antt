use Rattle.clause_form.proofs.Views.{or_done}
use Rattle.clause_form.proofs.view.+clause_under.Goals as goal

pub returns-in_ok-lits-in-Or : goal.returns-in_ok-lits-in-Or
returns-in_ok-lits-in-Or t c =
    or_done c.args.form.now c.in-Or.members c.as_slice.result.now c.args.sorts c.in_ok-lits-in-Or.lits c.with_sorts.result c.in-Or.is c.as_slice.ensures c.in_ok-lits-in-Or.ensures c.with_sorts.ensures
