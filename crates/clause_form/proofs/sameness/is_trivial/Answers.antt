use Rattle.clause_form.proofs.Ones.{trivial_by}
use Rattle.clause_form.proofs.sameness.is_trivial.Goals as goal

pub returns : goal.returns
returns c = trivial_by c.args.clause.now.lits c.as_slice-lits.result.now c.has_truth.result c.has_opposites.result c.as_slice-lits.ensures c.if-has_truth.false c.has_truth.ensures c.has_opposites.ensures
