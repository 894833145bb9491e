use Rattle.clause_form.proofs.Views.{and_is_none, or_is_none}
use Rattle.clause_form.proofs.view.as_atom.Goals as goal

pub returns-else-is_empty : goal.returns-else-is_empty
returns-else-is_empty c = and_is_none c.args.form.now c.in-And.members c.is_empty.result c.in-And.is c.if-is_empty.false c.is_empty.ensures

pub returns-else-is_empty-2 : goal.returns-else-is_empty-2
returns-else-is_empty-2 c = or_is_none c.args.form.now c.in-Or.members c.is_empty-in-Or.result c.in-Or.is c.if-is_empty-2.false c.is_empty-in-Or.ensures
