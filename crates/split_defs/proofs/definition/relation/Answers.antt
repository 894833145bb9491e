use Rattle.split_defs.proofs.Headings.{no_heads}
use Rattle.split_defs.proofs.definition.relation.Goals as goal

pub returns-in-None : goal.returns-in-None
returns-in-None c = no_heads c.args.theory.now c.args.left.now c.args.right.now c.in_ok-symbol.field-0 c.in_ok-symbol-2.field-0 c.in_default.is c.in-None.is c.in_ok-symbol.ensures c.in_ok-symbol-2.ensures
