use Rattle.substitution_search.proofs.Names.{name_read, name_past}
use Rattle.substitution_search.proofs.naming.name_of.Goals as goal

pub returns-then-at-names : goal.returns-then-at-names
returns-then-at-names c = name_read c.args.names.now c.args.variable c.if-at-names.true

pub returns-else-at-names : goal.returns-else-at-names
returns-else-at-names c = name_past c.args.names.now c.args.variable c.if-at-names.false
