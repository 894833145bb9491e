use Rattle.std.proofs.Common.{◌+◌, ◌*◌}
use Rattle.tptp_grammar.proofs.typed_clauses.+typed_clause.Given as goal

abbrev pub decreases-typed_clause : goal.decreases-typed_clause
decreases-typed_clause l = 4 * l.room + 3

abbrev pub decreases-quantified : goal.decreases-quantified
decreases-quantified l = 4 * l.room + 2

abbrev pub decreases-scope : goal.decreases-scope
decreases-scope l = 4 * l.room + 1

abbrev pub decreases-nested : goal.decreases-nested
decreases-nested l = 4 * l.room
