use Rattle.std.proofs.Common.{◌+◌, ◌*◌}
use Rattle.tptp_grammar.proofs.clauses.+clause.Given as goal

abbrev pub decreases-clause_open : goal.decreases-clause_open
decreases-clause_open l = 2 * l.room

abbrev pub decreases-clause : goal.decreases-clause
decreases-clause l = 2 * l.room + 1
