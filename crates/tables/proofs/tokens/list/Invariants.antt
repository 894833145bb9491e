use Rattle.std.proofs.Common.{length}
use Rattle.tables.proofs.tokens.list.Given as goal

abbrev pub decreases-tokens : goal.decreases-tokens
decreases-tokens l = length l.rest
