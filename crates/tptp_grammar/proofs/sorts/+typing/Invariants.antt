use Rattle.std.proofs.Common.{◌+◌, ◌*◌}
use Rattle.tptp_grammar.proofs.sorts.+typing.Given as goal

abbrev pub decreases-typing_open : goal.decreases-typing_open
decreases-typing_open l = 4 * l.room

abbrev pub decreases-typing : goal.decreases-typing
decreases-typing l = 4 * l.room + 1

abbrev pub decreases-closed_typing : goal.decreases-closed_typing
decreases-closed_typing l = 4 * l.room + 2
