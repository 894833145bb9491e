use Rattle.std.proofs.Common.{◌+◌, ◌*◌}
use Rattle.tptp_grammar.proofs.sorts.+mapping.Given as goal

abbrev pub decreases-map_open : goal.decreases-map_open
decreases-map_open l = 4 * l.room

abbrev pub decreases-mapping : goal.decreases-mapping
decreases-mapping l = 4 * l.room + 1

abbrev pub decreases-inside : goal.decreases-inside
decreases-inside l = 4 * l.room + 2
