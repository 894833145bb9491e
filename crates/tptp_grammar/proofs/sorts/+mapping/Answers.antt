use Rattle.std.proofs.Common.{arith, ◌-◌}
use Rattle.first_fault.specs.code.Reading.{tail}
use Rattle.tptp_grammar.specs.code.ReadTypes as spec
use Rattle.tptp_grammar.proofs.Nests.{reads_again, map_some}
use Rattle.tptp_grammar.proofs.sorts.+mapping.Goals as goal

pub map_open-returns : goal.map_open-returns
map_open-returns t c =
    reads_again c.skip.new.self (tail c.args.tokens.now) c.skip.ensures (spec.inside (spec.mapping (c.args.room - 1))) _ c.inside.result c.inside.new.tokens (map_some c.args.room c.args.tokens.now (omega arith)) c.inside.ensures
