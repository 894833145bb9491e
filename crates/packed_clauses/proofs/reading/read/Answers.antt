use Rattle.std.proofs.Common.{ap, sym, ◌∙◌, get_or}
use Rattle.packed_clauses.specs.declared.reading.Reader.{Reader}
use Rattle.packed_clauses.specs.Reading.{between, taken}
use Rattle.packed_clauses.proofs.Read.{read_more, read_none}
use Rattle.packed_clauses.proofs.reading.read.Goals as goal

pub loop-byte-init : goal.loop-byte-init
loop-byte-init c = ap between c.new.ensures ∙ sym read_none

pub loop-byte-preserved : goal.loop-byte-preserved
loop-byte-preserved c =
    c.in_ok-reader.ensures
    ∙ ap (λ (r : Reader). taken r (get_or c.args.bytes.now c.loop-byte.byte-index 0)) c.loop-byte.invariant
    ∙ sym (read_more c.args.bytes.now c.loop-byte.byte-index 0 c.loop-byte-test.true)
