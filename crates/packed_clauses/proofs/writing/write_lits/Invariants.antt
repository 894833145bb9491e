use Rattle.std.proofs.Common.{◌≡◌, ◌++◌, take}
use Rattle.packed_clauses.specs.code.Spelling.{spelled_lits}
use Rattle.packed_clauses.proofs.writing.write_lits.Given as goal

abbrev pub invariant-loop-lit : goal.invariant-loop-lit
invariant-loop-lit l = l.bytes ≡ l.fn.bytes ++ spelled_lits (take l.lit-index l.lits)
