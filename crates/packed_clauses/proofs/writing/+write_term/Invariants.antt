use Rattle.std.proofs.Common.{◌≡◌, ◌++◌, take}
use Rattle.packed_clauses.specs.code.Spelling.{spelled_terms}
use Rattle.packed_clauses.proofs.writing.+write_term.Given as goal

abbrev pub invariant-write_terms-loop-term : goal.invariant-write_terms-loop-term
invariant-write_terms-loop-term l = l.bytes ≡ l.fn.bytes ++ spelled_terms (take l.term-index l.terms)
