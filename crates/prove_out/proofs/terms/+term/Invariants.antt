use Rattle.std.proofs.Common.{take}
use Rattle.prove_out.specs.code.Written.{EachWritten, WritesTerm}
use Rattle.prove_out.proofs.terms.+term.Given as goal

abbrev pub invariant-written_terms-loop-term : goal.invariant-written_terms-loop-term
invariant-written_terms-loop-term l = EachWritten (WritesTerm l.sig l.depth) (take l.term-index l.terms) l.written
