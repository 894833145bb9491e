use Rattle.std.proofs.Common.{take}
use Rattle.superpose.specs.code.Noted.{IsNoted, AllStayWith}
use Rattle.superpose.proofs.noting.+note_term.Given as goal

abbrev pub invariant-note_terms-loop-term : goal.invariant-note_terms-loop-term
invariant-note_terms-loop-term l = IsNoted l.count l.fn.noted l.noted (AllStayWith (take l.term-index l.terms))
