use Rattle.std.proofs.Common.{◌≡◌, drop, map}
use Rattle.skolem_fresh.specs.code.Reading.{found_in, found_term}
use Rattle.skolem_fresh.proofs.reading.+term_at.Given as goal

abbrev pub invariant-term_in-loop-i : goal.invariant-term_in-loop-i
invariant-term_in-loop-i l = found_in (map (found_term l.number) (drop l.i l.terms)) (drop l.i l.others) ≡ found_in (map (found_term l.number) l.terms) l.others
