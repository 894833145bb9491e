use Rattle.std.proofs.Common.{◌≡◌, ◌++◌, flat_map, take}
use Rattle.sat_step.specs.Codes.{term_code}
use Rattle.sat_step.proofs.atoms.+put.Given as goal

abbrev pub invariant-put_terms-loop-term : goal.invariant-put_terms-loop-term
invariant-put_terms-loop-term l = l.key.items ≡ l.initial.key.items ++ flat_map term_code (take l.term-index l.terms)
