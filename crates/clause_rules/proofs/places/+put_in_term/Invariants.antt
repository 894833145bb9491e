use Rattle.std.proofs.Common.{◌≡◌, take, drop}
use Rattle.clause_rules.specs.Places.{put_at}
use Rattle.clause_rules.proofs.places.+put_in_term.Given as goal

abbrev pub invariant-put_in_terms-loop-at : goal.invariant-put_in_terms-loop-at
invariant-put_in_terms-loop-at l = l.made ≡ take l.at (put_at (drop l.from l.place) l.new l.terms)
