use Rattle.std.proofs.Common.{◌≡◌, take, map}
use Rattle.skolem_fresh.specs.Renamed.{renamed_term}
use Rattle.skolem_fresh.proofs.renaming.+rename_term.Given as goal

abbrev pub invariant-rename_terms-loop-term : goal.invariant-rename_terms-loop-term
invariant-rename_terms-loop-term l = l.made ≡ map (renamed_term l.variables l.depth) (take l.term-index l.terms)
