use Rattle.std.proofs.Common.{◌≡◌, take, map}
use Rattle.split_defs.specs.code.Renaming.{renamed_term}
use Rattle.split_defs.proofs.renaming.+rename_term.Given as goal

abbrev pub invariant-rename_terms-loop-term : goal.invariant-rename_terms-loop-term
invariant-rename_terms-loop-term l = l.made ≡ map (renamed_term l.names.keys l.depth) (take l.term-index l.terms)
