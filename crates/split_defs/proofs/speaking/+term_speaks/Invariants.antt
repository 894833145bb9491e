use Rattle.std.proofs.Common.{◌≡◌, take, true}
use Rattle.std.specs.List.{list_all}
use Rattle.split_defs.specs.code.Renaming.{speaks_in_term}
use Rattle.split_defs.proofs.speaking.+term_speaks.Given as goal

abbrev pub invariant-terms_speak-loop-term : goal.invariant-terms_speak-loop-term
invariant-terms_speak-loop-term l = list_all (speaks_in_term l.names.keys l.depth) (take l.term-index l.terms) ≡ true
