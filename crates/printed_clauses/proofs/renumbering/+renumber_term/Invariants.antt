use Rattle.std.proofs.Common.{◌≡◌, take, map}
use Rattle.printed_clauses.specs.Renumbered.{new_number, renumbered}
use Rattle.printed_clauses.proofs.renumbering.+renumber_term.Given as goal

abbrev pub invariant-renumber_terms-loop-term : goal.invariant-renumber_terms-loop-term
invariant-renumber_terms-loop-term l = l.made ≡ map (renumbered (new_number l.first l.numbers)) (take l.term-index l.terms)
