use Rattle.std.proofs.Common.{◌≡◌, take, map}
use Rattle.flat_form.specs.Renumbered.{renumbered_term}
use Rattle.flat_form.specs.Numbers.{listed}
use Rattle.flat_form.proofs.numbering.+renumber_term.Given as goal

abbrev pub invariant-renumber_terms-loop-term : goal.invariant-renumber_terms-loop-term
invariant-renumber_terms-loop-term l = l.made ≡ map (renumbered_term (listed l.near l.outside) l.depth) (take l.term-index l.terms)
