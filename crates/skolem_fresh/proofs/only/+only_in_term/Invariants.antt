use Rattle.std.proofs.Common.{◌≡◌, take, true}
use Rattle.std.specs.List.{list_all}
use Rattle.skolem_fresh.specs.code.Only.{only_in_term}
use Rattle.skolem_fresh.proofs.only.+only_in_term.Given as goal

abbrev pub invariant-only_in_terms-loop-term : goal.invariant-only_in_terms-loop-term
invariant-only_in_terms-loop-term l = list_all (only_in_term l.variables l.depth) (take l.term-index l.terms) ≡ true
