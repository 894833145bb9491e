use Rattle.std.proofs.Common.{◌≡◌, take, map}
use Rattle.unify_terms.specs.Substitution.{instance}
use Rattle.printed_clauses.proofs.trimming.instances_of.Given as goal

abbrev pub invariant-loop-term : goal.invariant-loop-term
invariant-loop-term l = l.made ≡ map (instance l.subst) (take l.term-index l.terms)
