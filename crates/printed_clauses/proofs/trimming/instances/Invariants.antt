use Rattle.std.proofs.Common.{◌≡◌, take, map}
use Rattle.clause_form.specs.Covers.{in_lit}
use Rattle.unify_terms.specs.Substitution.{instance}
use Rattle.printed_clauses.proofs.trimming.instances.Given as goal

abbrev pub invariant-loop-lit : goal.invariant-loop-lit
invariant-loop-lit l = l.made ≡ map (in_lit (instance l.subst)) (take l.lit-index l.lits)
