use Rattle.std.proofs.Common.{◌≡◌, take}
use Rattle.clause_rules.specs.Steps.{clauses_of}
use Rattle.substitution_search.proofs.search.clauses_of_parents.Given as goal

abbrev pub invariant-loop-parent : goal.invariant-loop-parent
invariant-loop-parent l = l.clauses ≡ clauses_of (take l.parent-index l.parents)
