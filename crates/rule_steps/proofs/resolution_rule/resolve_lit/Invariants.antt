use Rattle.std.proofs.Common.{ℕ, ◌<◌, List}
use Rattle.fof_terms.specs.declared.term.Term.{Term}
use Rattle.clause_rules.specs.ResolutionRule.{ResolvesTo}
use Rattle.rule_steps.proofs.resolution_rule.resolve_lit.Given as goal

abbrev pub invariant-loop-j : goal.invariant-loop-j
invariant-loop-j l = (j : ℕ) → j < l.j → (more : List ℕ) (s : ℕ → Term) → ResolvesTo l.search.sig.now l.left l.right l.search.line.now l.i j more s → ⊥
