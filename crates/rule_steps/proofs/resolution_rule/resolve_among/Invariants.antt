use Rattle.std.proofs.Common.{ℕ, ◌<◌, List}
use Rattle.fof_terms.specs.declared.term.Term.{Term}
use Rattle.rule_steps.specs.code.ResolutionSearch.{ResolvesFrom}
use Rattle.rule_steps.proofs.resolution_rule.resolve_among.Given as goal

abbrev pub invariant-loop-a : goal.invariant-loop-a
invariant-loop-a l = (a : ℕ) → a < l.a → (b i j : ℕ) (more : List ℕ) (s : ℕ → Term) → ResolvesFrom l.search.sig.now l.search.clauses.now l.search.line.now a b i j more s → ⊥
