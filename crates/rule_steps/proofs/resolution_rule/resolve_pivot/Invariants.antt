use Rattle.std.proofs.Common.{ℕ, ◌<◌, List}
use Rattle.fof_terms.specs.declared.term.Term.{Term}
use Rattle.rule_steps.specs.code.ResolutionSearch.{ResolvesWith}
use Rattle.rule_steps.proofs.resolution_rule.resolve_pivot.Given as goal

abbrev pub invariant-loop-b : goal.invariant-loop-b
invariant-loop-b l = (b : ℕ) → b < l.b → (j : ℕ) (more : List ℕ) (s : ℕ → Term) → ResolvesWith l.search.sig.now l.search.clauses.now l.left l.search.line.now b l.i j more s → ⊥
