use Rattle.std.proofs.Common.{take}
use Rattle.std.specs.List.{All as Each}
use Rattle.clause_form.specs.Covers.{AreComplementary}
use Rattle.clause_form.proofs.sameness.has_opposite.Given as goal

abbrev pub invariant-loop-lit : goal.invariant-loop-lit
invariant-loop-lit l = Each (λ k. AreComplementary l.to k → ⊥) (take l.lit-index l.lits)
