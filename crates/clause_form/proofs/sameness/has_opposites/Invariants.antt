use Rattle.std.proofs.Common.{take}
use Rattle.std.specs.List.{All as Each}
use Rattle.clause_form.specs.Covers.{AreComplementary, HasOne}
use Rattle.clause_form.proofs.sameness.has_opposites.Given as goal

abbrev pub invariant-loop-lit : goal.invariant-loop-lit
invariant-loop-lit l = Each (λ k. HasOne (AreComplementary k) l.lits → ⊥) (take l.lit-index l.lits)
