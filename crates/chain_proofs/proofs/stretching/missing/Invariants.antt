use Rattle.std.proofs.Common.{take, Contains}
use Rattle.clause_form.specs.declared.clause.Lit.{Lit}
use Rattle.chain_proofs.proofs.stretching.missing.Given as goal

abbrev pub invariant-loop-lit : goal.invariant-loop-lit
invariant-loop-lit l = (x : Lit) → Contains (take l.lit-index l.lits) x → Contains l.known.lits x
