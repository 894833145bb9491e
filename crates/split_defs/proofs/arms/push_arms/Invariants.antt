use Rattle.std.proofs.Common.{◌≡◌, ◌++◌, List, take}
use Rattle.fof_terms.specs.Scope.{scope_sorts}
use Rattle.kernel.specs.declared.proof.Proof.{Proof}
use Rattle.clause_proofs.specs.Refuting.{body}
use Rattle.split_defs.specs.code.SplitProof.{EachRefutes}
use Rattle.split_defs.proofs.arms.push_arms.Given as goal

abbrev pub invariant-loop-lit : goal.invariant-loop-lit
invariant-loop-lit l = (made : List Proof) × (l.arms ≡ l.fn.arms ++ made) × EachRefutes l.sig (scope_sorts l.scope) l.denial (body l.goal) (take l.lit-index l.lits) made
