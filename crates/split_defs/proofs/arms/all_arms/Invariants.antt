use Rattle.std.proofs.Common.{◌≡◌, ◌≤◌, ◌++◌, List, drop}
use Rattle.fof_terms.specs.Scope.{scope_sorts}
use Rattle.kernel.specs.declared.proof.Proof.{Proof}
use Rattle.split_defs.specs.code.SplitProof.{AllArms, AreGoals, variables_in}
use Rattle.split_defs.proofs.arms.all_arms.Given as goal

abbrev pub invariant-loop-i : goal.invariant-loop-i
invariant-loop-i l = record {
  left : l.left ≡ variables_in (drop l.i l.stages);
  few : l.left ≤ 1000000000;
  goals : AreGoals l.sig (scope_sorts l.scope) (drop l.i l.stages);
  arms : (last : List Proof) → AllArms l.sig (scope_sorts l.scope) (drop l.i l.stages) last → AllArms l.sig (scope_sorts l.scope) l.stages (l.arms ++ last);
}
