use Rattle.std.proofs.Common.{◌↔◌, drop, take}
use Rattle.fof_terms.specs.Scope.{scope_sorts}
use Rattle.proof_check.specs.code.Hypotheses.{hypotheses}
use Rattle.proof_check.specs.code.Concludes.{EachUnder}
use Rattle.proof_check.proofs.ConcludedLists.{AllFound}
use Rattle.proof_check.proofs.+conclude_in.Given as goal

abbrev pub invariant-deduction::all_conclude-loop-i : goal.invariant-deduction::all_conclude-loop-i
invariant-deduction::all_conclude-loop-i l =
    EachUnder l.reach.theory.now (scope_sorts l.reach.scope.now) (hypotheses l.reach.hyps.now) l.goal (drop l.i l.cases) (drop l.i l.members)
    ↔ EachUnder l.reach.theory.now (scope_sorts l.reach.scope.now) (hypotheses l.reach.hyps.now) l.goal l.cases l.members

abbrev pub invariant-nodes::and_i-loop-part : goal.invariant-nodes::and_i-loop-part
invariant-nodes::and_i-loop-part l = AllFound l.reach.theory.now (scope_sorts l.reach.scope.now) (hypotheses l.reach.hyps.now) (take l.part-index l.parts) l.forms
