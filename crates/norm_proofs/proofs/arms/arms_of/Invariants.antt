use Rattle.std.proofs.Common.{take, drop, reverse}
use Rattle.fof_terms.specs.Sorts.{binder_depth}
use Rattle.clause_form.specs.Norm.{node}
use Rattle.norm_proofs.specs.code.Links.{PartsFrom, Arm}
use Rattle.norm_proofs.specs.code.Recursion.{IsStep}
use Rattle.norm_proofs.proofs.arms.arms_of.Given as goal

abbrev pub invariant-loop-number : goal.invariant-loop-number
invariant-loop-number l =
    PartsFrom (λ k a p. IsStep l.way.positive l.way.forth a p) l.number (drop l.number l.forms) (reverse l.left)
    × PartsFrom (Arm l.way.conjunction l.way.positive l.way.forth (binder_depth (node l.way.conjunction l.forms)) l.forms) 0 (take l.number l.forms) l.made
