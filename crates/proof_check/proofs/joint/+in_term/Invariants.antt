use Rattle.std.proofs.Common.{◌≡◌, take, map, reverse}
use Rattle.proof_check.specs.code.JointInstance.{joint_instance_term}
use Rattle.proof_check.proofs.joint.+in_term.Given as goal

abbrev pub invariant-in_terms-loop-arg : goal.invariant-in_terms-loop-arg
invariant-in_terms-loop-arg l = l.instances ≡ map (joint_instance_term (reverse l.terms) l.depth) (take l.arg-index l.args)
