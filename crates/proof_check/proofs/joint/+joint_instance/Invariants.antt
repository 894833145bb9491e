use Rattle.std.proofs.Common.{◌≡◌, take, map, reverse}
use Rattle.proof_check.specs.code.JointInstance.{joint_instance_at}
use Rattle.proof_check.proofs.joint.+joint_instance.Given as goal

abbrev pub invariant-in_all-loop-form : goal.invariant-in_all-loop-form
invariant-in_all-loop-form l = l.instances ≡ map (joint_instance_at (reverse l.terms) l.depth) (take l.form-index l.forms)
