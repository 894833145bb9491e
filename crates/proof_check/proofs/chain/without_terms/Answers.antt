use Rattle.std.proofs.Common.{◌∙◌, sym, ap, reverse, Some}
use Rattle.proof_check.specs.code.JointInstance.{joint_instance_at}
use Rattle.proof_check.proofs.JointFacts.{joint_none}
use Rattle.proof_check.proofs.chain.without_terms.Goals as goal

pub returns-in-Some-clause-shown : goal.returns-in-Some-clause-shown
returns-in-Some-clause-shown c = ap Some (ap (λ us. joint_instance_at (reverse us) 0 c.in-Some.body) c.new.ensures ∙ joint_none c.in-Some.body 0) ∙ sym c.in-Some.is
