-- Chains of instances: a formula, and the terms that are to be put in place of its nearest outer variables.
use Rattle.std.specs.Prelude.{◌≤◌, reverse}
use Rattle.std.specs.List.{All}
use Rattle.fof_terms.specs.declared.form.Form.{Form}
use Rattle.fof_terms.specs.Sorts.{binder_depth}
use Rattle.proof_check.specs.declared.chain.Apart.{Apart}
use Rattle.proof_check.specs.code.JointInstance.{joint_instance_at, IsMovable}

-- the formula with the terms in place
abbrev pub joined_form : Apart → Form
joined_form a = joint_instance_at (reverse a.terms) 0 a.body

-- the numbers of the variables fit when the terms are put in place
pub record IsJoinable (a : Apart) : Type 0 where
  pub movable : All IsMovable a.terms
  pub few_binders : binder_depth a.body ≤ 2147483647
