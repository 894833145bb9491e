use Rattle.std.proofs.Common.{rules, arith, ◌^◌}
use Rattle.fof_terms.specs.Sorts.{binder_depth}
use Rattle.fof_terms.proofs.SortsFacts.{binder_depth_equations}
use Rattle.fof_terms.specs.declared.form.Form.TheViews.{the_lemmas}
use Rattle.fof_terms.proofs.Lists.{below_sum}
use Rattle.proof_check.proofs.joint.+joint_instance.Goals as goal

pub joint_instance-joint_instance-requires : goal.joint_instance-joint_instance-requires
joint_instance-joint_instance-requires t c = (search (rules, the_lemmas), (c.requires.movable, grind (arith, binder_depth_equations)))

pub joint_instance-in_all-requires : goal.joint_instance-in_all-requires
joint_instance-in_all-requires t c = (search (rules, the_lemmas), (c.requires.movable, grind (arith, binder_depth_equations)))

pub joint_instance-in_all-requires-in-Or : goal.joint_instance-in_all-requires-in-Or
joint_instance-in_all-requires-in-Or t c = (search (rules, the_lemmas), (c.requires.movable, grind (arith, binder_depth_equations)))

pub joint_instance-joint_instance-requires-in-Imp : goal.joint_instance-joint_instance-requires-in-Imp
joint_instance-joint_instance-requires-in-Imp t c = (search (rules, the_lemmas), (c.requires.movable, grind (arith, binder_depth_equations)))

pub joint_instance-joint_instance-requires-in-Imp-2 : goal.joint_instance-joint_instance-requires-in-Imp-2
joint_instance-joint_instance-requires-in-Imp-2 t c = (search (rules, the_lemmas), (c.requires.movable, grind (arith, binder_depth_equations)))

pub joint_instance-joint_instance-requires-in-Iff : goal.joint_instance-joint_instance-requires-in-Iff
joint_instance-joint_instance-requires-in-Iff t c = (search (rules, the_lemmas), (c.requires.movable, grind (arith, binder_depth_equations)))

pub joint_instance-joint_instance-requires-in-Iff-2 : goal.joint_instance-joint_instance-requires-in-Iff-2
joint_instance-joint_instance-requires-in-Iff-2 t c = (search (rules, the_lemmas), (c.requires.movable, grind (arith, binder_depth_equations)))

pub joint_instance-joint_instance-requires-in-All : goal.joint_instance-joint_instance-requires-in-All
joint_instance-joint_instance-requires-in-All t c = (search (rules, the_lemmas), (c.requires.movable, grind (arith, binder_depth_equations)))

pub joint_instance-joint_instance-requires-in-Ex : goal.joint_instance-joint_instance-requires-in-Ex
joint_instance-joint_instance-requires-in-Ex t c = (search (rules, the_lemmas), (c.requires.movable, grind (arith, binder_depth_equations)))

pub in_all-joint_instance-requires : goal.in_all-joint_instance-requires
in_all-joint_instance-requires t c =
    let below = below_sum binder_depth c.args.depth (2 ^ 31) c.args.forms.now c.requires.shallow in
    (search (rules, the_lemmas), (c.requires.movable, search (rules, below)))
