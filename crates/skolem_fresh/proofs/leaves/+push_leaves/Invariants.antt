use Rattle.std.proofs.Common.{◌≡◌, ◌++◌, take}
use Rattle.std.specs.List.{flat_map}
use Rattle.skolem_fresh.specs.code.Leaves.{leaves_of}
use Rattle.skolem_fresh.proofs.leaves.+push_leaves.Given as goal

abbrev pub invariant-push_all_leaves-loop-form : goal.invariant-push_all_leaves-loop-form
invariant-push_all_leaves-loop-form l = l.leaves ≡ l.fn.leaves ++ flat_map (leaves_of l.depth) (take l.form-index l.forms)
