use Rattle.std.proofs.Common.{take}
use Rattle.std.specs.List.{AllByRecursion}
use Rattle.norm_proofs.proofs.Standing.{Stands}
use Rattle.norm_proofs.proofs.normal.+is_normal.Given as goal

abbrev pub invariant-are_normal-loop-form : goal.invariant-are_normal-loop-form
invariant-are_normal-loop-form l = AllByRecursion (Stands l.kind) (take l.form-index l.forms)
