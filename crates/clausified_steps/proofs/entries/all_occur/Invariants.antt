use Rattle.std.proofs.Common.{◌≡◌, take, true}
use Rattle.std.specs.List.{AllByRecursion}
use Rattle.fof_terms.specs.Occurs.{occurs_in}
use Rattle.skolem_fresh.specs.declared.just.Use.{Use}
use Rattle.clausified_steps.proofs.entries.all_occur.Given as goal

abbrev pub invariant-loop-function : goal.invariant-loop-function
invariant-loop-function l = AllByRecursion (λ (u : Use). occurs_in u.function l.line ≡ true) (take l.function-index l.listed)
