use Rattle.std.proofs.Common.{◌≡◌, take, false}
use Rattle.std.specs.List.{list_any}
use Rattle.clause_form.specs.Norm.{ends}
use Rattle.norm_proofs.proofs.joins.find_end.Given as goal

abbrev pub invariant-loop-number : goal.invariant-loop-number
invariant-loop-number l = list_any (ends l.kind) (take l.number l.flat) ≡ false
