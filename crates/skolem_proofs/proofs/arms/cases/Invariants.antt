use Rattle.std.proofs.Common.{◌≡◌, take, drop}
use Rattle.skolem_proofs.specs.code.Witnessed.{cases}
use Rattle.skolem_proofs.proofs.arms.cases.Given as goal

abbrev pub invariant-loop-number : goal.invariant-loop-number
invariant-loop-number l = (l.made ≡ cases l.forms 0 (take l.number l.fn.parts)) × (l.left ≡ drop l.number l.fn.parts)
