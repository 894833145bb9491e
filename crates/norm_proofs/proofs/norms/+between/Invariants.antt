use Rattle.std.proofs.Common.{◌≡◌, map, take}
use Rattle.clause_form.specs.Norm.{norm_of}
use Rattle.norm_proofs.specs.code.Recursion.{MemberSteps}
use Rattle.norm_proofs.proofs.norms.+between.Given as goal

abbrev pub invariant-of_members-loop-number : goal.invariant-of_members-loop-number
invariant-of_members-loop-number l = (l.norms ≡ map (norm_of l.positive) (take l.number l.forms)) × MemberSteps l.positive l.forth (take l.number l.forms) l.parts
