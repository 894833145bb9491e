use Rattle.std.proofs.Common.{take}
use Rattle.fof_terms.specs.Scope.{scope_sorts}
use Rattle.norm_parts.specs.code.Together.{ShowMembers}
use Rattle.norm_parts.proofs.together.each_member.Given as goal

abbrev pub invariant-loop-at : goal.invariant-loop-at
invariant-loop-at l = ShowMembers l.signature l.parents (scope_sorts l.scope) l.shared (take l.at l.members) l.proofs
