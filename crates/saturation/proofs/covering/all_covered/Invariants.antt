use Rattle.std.proofs.Common.{take}
use Rattle.std.specs.List.{All as Each}
use Rattle.saturation.specs.Lists.{IsCoveredIn}
use Rattle.saturation.specs.Members.{clauses_of}
use Rattle.saturation.proofs.covering.all_covered.Given as goal

abbrev pub invariant-loop-member : goal.invariant-loop-member
invariant-loop-member l = Each (λ m. IsCoveredIn l.signature (clauses_of l.list) m.clause) (take l.member-index l.others)
