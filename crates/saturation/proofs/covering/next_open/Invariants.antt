use Rattle.std.proofs.Common.{List, Bool, [], length}
use Rattle.std.specs.List.{All as Each}
use Rattle.clause_form.specs.declared.clause.Clause.{Clause}
use Rattle.saturation.specs.declared.member.Member.{Member}
use Rattle.superpose.specs.Drafts.{IsClause}
use Rattle.saturation.specs.Members.{clauses_of}
use Rattle.saturation.specs.code.Search.{IsUnderWay}
use Rattle.saturation.proofs.covering.next_open.Given as goal

abbrev pub invariant-loop-next : goal.invariant-loop-next
invariant-loop-next l = Each (λ m. IsClause l.signature m.clause) l.queue
    × ((whole : Bool) (inputs : List Clause) (heavy : List Member) → IsUnderWay l.signature whole inputs (clauses_of l.list) [] l.initial.queue heavy
    → IsUnderWay l.signature whole inputs (clauses_of l.list) [] l.queue heavy)

abbrev pub decreases-loop-next : goal.decreases-loop-next
decreases-loop-next l = length l.queue
