use Rattle.std.proofs.Common.{refl}
use Rattle.fof_terms.specs.Scope.{scope_sorts}
use Rattle.norm_parts.proofs.TogetherParts.{members_sorted, shared_cut}
use Rattle.norm_parts.proofs.together.under_shared.Goals as goal

pub each_member-requires-clause-members : goal.each_member-requires-clause-members
each_member-requires-clause-members c = members_sorted c.args.signature.now (scope_sorts c.args.scope.now) c.args.members.now c.requires.line

pub returns-in_ok-cut_under-in-Some : goal.returns-in_ok-cut_under-in-Some
returns-in_ok-cut_under-in-Some c =
    shared_cut c.args.signature.now c.args.parents.now (scope_sorts c.args.scope.now) c.args.shared c.get.result.now c.into_inner.result c.args.members.now c.in-Some.proofs c.args.shared.part c.in_ok-all-in-Some.all c.in_ok-cut_under-in-Some.field-0
    c.requires.line.scope_fits c.get.ensures c.into_inner.ensures refl c.in_ok-all-in-Some.ensures (rw c.in-Some.is at c.in_ok-made.ensures) c.in_ok-cut_under-in-Some.ensures
