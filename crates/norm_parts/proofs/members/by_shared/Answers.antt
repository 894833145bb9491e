use Rattle.std.proofs.Common.{◌∙◌}
use Rattle.fof_terms.specs.Scope.{scope_sorts}
use Rattle.clause_rules.proofs.Firsts.{there_at}
use Rattle.norm_parts.proofs.TogetherParts.{by_one, one_sorted}
use Rattle.norm_parts.proofs.members.by_shared.Goals as goal

pub under-requires-clause-form : goal.under-requires-clause-form
under-requires-clause-form c =
    one_sorted c.args.signature.now (scope_sorts c.args.scope.now) c.args.shared.now c.in-And.members c.as_slice-members.result.now c.args.number c.index-members-place.result c.in_ok-form-in-And.form c.requires.shared c.in-And.is c.as_slice-members.ensures
    (there_at c.as_slice-members.result.now c.args.number c.index-members-place.result c.if-place-members.false c.index-members-place.is) (c.in_ok-form-in-And.ensures ∙ c.in_ok-copy-in-And.ensures)

pub returns-in_ok-cut_under-in-Some : goal.returns-in_ok-cut_under-in-Some
returns-in_ok-cut_under-in-Some c =
    by_one c.args.signature.now c.args.parents.now (scope_sorts c.args.scope.now) c.args.shared.now c.in-And.members c.as_slice-members.result.now c.args.number c.index-members-place.result c.in_ok-form-in-And.form c.in_ok-copy-in-Some.field-0 c.args.member.now
    c.in_ok-own-in-Some.own c.in-Some.rest c.in_ok-cut_under-in-Some.field-0 c.in_ok-hyp-in-Some.field-0 c.requires.shared c.in-And.is c.as_slice-members.ensures
    (there_at c.as_slice-members.result.now c.args.number c.index-members-place.result c.if-place-members.false c.index-members-place.is) (c.in_ok-form-in-And.ensures ∙ c.in_ok-copy-in-And.ensures) c.in_ok-copy-in-Some.ensures c.in_ok-hyp-in-Some.ensures
    c.in_ok-own-in-Some.ensures (rw c.in-Some.is at c.in_ok-rest-in-And.ensures) c.in_ok-cut_under-in-Some.ensures
