use Rattle.std.proofs.Common.{sym, ap, ◌∙◌, List, slice_get}
use Rattle.fof_terms.specs.declared.form.Form.{Form}
use Rattle.fof_terms.specs.Scope.{scope_sorts}
use Rattle.clause_rules.proofs.Firsts.{there_at}
use Rattle.norm_parts.proofs.InstanceParts.{next_member}
use Rattle.norm_parts.proofs.instances.member.Goals as goal

pub returns-in-And : goal.returns-in-And
returns-in-And c =
    next_member c.args.signature.now (scope_sorts c.args.scope.now) c.args.shown (record { form = c.in_ok-own-in-And.own; part = c.in_ok-part-in-And.part }) c.in-And.members c.args.number c.index-members-place.result c.requires (sym c.get.ensures ∙ c.in-And.is)
    (ap (λ (xs : List Form). slice_get xs c.args.number) (sym c.as_slice-members.ensures) ∙ there_at c.as_slice-members.result.now c.args.number c.index-members-place.result c.if-place-members.false c.index-members-place.is)
    (c.in_ok-own-in-And.ensures ∙ c.in_ok-copy-in-And.ensures) c.in_ok-part-in-And.ensures
