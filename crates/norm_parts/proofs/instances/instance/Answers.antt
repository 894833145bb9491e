use Rattle.std.proofs.Common.{sym, subst, ap, ◌∙◌}
use Rattle.fof_terms.specs.Instance.{instance_at}
use Rattle.fof_terms.specs.Scope.{scope_sorts}
use Rattle.fof_terms.specs.Sorts.{Sorted}
use Rattle.norm_parts.proofs.InstanceParts.{instance_room, next_instance}
use Rattle.norm_parts.proofs.instances.instance.Goals as goal

pub instantiate-requires : goal.instantiate-requires
instantiate-requires c =
    instance_room c.args.signature.now (scope_sorts c.args.scope.now) c.get.result.now c.in-All.sort c.in-All.body c.get-in-Some.result.now c.in-Some.term (subst (Sorted c.args.signature.now (scope_sorts c.args.scope.now)) (sym c.get.ensures) c.requires) c.in-All.is
    c.get-in-Some.ensures (rw c.in-Some.is at c.in_ok-term-in-All.ensures)

pub returns-in-Some : goal.returns-in-Some
returns-in-Some c =
    next_instance c.args.signature.now (scope_sorts c.args.scope.now) c.args.shown (record { form = c.in_ok-own-in-Some.own; part = c.in_ok-part-in-Some.part }) c.in-All.sort c.in-All.body c.in-Some.term c.requires (sym c.get.ensures ∙ c.in-All.is)
    (rw c.in-Some.is at c.in_ok-term-in-All.ensures) (c.in_ok-own-in-Some.ensures ∙ c.in_ok-instantiate-in-Some.ensures ∙ ap (instance_at c.in-Some.term 0) c.get-in-Some.ensures) c.in_ok-part-in-Some.ensures
