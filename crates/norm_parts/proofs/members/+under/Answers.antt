use Rattle.std.proofs.Common.{rules, sym, subst, ap, ◌∙◌}
use Rattle.fof_terms.specs.Scope.{scope_sorts}
use Rattle.fof_terms.specs.declared.form.Form.TheViews.{the_lemmas}
use Rattle.fof_terms.specs.Sorts.{Sorted}
use Rattle.fof_terms.proofs.Reaches.{lift_fits}
use Rattle.fof_terms.proofs.ScopeFacts.{scope_sorts-Under}
use Rattle.kernel.specs.Proves.{over}
use Rattle.norm_parts.proofs.TogetherParts.{inner_room, inner_sorted, moved_sorted, from_all}
use Rattle.norm_parts.proofs.members.+under.Goals as goal

pub lift-requires : goal.lift-requires
lift-requires t c = lift_fits c.args.signature.now (scope_sorts c.args.scope.now) c.get.result.now (subst (Sorted c.args.signature.now (scope_sorts c.args.scope.now)) (sym c.get.ensures) c.requires.form)

pub under-requires : goal.under-requires
under-requires t c = (
  search (rules, the_lemmas),
  (
    rw scope_sorts-Under (inner_sorted c.args.signature.now (scope_sorts c.args.scope.now) c.args.goal.now c.in-All.sort c.in-All.body c.get-in-All.result.now c.in-All.is c.get-in-All.ensures c.requires.room c.requires.goal),
    (
      rw scope_sorts-Under (inner_room c.args.signature.now (scope_sorts c.args.scope.now) c.args.goal.now c.in-All.sort c.in-All.body c.get-in-All.result.now c.in-All.is c.get-in-All.ensures c.requires.room),
      rw scope_sorts-Under
          (moved_sorted c.args.signature.now (scope_sorts c.args.scope.now) c.args.goal.now c.in-All.sort c.in-All.body c.get-in-All.result.now c.in-All.is c.get-in-All.ensures c.args.form c.in_ok-moved-in-All.moved c.requires.room c.requires.goal c.requires.form
          (c.in_ok-moved-in-All.ensures ∙ c.in_ok-lift-in-All.ensures ∙ ap over c.get.ensures)),
    ),
  ),
)

pub returns-in-Some : goal.returns-in-Some
returns-in-Some t c =
    from_all c.args.signature.now (scope_sorts c.args.scope.now) c.args.goal.now c.in-All.sort c.in-All.body c.get-in-All.result.now c.in-All.is c.get-in-All.ensures c.args.form c.in_ok-moved-in-All.moved c.in-Some.part c.in_ok-all_i-in-Some.field-0 c.requires.goal
    (c.in_ok-moved-in-All.ensures ∙ c.in_ok-lift-in-All.ensures ∙ ap over c.get.ensures) c.in_ok-all_i-in-Some.ensures (rw (c.in-Some.is, scope_sorts-Under) at c.in_ok-part-in-All.ensures)
