use Rattle.std.proofs.Common.{rules}
use Rattle.fof_terms.specs.Scope.{scope_sorts}
use Rattle.fof_terms.specs.declared.form.Form.TheViews.{the_lemmas}
use Rattle.fof_terms.proofs.ScopeFacts.{scope_sorts-Under}
use Rattle.norm_parts.proofs.TogetherParts.{inner_room, inner_sorted, here_all}
use Rattle.norm_parts.proofs.together.+quantified.Goals as goal

pub quantified-requires : goal.quantified-requires
quantified-requires t c = (
  search (rules, the_lemmas),
  (
    c.requires.parents,
    (
      rw scope_sorts-Under (inner_sorted c.args.signature.now (scope_sorts c.args.scope.now) c.args.form.now c.in-All.sort c.in-All.body c.get.result.now c.in-All.is c.get.ensures c.requires.room c.requires.form),
      (
        rw scope_sorts-Under (inner_room c.args.signature.now (scope_sorts c.args.scope.now) c.args.form.now c.in-All.sort c.in-All.body c.get.result.now c.in-All.is c.get.ensures c.requires.room),
        c.requires.source,
      ),
    ),
  ),
)

pub returns-in_ok-all_i-in-Some : goal.returns-in_ok-all_i-in-Some
returns-in_ok-all_i-in-Some t c =
    here_all c.args.signature.now (scope_sorts c.args.scope.now) c.args.form.now c.in-All.sort c.in-All.body c.get.result.now c.in-All.is c.get.ensures c.args.parents.now c.in-Some.part c.in_ok-all_i-in-Some.field-0 c.requires.form c.in_ok-all_i-in-Some.ensures
    (rw (c.in-Some.is, scope_sorts-Under) at c.in_ok-part-in-All.ensures)
