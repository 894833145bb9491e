use Rattle.std.proofs.Common.{rules, arith}
use Rattle.fof_terms.specs.Scope.{scope_sorts}
use Rattle.fof_terms.specs.declared.form.Form.TheViews.{the_lemmas}
use Rattle.skolem_fresh.proofs.Opened.{leading_none, on_ok, step_none, step_some, step_within, step_enough}
use Rattle.skolem_fresh.proofs.opening.+read_uses.Goals as goal

pub unreachable-requires : goal.unreachable-requires
unreachable-requires t c = let none = leading_none c.args.form.now c.in_default.not-Ex in omega (arith, c.requires.enough)

pub read_uses-requires : goal.read_uses-requires
read_uses-requires t c = (
  search (rules, the_lemmas),
  (
    step_within c.args.sig.now (scope_sorts c.args.scope.now) c.args.count c.in-Ex.sort c.args.form.now c.get.result.now c.in-Ex.body c.args.leaves.now c.args.uses.now c.next_form.new.uses c.in_ok-next.field-0 c.if-count-eq0.false c.in-Ex.is c.get.ensures c.in_ok-next.ensures
        c.in-Some.next c.get-in-Some.result.now c.in-Some.is c.get-in-Some.ensures c.requires.within,
    (
      step_enough c.args.sig.now (scope_sorts c.args.scope.now) c.args.count c.in-Ex.sort c.args.form.now c.get.result.now c.in-Ex.body c.args.leaves.now c.args.uses.now c.next_form.new.uses c.in_ok-next.field-0 c.if-count-eq0.false c.in-Ex.is c.get.ensures c.in_ok-next.ensures
          c.in-Some.next c.get-in-Some.result.now c.in-Some.is c.get-in-Some.ensures c.requires.enough,
      c.requires.leaves,
    ),
  ),
)

pub returns-in-Some : goal.returns-in-Some
returns-in-Some t c =
    on_ok c.read_uses.result
    (λ answer r. step_some c.args.sig.now (scope_sorts c.args.scope.now) c.args.count c.in-Ex.sort c.args.form.now c.get.result.now c.in-Ex.body c.args.leaves.now c.args.uses.now c.next_form.new.uses c.in_ok-next.field-0 c.if-count-eq0.false c.in-Ex.is c.get.ensures c.in_ok-next.ensures
    c.in-Some.next c.get-in-Some.result.now c.in-Some.is c.get-in-Some.ensures c.args.right.now c.read_uses.new.uses answer c.requires.leaves r)
    c.read_uses.ensures

pub returns-in-None : goal.returns-in-None
returns-in-None t c =
    step_none c.args.sig.now (scope_sorts c.args.scope.now) c.args.count c.in-Ex.sort c.args.form.now c.get.result.now c.in-Ex.body c.args.leaves.now c.args.uses.now c.next_form.new.uses c.in_ok-next.field-0 c.if-count-eq0.false c.in-Ex.is c.get.ensures c.in_ok-next.ensures
    c.args.right.now c.requires.leaves c.in-None.is
