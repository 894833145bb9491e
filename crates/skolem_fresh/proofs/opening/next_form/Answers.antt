use Rattle.std.proofs.Common.{arith, sym, ◌∙◌}
use Rattle.fof_terms.specs.Scope.{scope_sorts}
use Rattle.skolem_fresh.proofs.Opened.{body_room, unused_reaches, misfit, fit_reaches, fit, own_leaves}
use Rattle.skolem_fresh.proofs.opening.next_form.Goals as goal

pub has_variable-requires : goal.has_variable-requires
has_variable-requires c = let room = body_room c.args.sig.now (scope_sorts c.args.scope.now) c.args.sort c.args.body.now c.requires.within in omega arith

pub instantiate-requires : goal.instantiate-requires
instantiate-requires c = unused_reaches c.args.sig.now (scope_sorts c.args.scope.now) c.args.sort c.args.body.now c.requires.within

pub push_leaves-requires : goal.push_leaves-requires
push_leaves-requires c = let room = body_room c.args.sig.now (scope_sorts c.args.scope.now) c.args.sort c.args.body.now c.requires.within in omega arith

pub returns-then-not-is_of_sort : goal.returns-then-not-is_of_sort
returns-then-not-is_of_sort c =
    misfit c.args.sig.now (scope_sorts c.args.scope.now) c.args.sort c.args.body.now c.args.leaves.now c.as_slice.result.now c.has_variable.result c.if-not-has_variable.false c.has_variable.ensures
    (own_leaves c.args.body.now c.as_slice.result.now c.push_leaves.new.leaves c.new-own.result c.as_slice.ensures c.in_ok-push_leaves.ensures c.new-own.ensures)
    c.in_ok-found.field-0 c.in-Some.found c.in_ok-found.ensures c.in-Some.is
    c.is_of_sort.result c.in_ok-value.value c.args.uses.now c.args.uses.now c.in_ok-value.ensures c.if-not-is_of_sort.true c.is_of_sort.ensures

pub instantiate-requires-2 : goal.instantiate-requires-2
instantiate-requires-2 c =
    fit_reaches c.args.sig.now (scope_sorts c.args.scope.now) c.args.sort c.args.body.now c.args.leaves.now c.as_slice.result.now c.has_variable.result c.if-not-has_variable.false c.has_variable.ensures
    (own_leaves c.args.body.now c.as_slice.result.now c.push_leaves.new.leaves c.new-own.result c.as_slice.ensures c.in_ok-push_leaves.ensures c.new-own.ensures)
    c.in_ok-found.field-0 c.in-Some.found c.in_ok-found.ensures c.in-Some.is
    c.is_of_sort.result c.in_ok-value.value c.requires.within c.in_ok-value.ensures c.if-not-is_of_sort.false c.is_of_sort.ensures

pub returns : goal.returns
returns c =
    fit c.args.sig.now (scope_sorts c.args.scope.now) c.args.sort c.args.body.now c.args.leaves.now c.as_slice.result.now c.has_variable.result c.if-not-has_variable.false c.has_variable.ensures
    (own_leaves c.args.body.now c.as_slice.result.now c.push_leaves.new.leaves c.new-own.result c.as_slice.ensures c.in_ok-push_leaves.ensures c.new-own.ensures)
    c.in_ok-found.field-0 c.in-Some.found c.in_ok-found.ensures c.in-Some.is
    c.is_of_sort.result c.in_ok-value.value c.args.uses.now c.push.new.self c.in_ok-instantiate.field-0 c.in_ok-next-2.next c.in_ok-value.ensures c.if-not-is_of_sort.false c.is_of_sort.ensures c.in_ok-push.ensures.ok c.in_ok-instantiate.ensures c.in_ok-next-2.ensures
