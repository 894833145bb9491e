use Rattle.std.proofs.Common.{arith}
use Rattle.fof_terms.specs.Scope.{scope_sorts}
use Rattle.skolem_fresh.proofs.Opened.{body_room, own_leaves}
use Rattle.skolem_fresh.proofs.ReplaceTests.{found_room, fit}
use Rattle.skolem_fresh.proofs.replacing.function_for.Goals as goal

pub has_variable-requires : goal.has_variable-requires
has_variable-requires c = let room = body_room c.args.sig.now (scope_sorts c.args.scope.now) c.args.sort c.args.body.now c.requires.within in omega arith

pub push_leaves-requires : goal.push_leaves-requires
push_leaves-requires c = let room = body_room c.args.sig.now (scope_sorts c.args.scope.now) c.args.sort c.args.body.now c.requires.within in omega arith

pub may_replace-requires : goal.may_replace-requires
may_replace-requires c = record {
  within = found_room c.args.sig.now (scope_sorts c.args.scope.now) c.args.outer c.args.sort c.args.body.now c.args.leaves.now c.as_slice.result.now
      (own_leaves c.args.body.now c.as_slice.result.now c.push_leaves.new.leaves c.new-own.result c.as_slice.ensures c.in_ok-push_leaves.ensures c.new-own.ensures)
      c.in_ok-found.field-0 c.in_ok-found.ensures c.in-Some.found c.in-Some.is c.requires.within;
}

pub returns : goal.returns
returns c =
    fit c.args.sig.now (scope_sorts c.args.scope.now) c.args.outer c.args.sort c.args.body.now c.args.leaves.now c.as_slice.result.now
    (own_leaves c.args.body.now c.as_slice.result.now c.push_leaves.new.leaves c.new-own.result c.as_slice.ensures c.in_ok-push_leaves.ensures c.new-own.ensures)
    c.in_ok-found.field-0 c.in_ok-found.ensures c.in-Some.found c.in-Some.is c.in_ok-may_replace.field-0 c.if-not-branch.false c.in_ok-may_replace.ensures
