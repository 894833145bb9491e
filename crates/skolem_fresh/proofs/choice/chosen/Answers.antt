use Rattle.std.proofs.Common.{arith, rules, sym, ◌∙◌}
use Rattle.fof_terms.specs.Scope.{scope_sorts}
use Rattle.skolem_fresh.specs.code.Choosing.{MayChooseIfFit}
use Rattle.skolem_fresh.proofs.Chosen.{imp_room, within_left, too_few, none_chosen, not_chosen, is_chosen, is_true, not_true, vocabulary_within}
use Rattle.skolem_fresh.proofs.choice.chosen.Goals as goal

pub leading-before-requires : goal.leading-before-requires
leading-before-requires c = let room = (imp_room c.args.theory.now.vocabulary (scope_sorts c.args.scope.now) c.args.left.now c.args.right.now c.requires).0 in omega arith

pub leading-after-requires : goal.leading-after-requires
leading-after-requires c = let room = (imp_room c.args.theory.now.vocabulary (scope_sorts c.args.scope.now) c.args.left.now c.args.right.now c.requires).1 in omega arith

pub returns-then-before-after : goal.returns-then-before-after
returns-then-before-after c =
    too_few c.args.theory.now (scope_sorts c.args.scope.now) c.args.left.now c.args.right.now c.leading-before.result c.leading-after.result c.leading-before.ensures.value c.leading-after.ensures.value c.if-before-after.true

pub push_leaves-requires : goal.push_leaves-requires
push_leaves-requires c = let room = (imp_room c.args.theory.now.vocabulary (scope_sorts c.args.scope.now) c.args.left.now c.args.right.now c.requires).1 in omega arith

pub read_uses-requires-clause-within : goal.read_uses-requires-clause-within
read_uses-requires-clause-within c =
    vocabulary_within c.args.theory.now.vocabulary c.signature-sig.result.now (scope_sorts c.args.scope.now) c.args.left.now c.signature-sig.ensures (within_left c.args.theory.now.vocabulary (scope_sorts c.args.scope.now) c.args.left.now c.args.right.now c.requires)

pub may_choose-requires : goal.may_choose-requires
may_choose-requires c = let room = (imp_room c.args.theory.now.vocabulary (scope_sorts c.args.scope.now) c.args.left.now c.args.right.now c.requires).0 in omega arith

pub returns-then-not-is_read : goal.returns-then-not-is_read
returns-then-not-is_read c =
    none_chosen c.args.theory.now (scope_sorts c.args.scope.now) c.args.left.now c.args.right.now c.leading-before.result c.leading-after.result c.leading-before.ensures.value c.leading-after.ensures.value
    c.signature-sig.result.now c.new-uses.result c.read_uses.new.uses c.in_ok-is_read.is_read c.signature-sig.ensures c.if-not-is_read.true c.in_ok-is_read.ensures

pub returns-then-not-branch : goal.returns-then-not-branch
returns-then-not-branch c =
    not_chosen c.args.theory.now (scope_sorts c.args.scope.now) c.args.left.now c.args.right.now c.leading-before.result c.leading-after.result c.leading-before.ensures.value c.leading-after.ensures.value
    c.signature-sig.result.now c.new-uses.result c.read_uses.new.uses c.in_ok-is_read.is_read c.signature-sig.ensures c.new-uses.ensures
    (not_true c.in_ok-may_choose.field-0 (MayChooseIfFit c.args.theory.now c.args.left.now c.read_uses.new.uses) c.if-not-branch.true (rw c.as_slice-2.ensures at c.in_ok-may_choose.ensures)) c.in_ok-is_read.ensures

pub returns : goal.returns
returns c =
    is_chosen c.args.theory.now (scope_sorts c.args.scope.now) c.args.left.now c.args.right.now c.leading-before.result c.leading-after.result c.leading-before.ensures.value c.leading-after.ensures.value
    c.signature-sig.result.now c.new-uses.result c.read_uses.new.uses c.in_ok-is_read.is_read c.signature-sig.ensures c.new-uses.ensures (omega arith) c.if-not-is_read.false
    (is_true c.in_ok-may_choose.field-0 (MayChooseIfFit c.args.theory.now c.args.left.now c.read_uses.new.uses) c.if-not-branch.false (rw c.as_slice-2.ensures at c.in_ok-may_choose.ensures)) c.in_ok-is_read.ensures
