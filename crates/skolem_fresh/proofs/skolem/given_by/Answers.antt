use Rattle.std.proofs.Common.{[]}
use Rattle.skolem_fresh.proofs.Chosen.{vocabulary_within}
use Rattle.skolem_fresh.proofs.SkolemSteps.{norm_within, has_norm, code_none, code_empty, code_old, code_other, code_depth, code_given}
use Rattle.skolem_fresh.proofs.skolem.given_by.Goals as goal

pub skolemize_whole-requires : goal.skolemize_whole-requires
skolemize_whole-requires c =
    vocabulary_within c.args.theory.now.vocabulary c.signature-sig.result.now [] c.get.result.now c.signature-sig.ensures (norm_within c.args.theory.now.vocabulary c.args.parent.now c.get.result.now c.requires.parent (has_norm _ c.args.parent.now c.in-Some.own c.get.result.now c.in_ok-own.field-0 c.in-Some.is c.get.ensures c.in_ok-own.ensures))

pub returns-in_default-2 : goal.returns-in_default-2
returns-in_default-2 c = code_none c.args.theory.now c.args.parent.now c.args.made.now c.get.result.now c.args.leaves.now (has_norm _ c.args.parent.now c.in-Some.own c.get.result.now c.in_ok-own.field-0 c.in-Some.is c.get.ensures c.in_ok-own.ensures) c.requires.leaves c.signature-sig.result.now c.signature-sig.ensures c.new-uses.result c.skolemize_whole.new.uses c.new-uses.ensures c.in_ok-whole.field-0 c.in_ok-whole.ensures c.in_default-2.is

pub returns-then-is_empty : goal.returns-then-is_empty
returns-then-is_empty c = code_empty c.args.theory.now c.args.parent.now c.args.made.now c.get.result.now c.args.leaves.now (has_norm _ c.args.parent.now c.in-Some.own c.get.result.now c.in_ok-own.field-0 c.in-Some.is c.get.ensures c.in_ok-own.ensures) c.requires.leaves c.signature-sig.result.now c.signature-sig.ensures c.new-uses.result c.skolemize_whole.new.uses c.new-uses.ensures c.in_ok-whole.field-0 c.in_ok-whole.ensures c.in-Some-2.whole c.in-Some-2.is c.is_empty.result c.if-is_empty.true c.is_empty.ensures

pub returns-then-not-branch : goal.returns-then-not-branch
returns-then-not-branch c = code_old c.args.theory.now c.args.parent.now c.args.made.now c.get.result.now c.args.leaves.now (has_norm _ c.args.parent.now c.in-Some.own c.get.result.now c.in_ok-own.field-0 c.in-Some.is c.get.ensures c.in_ok-own.ensures) c.requires.leaves c.signature-sig.result.now c.signature-sig.ensures c.new-uses.result c.skolemize_whole.new.uses c.new-uses.ensures c.in_ok-whole.field-0 c.in_ok-whole.ensures c.in-Some-2.whole c.in-Some-2.is c.as_slice.result.now c.in_ok-are_new.field-0 c.as_slice.ensures c.if-not-branch.true c.in_ok-are_new.ensures

pub norm_signed-requires : goal.norm_signed-requires
norm_signed-requires c = code_depth c.args.theory.now c.args.parent.now c.args.made.now c.get.result.now c.args.leaves.now (has_norm _ c.args.parent.now c.in-Some.own c.get.result.now c.in_ok-own.field-0 c.in-Some.is c.get.ensures c.in_ok-own.ensures) c.requires.leaves c.signature-sig.result.now c.signature-sig.ensures c.new-uses.result c.skolemize_whole.new.uses c.new-uses.ensures c.in_ok-whole.field-0 c.in_ok-whole.ensures c.in-Some-2.whole c.in-Some-2.is c.requires.parent

pub returns-then-not-equal : goal.returns-then-not-equal
returns-then-not-equal c = code_other c.args.theory.now c.args.parent.now c.args.made.now c.get.result.now c.args.leaves.now (has_norm _ c.args.parent.now c.in-Some.own c.get.result.now c.in_ok-own.field-0 c.in-Some.is c.get.ensures c.in_ok-own.ensures) c.requires.leaves c.signature-sig.result.now c.signature-sig.ensures c.new-uses.result c.skolemize_whole.new.uses c.new-uses.ensures c.in_ok-whole.field-0 c.in_ok-whole.ensures c.in-Some-2.whole c.in-Some-2.is c.in_ok-normed.normed c.equal.result c.in_ok-normed.ensures c.if-not-equal.true c.equal.ensures

pub returns : goal.returns
returns c =
    code_given c.args.theory.now c.args.parent.now c.args.made.now c.get.result.now c.args.leaves.now (has_norm _ c.args.parent.now c.in-Some.own c.get.result.now c.in_ok-own.field-0 c.in-Some.is c.get.ensures c.in_ok-own.ensures) c.requires.leaves c.signature-sig.result.now c.signature-sig.ensures c.new-uses.result c.skolemize_whole.new.uses c.new-uses.ensures c.in_ok-whole.field-0 c.in_ok-whole.ensures c.in-Some-2.whole c.in-Some-2.is c.as_slice.result.now c.in_ok-normed.normed c.is_empty.result c.in_ok-are_new.field-0 c.equal.result c.if-is_empty.false c.is_empty.ensures c.as_slice.ensures c.if-not-branch.false c.in_ok-are_new.ensures
    c.in_ok-normed.ensures c.if-not-equal.false c.equal.ensures
