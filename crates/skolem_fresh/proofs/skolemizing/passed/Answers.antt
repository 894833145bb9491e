use Rattle.std.proofs.Common.{ap, ◌∙◌, ◌++◌, List}
use Rattle.skolem_fresh.specs.declared.leaves.Leaf.{Leaf}
use Rattle.skolem_fresh.specs.code.Leaves.{leaves_of}
use Rattle.skolem_fresh.proofs.WalkCode.{few_terms, terms_passed}
use Rattle.skolem_fresh.proofs.skolemizing.passed.Goals as goal

pub returns-then-len-left-clause-passed : goal.returns-then-len-left-clause-passed
returns-then-len-left-clause-passed c after is =
    few_terms c.push_leaves.new.leaves (leaves_of c.args.outer c.args.form.now) c.args.leaves.now after c.args.at.now c.len.result (c.in_ok-push_leaves.ensures ∙ ap (λ (ls : List Leaf). ls ++ leaves_of c.args.outer c.args.form.now) c.new-own.ensures) c.len.ensures c.if-len-left.true is

pub returns-clause-passed : goal.returns-clause-passed
returns-clause-passed c = (
  c.in_ok-copy.ensures,
  λ after is.
      terms_passed c.push_leaves.new.leaves (leaves_of c.args.outer c.args.form.now) c.args.leaves.now after c.args.at.now c.len-2.result (c.in_ok-push_leaves.ensures ∙ ap (λ (ls : List Leaf). ls ++ leaves_of c.args.outer c.args.form.now) c.new-own.ensures) c.len-2.ensures is,
)
