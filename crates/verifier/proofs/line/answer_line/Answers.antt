use Rattle.verifier.proofs.LineAnswers.{leaf_answers, step_answers}
use Rattle.verifier.proofs.line.answer_line.Goals as goal

pub returns-then-node : goal.returns-then-node
returns-then-node c =
    leaf_answers c.leaf.result c.args.theory.now c.args.sources.now c.args.form.now c.args.limit c.args.node.now.leaf c.args.node.now.cited c.if-node.true c.leaf.ensures

pub returns-else-node : goal.returns-else-node
returns-else-node c =
    step_answers c.step.result c.args.theory.now c.args.sources.now c.args.form.now c.args.limit c.args.node.now.leaf c.args.node.now.cited c.if-node.false c.step.ensures
