use Rattle.fof_terms.specs.Scope.{scope_sorts}
use Rattle.rule_proofs.proofs.Rewritings.{sides_sorted, made_sorted}
use Rattle.rule_proofs.proofs.rewriting.rewritten.Goals as goal

pub filled-requires-clause-sorted : goal.filled-requires-clause-sorted
filled-requires-clause-sorted c = sides_sorted c.args.signature.now (scope_sorts c.args.scope.now) c.args.line.now.clause.lits c.args.images.now c.args.marked.now c.args.into.lits c.args.equation.now c.args.flipped c.requires.rewriting c.in-Eq.first c.in-Eq.second c.picked-left.result.now c.picked-right.result.now c.in-Eq.is c.picked-left.ensures c.picked-right.ensures c.requires.equation

pub refuted-requires-clause-sorted : goal.refuted-requires-clause-sorted
refuted-requires-clause-sorted c = made_sorted c.args.signature.now (scope_sorts c.args.scope.now) c.args.line.now.clause.lits c.args.images.now c.args.marked.now c.args.into.lits c.args.equation.now c.args.flipped c.requires.rewriting c.in-Eq.first c.in-Eq.second c.picked-left.result.now c.picked-right.result.now c.in-Eq.is c.picked-left.ensures c.picked-right.ensures c.in_ok-made-in-Eq.made.lits c.in_ok-made-in-Eq.ensures.lits c.requires.equation
