use Rattle.fof_terms.specs.Scope.{scope_sorts}
use Rattle.rule_proofs.proofs.Factors.{factoring_at, lit_equation}
use Rattle.rule_proofs.proofs.eqfactor.two_equations.Goals as goal

pub linked-requires-clause-first : goal.linked-requires-clause-first
linked-requires-clause-first c =
    let h = (factoring_at c.args.line.now.clause.lits c.args.pivot.now c.args.other.now c.args.factor.first_flipped c.args.factor.second_flipped c.requires.factoring.0 c.requires.factoring.1 c.requires.factoring.2 c.in-Eq.left c.in-Eq.right c.in-Eq-atom.third c.in-Eq-atom.fourth c.picked-side.result.now c.picked-first.result.now c.picked-second.result.now c.requires.factoring.3 c.in-Eq.is c.in-Eq-atom.is c.picked-side.ensures c.picked-first.ensures c.picked-second.ensures) in
    lit_equation c.args.signature.now (scope_sorts c.args.scope.now) c.args.pivot.now c.args.factor.first_flipped c.picked-side.result.now c.picked-first.result.now h.pivot_is c.requires.pivot

pub linked-requires-clause-second : goal.linked-requires-clause-second
linked-requires-clause-second c =
    let h = (factoring_at c.args.line.now.clause.lits c.args.pivot.now c.args.other.now c.args.factor.first_flipped c.args.factor.second_flipped c.requires.factoring.0 c.requires.factoring.1 c.requires.factoring.2 c.in-Eq.left c.in-Eq.right c.in-Eq-atom.third c.in-Eq-atom.fourth c.picked-side.result.now c.picked-first.result.now c.picked-second.result.now c.requires.factoring.3 c.in-Eq.is c.in-Eq-atom.is c.picked-side.ensures c.picked-first.ensures c.picked-second.ensures) in
    lit_equation c.args.signature.now (scope_sorts c.args.scope.now) c.args.other.now c.args.factor.second_flipped c.picked-side.result.now c.picked-second.result.now h.other_is c.requires.other
