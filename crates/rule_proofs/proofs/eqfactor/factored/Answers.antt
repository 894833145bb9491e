use Rattle.derive_kit.proofs.Built.{ok_map}
use Rattle.clause_proofs.specs.Refuting.{theory_of}
use Rattle.rule_proofs.proofs.Joints.{ready_clause, same_clause, parent_there}
use Rattle.clause_proofs.proofs.OneInstance.{one_joint_here}
use Rattle.rule_proofs.proofs.Factors.{factors_here}
use Rattle.clause_proofs.proofs.LineGoals.{opened_clause}
use Rattle.clause_proofs.proofs.ReadyParents.{of_theory}
use Rattle.rule_proofs.proofs.eqfactor.factored.Goals as goal

pub factor_opened-requires-clause-parent : goal.factor_opened-requires-clause-parent
factor_opened-requires-clause-parent c = ready_clause c.args.signature.now c.args.parents.now c.args.parent c.requires.shown.0 c.index-parents-parent.result c.in_ok-clause.clause c.requires.ready c.requires.shown.3.parent_clause c.index-parents-parent.is c.in_ok-clause.ensures

pub factor_opened-requires-clause-joint : goal.factor_opened-requires-clause-joint
factor_opened-requires-clause-joint c = one_joint_here c.args.signature.now c.args.subst.now c.requires.shown.0 c.requires.shown.1 c.in_ok-clause.clause.clause c.in_ok-opened.opened.clause (same_clause c.args.parents.now c.args.parent c.requires.shown.0 c.index-parents-parent.result c.in_ok-clause.clause c.requires.shown.3.parent_clause c.index-parents-parent.is c.in_ok-clause.ensures) (opened_clause c.args.line.now c.in_ok-opened.opened c.requires.shown.1 c.in_ok-opened.ensures c.requires.shown.3.line_clause) c.requires.shown.2

pub factor_opened-requires-clause-factors : goal.factor_opened-requires-clause-factors
factor_opened-requires-clause-factors c =
    factors_here c.args.signature.now c.args.subst.now c.requires.shown.0 c.requires.shown.1 c.in_ok-clause.clause.clause c.in_ok-opened.opened.clause c.args.factor.first c.args.factor.first_flipped c.args.factor.second c.args.factor.second_flipped (same_clause c.args.parents.now c.args.parent c.requires.shown.0 c.index-parents-parent.result c.in_ok-clause.clause c.requires.shown.3.parent_clause c.index-parents-parent.is c.in_ok-clause.ensures) (opened_clause c.args.line.now c.in_ok-opened.opened c.requires.shown.1 c.in_ok-opened.ensures c.requires.shown.3.line_clause) c.requires.shown.3.factors

pub returns : goal.returns
returns c =
    ok_map c.factor_opened.result
    (λ made f formulas all. f formulas (of_theory (theory_of c.args.signature.now formulas) c.args.parents.now c.args.parent c.index-parents-parent.result all (parent_there c.args.parents.now c.args.parent c.requires.shown.0 c.index-parents-parent.result c.requires.shown.3.parent_clause c.index-parents-parent.is)))
    c.factor_opened.ensures
