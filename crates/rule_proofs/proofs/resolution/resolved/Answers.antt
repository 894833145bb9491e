use Rattle.derive_kit.proofs.Built.{ok_map}
use Rattle.clause_proofs.specs.Refuting.{theory_of}
use Rattle.rule_proofs.proofs.Joints.{ready_clause, same_clause, parent_there, joint_here, resolves_here}
use Rattle.clause_proofs.proofs.LineGoals.{opened_clause}
use Rattle.clause_proofs.proofs.ReadyParents.{of_theory}
use Rattle.rule_proofs.proofs.resolution.resolved.Goals as goal

pub resolve_opened-requires-clause-left : goal.resolve_opened-requires-clause-left
resolve_opened-requires-clause-left c = ready_clause c.args.signature.now c.args.parents.now c.args.left c.requires.shown.1.0 c.index-parents-left.result c.in_ok-left_opened.left_opened c.requires.ready c.requires.shown.1.4.left_clause c.index-parents-left.is c.in_ok-left_opened.ensures

pub resolve_opened-requires-clause-right : goal.resolve_opened-requires-clause-right
resolve_opened-requires-clause-right c = ready_clause c.args.signature.now c.args.parents.now c.args.right c.requires.shown.1.1 c.index-parents-right.result c.in_ok-right_opened.right_opened c.requires.ready c.requires.shown.1.4.right_clause c.index-parents-right.is c.in_ok-right_opened.ensures

pub resolve_opened-requires-clause-joint : goal.resolve_opened-requires-clause-joint
resolve_opened-requires-clause-joint c =
    joint_here c.args.signature.now c.args.subst.now c.requires.shown.1.0 c.requires.shown.1.1 c.requires.shown.1.2 c.in_ok-left_opened.left_opened.clause c.in_ok-right_opened.right_opened.clause c.in_ok-opened.opened.clause
    (same_clause c.args.parents.now c.args.left c.requires.shown.1.0 c.index-parents-left.result c.in_ok-left_opened.left_opened c.requires.shown.1.4.left_clause c.index-parents-left.is c.in_ok-left_opened.ensures)
    (same_clause c.args.parents.now c.args.right c.requires.shown.1.1 c.index-parents-right.result c.in_ok-right_opened.right_opened c.requires.shown.1.4.right_clause c.index-parents-right.is c.in_ok-right_opened.ensures)
    (opened_clause c.args.line.now c.in_ok-opened.opened c.requires.shown.1.2 c.in_ok-opened.ensures c.requires.shown.1.4.line_clause) c.requires.shown.1.3

pub resolve_opened-requires-clause-resolves : goal.resolve_opened-requires-clause-resolves
resolve_opened-requires-clause-resolves c = (
  c.requires.shown.0,
  resolves_here c.args.signature.now c.args.subst.now c.requires.shown.1.0 c.requires.shown.1.1 c.requires.shown.1.2 c.in_ok-left_opened.left_opened.clause c.in_ok-right_opened.right_opened.clause c.in_ok-opened.opened.clause c.args.left_lit c.requires.shown.0
      (same_clause c.args.parents.now c.args.left c.requires.shown.1.0 c.index-parents-left.result c.in_ok-left_opened.left_opened c.requires.shown.1.4.left_clause c.index-parents-left.is c.in_ok-left_opened.ensures)
      (same_clause c.args.parents.now c.args.right c.requires.shown.1.1 c.index-parents-right.result c.in_ok-right_opened.right_opened c.requires.shown.1.4.right_clause c.index-parents-right.is c.in_ok-right_opened.ensures)
      (opened_clause c.args.line.now c.in_ok-opened.opened c.requires.shown.1.2 c.in_ok-opened.ensures c.requires.shown.1.4.line_clause) c.requires.shown.1.4.resolves,
)

pub returns : goal.returns
returns c =
    ok_map c.resolve_opened.result
    (λ made f formulas all. f formulas
    (of_theory (theory_of c.args.signature.now formulas) c.args.parents.now c.args.left c.index-parents-left.result all (parent_there c.args.parents.now c.args.left c.requires.shown.1.0 c.index-parents-left.result c.requires.shown.1.4.left_clause c.index-parents-left.is))
    (of_theory (theory_of c.args.signature.now formulas) c.args.parents.now c.args.right c.index-parents-right.result all (parent_there c.args.parents.now c.args.right c.requires.shown.1.1 c.index-parents-right.result c.requires.shown.1.4.right_clause c.index-parents-right.is)))
    c.resolve_opened.ensures
