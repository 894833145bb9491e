use Rattle.derive_kit.proofs.Built.{ok_map}
use Rattle.clause_proofs.specs.Refuting.{theory_of}
use Rattle.rule_proofs.proofs.Chains.{match_here, rewrites_here}
use Rattle.rule_proofs.proofs.Joints.{ready_clause, same_clause, parent_there, joint_here}
use Rattle.clause_proofs.proofs.LineGoals.{opened_clause}
use Rattle.clause_proofs.proofs.ReadyParents.{of_theory}
use Rattle.rule_proofs.proofs.rewrite.rewritten.Goals as goal

pub rewrite_opened-requires-clause-left : goal.rewrite_opened-requires-clause-left
rewrite_opened-requires-clause-left c = ready_clause c.args.signature.now c.args.parents.now c.args.into c.requires.shown.0 c.index-parents-into.result c.in_ok-into_opened.into_opened c.requires.ready c.requires.shown.5.into_clause c.index-parents-into.is c.in_ok-into_opened.ensures

pub rewrite_opened-requires-clause-right : goal.rewrite_opened-requires-clause-right
rewrite_opened-requires-clause-right c = ready_clause c.args.signature.now c.args.parents.now c.args.by c.requires.shown.1 c.index-parents-by.result c.in_ok-by_opened.by_opened c.requires.ready c.requires.shown.5.by_clause c.index-parents-by.is c.in_ok-by_opened.ensures

pub rewrite_opened-requires-clause-joint : goal.rewrite_opened-requires-clause-joint
rewrite_opened-requires-clause-joint c =
    joint_here c.args.signature.now c.args.subst.now c.requires.shown.0 c.requires.shown.1 c.requires.shown.2 c.in_ok-into_opened.into_opened.clause c.in_ok-by_opened.by_opened.clause c.in_ok-opened.opened.clause
    (same_clause c.args.parents.now c.args.into c.requires.shown.0 c.index-parents-into.result c.in_ok-into_opened.into_opened c.requires.shown.5.into_clause c.index-parents-into.is c.in_ok-into_opened.ensures)
    (same_clause c.args.parents.now c.args.by c.requires.shown.1 c.index-parents-by.result c.in_ok-by_opened.by_opened c.requires.shown.5.by_clause c.index-parents-by.is c.in_ok-by_opened.ensures)
    (opened_clause c.args.line.now c.in_ok-opened.opened c.requires.shown.2 c.in_ok-opened.ensures c.requires.shown.5.line_clause) c.requires.shown.4

pub rewrite_opened-requires-clause-matched : goal.rewrite_opened-requires-clause-matched
rewrite_opened-requires-clause-matched c =
    match_here c.args.signature.now c.args.change.now.matching c.requires.shown.0 c.requires.shown.1 c.in_ok-into_opened.into_opened.clause c.in_ok-by_opened.by_opened.clause
    (same_clause c.args.parents.now c.args.into c.requires.shown.0 c.index-parents-into.result c.in_ok-into_opened.into_opened c.requires.shown.5.into_clause c.index-parents-into.is c.in_ok-into_opened.ensures)
    (same_clause c.args.parents.now c.args.by c.requires.shown.1 c.index-parents-by.result c.in_ok-by_opened.by_opened c.requires.shown.5.by_clause c.index-parents-by.is c.in_ok-by_opened.ensures) c.requires.shown.3

pub rewrite_opened-requires-clause-rewrites : goal.rewrite_opened-requires-clause-rewrites
rewrite_opened-requires-clause-rewrites c =
    rewrites_here c.args.signature.now c.args.change.now.matching c.args.subst.now c.requires.shown.0 c.requires.shown.1 c.requires.shown.2 c.in_ok-into_opened.into_opened.clause c.in_ok-by_opened.by_opened.clause c.in_ok-opened.opened.clause c.args.change.now.target c.args.change.now.flipped
    (same_clause c.args.parents.now c.args.into c.requires.shown.0 c.index-parents-into.result c.in_ok-into_opened.into_opened c.requires.shown.5.into_clause c.index-parents-into.is c.in_ok-into_opened.ensures)
    (same_clause c.args.parents.now c.args.by c.requires.shown.1 c.index-parents-by.result c.in_ok-by_opened.by_opened c.requires.shown.5.by_clause c.index-parents-by.is c.in_ok-by_opened.ensures)
    (opened_clause c.args.line.now c.in_ok-opened.opened c.requires.shown.2 c.in_ok-opened.ensures c.requires.shown.5.line_clause) c.requires.shown.5.rewrites

pub returns : goal.returns
returns c =
    ok_map c.rewrite_opened.result
    (λ made f formulas all. f formulas
    (of_theory (theory_of c.args.signature.now formulas) c.args.parents.now c.args.into c.index-parents-into.result all (parent_there c.args.parents.now c.args.into c.requires.shown.0 c.index-parents-into.result c.requires.shown.5.into_clause c.index-parents-into.is))
    (of_theory (theory_of c.args.signature.now formulas) c.args.parents.now c.args.by c.index-parents-by.result all (parent_there c.args.parents.now c.args.by c.requires.shown.1 c.index-parents-by.result c.requires.shown.5.by_clause c.index-parents-by.is)))
    c.rewrite_opened.ensures
