use Rattle.derive_kit.proofs.Built.{ok_map}
use Rattle.clause_proofs.specs.Refuting.{theory_of}
use Rattle.rule_proofs.proofs.Joints.{ready_clause, same_clause, parent_there, joint_here, paramodulates_here}
use Rattle.clause_proofs.proofs.LineGoals.{opened_clause}
use Rattle.clause_proofs.proofs.ReadyParents.{of_theory}
use Rattle.rule_proofs.proofs.paramodulation.paramodulated.Goals as goal

pub paramodulate_opened-requires-clause-left : goal.paramodulate_opened-requires-clause-left
paramodulate_opened-requires-clause-left c = ready_clause c.args.signature.now c.args.parents.now c.args.into c.requires.shown.0 c.index-parents-into.result c.in_ok-into_opened.into_opened c.requires.ready c.requires.shown.4.into_clause c.index-parents-into.is c.in_ok-into_opened.ensures

pub paramodulate_opened-requires-clause-right : goal.paramodulate_opened-requires-clause-right
paramodulate_opened-requires-clause-right c = ready_clause c.args.signature.now c.args.parents.now c.args.from c.requires.shown.1 c.index-parents-from.result c.in_ok-from_opened.from_opened c.requires.ready c.requires.shown.4.from_clause c.index-parents-from.is c.in_ok-from_opened.ensures

pub paramodulate_opened-requires-clause-joint : goal.paramodulate_opened-requires-clause-joint
paramodulate_opened-requires-clause-joint c =
    joint_here c.args.signature.now c.args.subst.now c.requires.shown.0 c.requires.shown.1 c.requires.shown.2 c.in_ok-into_opened.into_opened.clause c.in_ok-from_opened.from_opened.clause c.in_ok-opened.opened.clause
    (same_clause c.args.parents.now c.args.into c.requires.shown.0 c.index-parents-into.result c.in_ok-into_opened.into_opened c.requires.shown.4.into_clause c.index-parents-into.is c.in_ok-into_opened.ensures)
    (same_clause c.args.parents.now c.args.from c.requires.shown.1 c.index-parents-from.result c.in_ok-from_opened.from_opened c.requires.shown.4.from_clause c.index-parents-from.is c.in_ok-from_opened.ensures)
    (opened_clause c.args.line.now c.in_ok-opened.opened c.requires.shown.2 c.in_ok-opened.ensures c.requires.shown.4.line_clause) c.requires.shown.3

pub paramodulate_opened-requires-clause-paramodulates : goal.paramodulate_opened-requires-clause-paramodulates
paramodulate_opened-requires-clause-paramodulates c =
    paramodulates_here c.args.signature.now c.args.subst.now c.requires.shown.0 c.requires.shown.1 c.requires.shown.2 c.in_ok-into_opened.into_opened.clause c.in_ok-from_opened.from_opened.clause c.in_ok-opened.opened.clause c.args.change.now.into_lit c.args.change.now.at c.args.change.now.from_lit c.args.change.now.flipped
    (same_clause c.args.parents.now c.args.into c.requires.shown.0 c.index-parents-into.result c.in_ok-into_opened.into_opened c.requires.shown.4.into_clause c.index-parents-into.is c.in_ok-into_opened.ensures)
    (same_clause c.args.parents.now c.args.from c.requires.shown.1 c.index-parents-from.result c.in_ok-from_opened.from_opened c.requires.shown.4.from_clause c.index-parents-from.is c.in_ok-from_opened.ensures)
    (opened_clause c.args.line.now c.in_ok-opened.opened c.requires.shown.2 c.in_ok-opened.ensures c.requires.shown.4.line_clause) c.requires.shown.4.paramodulates

pub returns : goal.returns
returns c =
    ok_map c.paramodulate_opened.result
    (λ made f formulas all. f formulas
    (of_theory (theory_of c.args.signature.now formulas) c.args.parents.now c.args.into c.index-parents-into.result all (parent_there c.args.parents.now c.args.into c.requires.shown.0 c.index-parents-into.result c.requires.shown.4.into_clause c.index-parents-into.is))
    (of_theory (theory_of c.args.signature.now formulas) c.args.parents.now c.args.from c.index-parents-from.result all (parent_there c.args.parents.now c.args.from c.requires.shown.1 c.index-parents-from.result c.requires.shown.4.from_clause c.index-parents-from.is)))
    c.paramodulate_opened.ensures
