use Rattle.rule_steps.proofs.CoverEnds.{covering_sorted, covering_settled}
use Rattle.clause_rules.proofs.Firsts.{ok_map}
use Rattle.substitution_search.proofs.Narrowing.{covers_as}
use Rattle.rule_steps.proofs.cover_rule.cover_clause.Goals as goal

pub settle_covers-requires-clause-sorted : goal.settle_covers-requires-clause-sorted
settle_covers-requires-clause-sorted c =
    covering_sorted c.args.sig.now c.args.clause.now c.args.line.now c.requires.clause c.requires.line c.in_ok-joint.joint c.in_ok-joint.ensures _
    (covers_as c.args.line.now.lits c.in_ok-joint.joint.left c.as_slice-2.result.now c.as_slice.result.now c.as_slice-2.ensures c.as_slice.ensures)

pub returns : goal.returns
returns c =
    ok_map c.settle_covers.result
    (covering_settled c.args.sig.now c.args.clause.now c.args.line.now c.requires.clause c.requires.line c.in_ok-joint.joint c.in_ok-joint.ensures _
    (covers_as c.args.line.now.lits c.in_ok-joint.joint.left c.as_slice-2.result.now c.as_slice.result.now c.as_slice-2.ensures c.as_slice.ensures)) c.settle_covers.ensures
