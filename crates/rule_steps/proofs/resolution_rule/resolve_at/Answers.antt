use Rattle.std.proofs.Common.{subst}
use Rattle.rule_steps.specs.code.ResolutionSearch.{NeverResolves}
use Rattle.clause_rules.proofs.Firsts.{ok_map}
use Rattle.rule_steps.proofs.ResolvedAt.{asked_sorted, asked_settled, no_resolution}
use Rattle.rule_steps.proofs.resolution_rule.resolve_at.Goals as goal

pub returns-then-not-may_resolve : goal.returns-then-not-may_resolve
returns-then-not-may_resolve c =
    no_resolution c.args.search.now.sig.now c.args.left.now c.args.right.now c.args.search.now.line.now c.args.i c.args.j
    (subst (λ ls. NeverResolves ls c.args.left.now.lits c.args.right.now.lits c.args.i c.args.j) c.as_slice-line_lits.ensures
    (subst (λ ls. NeverResolves c.as_slice-line_lits.result.now ls c.args.right.now.lits c.args.i c.args.j) c.as_slice.ensures
    (subst (λ ls. NeverResolves c.as_slice-line_lits.result.now c.as_slice.result.now ls c.args.i c.args.j) c.as_slice-2.ensures (c.may_resolve.ensures c.if-not-may_resolve.true))))

pub settle-requires-clause-sorted : goal.settle-requires-clause-sorted
settle-requires-clause-sorted c =
    asked_sorted c.args.search.now.sig.now c.args.left.now c.args.right.now c.args.search.now.line.now c.requires.left c.requires.right c.requires.line c.in_ok-joint.joint c.in_ok-joint.ensures c.args.i c.args.j c.in_ok-goal.goal c.in_ok-goal.ensures c.requires.left_lit c.requires.right_lit

pub returns : goal.returns
returns c =
    ok_map c.settle.result
    (asked_settled c.args.search.now.sig.now c.args.left.now c.args.right.now c.args.search.now.line.now c.requires.left c.requires.right c.requires.line c.in_ok-joint.joint c.in_ok-joint.ensures c.args.i c.args.j c.in_ok-goal.goal c.in_ok-goal.ensures c.requires.left_lit c.requires.right_lit) c.settle.ensures
