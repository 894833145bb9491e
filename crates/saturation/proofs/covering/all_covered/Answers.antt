use Rattle.std.proofs.Common.{subst, sym}
use Rattle.superpose.specs.Drafts.{IsClause}
use Rattle.saturation.specs.Lists.{IsCoveredIn}
use Rattle.saturation.specs.Members.{clauses_of}
use Rattle.saturation.proofs.Lists.{each_at, each_more, each_all, member_at, untrue}
use Rattle.saturation.proofs.covering.all_covered.Goals as goal

pub is_covered-requires-clause-clause : goal.is_covered-requires-clause-clause
is_covered-requires-clause-clause c =
    subst (IsClause c.args.signature.now) (sym c.in_ok-clause.ensures)
    (each_at (λ m. IsClause c.args.signature.now m.clause) c.args.others.now c.loop-member.member-index c.member-item.result c.requires.others c.loop-member-test.true c.member-item.is)

pub returns-then-not-branch : goal.returns-then-not-branch
returns-then-not-branch c = (
  c.member-item.result,
  member_at c.args.others.now c.loop-member.member-index c.member-item.result c.loop-member-test.true c.member-item.is,
  λ covered.
      untrue c.in_ok-is_covered.field-0 (IsCoveredIn c.args.signature.now (clauses_of c.args.list.now) c.in_ok-clause.clause) c.if-not-branch.true c.in_ok-is_covered.ensures
      (subst (IsCoveredIn c.args.signature.now (clauses_of c.args.list.now)) (sym c.in_ok-clause.ensures) covered),
)

pub loop-member-preserved : goal.loop-member-preserved
loop-member-preserved c =
    each_more (λ m. IsCoveredIn c.args.signature.now (clauses_of c.args.list.now) m.clause) c.args.others.now c.loop-member.member-index c.member-item.result c.loop-member-test.true c.member-item.is
    c.loop-member.invariant (subst (IsCoveredIn c.args.signature.now (clauses_of c.args.list.now)) c.in_ok-clause.ensures (c.in_ok-is_covered.ensures.0 c.if-not-branch.false))

pub returns : goal.returns
returns c = each_all (λ m. IsCoveredIn c.args.signature.now (clauses_of c.args.list.now) m.clause) c.args.others.now c.loop-member.member-index c.loop-member-test.false c.loop-member.invariant
