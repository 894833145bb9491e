use Rattle.std.proofs.Common.{subst, sym, List, [], ◌≡◌}
use Rattle.saturation.specs.declared.member.Member.{Member}
use Rattle.superpose.specs.Drafts.{IsClause}
use Rattle.saturation.specs.Lists.{IsCoveredIn}
use Rattle.saturation.specs.Members.{clauses_of}
use Rattle.saturation.specs.code.Search.{IsTaken, IsUnderWay}
use Rattle.saturation.proofs.Lists.{untrue}
use Rattle.saturation.proofs.UnderWay.{taken_one, taken_rest, after_covered}
use Rattle.saturation.proofs.covering.next_open.Goals as goal

pub is_covered-requires-clause-clause : goal.is_covered-requires-clause-clause
is_covered-requires-clause-clause c =
    subst (λ (m : Member). IsClause c.args.signature.now m.clause) (sym c.in_ok-member.ensures)
    (taken_one (λ m. IsClause c.args.signature.now m.clause) c.loop-next.queue c.pop.new.self c.in-Some.next c.in-Some.ensures c.loop-next.invariant.0)

pub returns-then-not-branch : goal.returns-then-not-branch
returns-then-not-branch c = λ whole inputs heavy h. (
  c.loop-next.queue,
  c.loop-next.invariant.1 whole inputs heavy h,
  subst (IsTaken c.loop-next.queue c.pop.new.self) (sym c.in_ok-member.ensures) c.in-Some.ensures,
  untrue c.in_ok-is_covered.field-0 (IsCoveredIn c.args.signature.now (clauses_of c.args.list.now) c.in_ok-member.member.clause) c.if-not-branch.true c.in_ok-is_covered.ensures,
)

pub loop-next-preserved-else-not-branch : goal.loop-next-preserved-else-not-branch
loop-next-preserved-else-not-branch c =
    let taken = subst (IsTaken c.loop-next.queue c.pop.new.self) (sym c.in_ok-member.ensures) c.in-Some.ensures in (
      taken_rest (λ m. IsClause c.args.signature.now m.clause) c.loop-next.queue c.pop.new.self c.in_ok-member.member taken c.loop-next.invariant.0,
      λ whole inputs heavy h.
          after_covered c.args.signature.now whole inputs (clauses_of c.args.list.now) c.loop-next.queue c.pop.new.self heavy c.in_ok-member.member (c.loop-next.invariant.1 whole inputs heavy h) taken
          (c.in_ok-is_covered.ensures.0 c.if-not-branch.false),
    )

pub loop-next-preserved : goal.loop-next-preserved
loop-next-preserved c =
    let taken = subst (IsTaken c.loop-next.queue c.pop.new.self) (sym c.in_ok-member.ensures) c.in-Some.ensures in (
      taken_rest (λ m. IsClause c.args.signature.now m.clause) c.loop-next.queue c.pop.new.self c.in_ok-member.member taken c.loop-next.invariant.0,
      λ whole inputs heavy h.
          after_covered c.args.signature.now whole inputs (clauses_of c.args.list.now) c.loop-next.queue c.pop.new.self heavy c.in_ok-member.member (c.loop-next.invariant.1 whole inputs heavy h) taken
          (c.in_ok-is_covered.ensures.0 c.if-not-branch.false),
    )

pub returns : goal.returns
returns c = λ whole inputs heavy h.
    let none : c.loop-next.queue ≡ [] = c.in_default.ensures.0 in
    subst (λ (q : List Member). IsUnderWay c.args.signature.now whole inputs (clauses_of c.args.list.now) [] q heavy) none (c.loop-next.invariant.1 whole inputs heavy h)
