use Rattle.std.proofs.Common.{◌∙◌, arith, map, refl, sym}
use Rattle.flat_proofs.specs.code.Members.{seen}
use Rattle.flat_proofs.proofs.Arms.{refuted_start, before_start, before_own, before_next, refuted_next, refuted_end}
use Rattle.flat_proofs.proofs.MemberFacts.{closed_count, closed_lift, body_reach}
use Rattle.flat_proofs.proofs.denying.refuted.Goals as goal

pub none_left-requires-clause-members : goal.none_left-requires-clause-members
none_left-requires-clause-members c = omega (arith, closed_count c.args.members.now c.args.closed.now c.requires.closed, c.requires.many)

pub loop-done-init : goal.loop-done-init
loop-done-init c = record {
  made = refuted_start c.args.closed.now c.args.members.now _ 0 c.args.count c.in_ok-made.made refl (closed_count c.args.members.now c.args.closed.now c.requires.closed) c.in_ok-made.ensures;
  count = before_start c.args.members.now 0 c.args.count refl;
}

pub overflow_sub-before : goal.overflow_sub-before
overflow_sub-before c = omega (arith, before_own c.args.closed.now c.args.members.now c.loop-done.done _ c.index-members-number.result c.loop-done-test.true refl c.index-members-number.is c.loop-done.before c.args.count c.loop-done.invariant.count c.requires.count, c.len-before.ensures)

pub denied-requires-clause-few : goal.denied-requires-clause-few
denied-requires-clause-few c =
    omega (arith, before_own c.args.closed.now c.args.members.now c.loop-done.done _ c.index-members-number.result c.loop-done-test.true refl c.index-members-number.is c.loop-done.before c.args.count c.loop-done.invariant.count c.requires.count, c.len-before.ensures, c.loop-done.invariant.count, c.requires.few)

pub denied-requires-clause-body : goal.denied-requires-clause-body
denied-requires-clause-body c =
    body_reach c.args.members.now _ c.index-members-number.result (omega (arith, c.loop-done-test.true)) c.index-members-number.is c.requires.room _ (omega (arith, c.loop-done.invariant.count, c.requires.few))

pub denied-requires-clause-closed : goal.denied-requires-clause-closed
denied-requires-clause-closed c = closed_lift _ (map seen c.args.members.now) c.args.closed.now c.requires.room c.requires.closed (omega (arith, c.loop-done.invariant.count, c.requires.few))

pub loop-done-preserved : goal.loop-done-preserved
loop-done-preserved c =
    let own = before_own c.args.closed.now c.args.members.now c.loop-done.done _ c.index-members-number.result c.loop-done-test.true refl c.index-members-number.is c.loop-done.before c.args.count c.loop-done.invariant.count c.requires.count in
    record {
      made = refuted_next c.args.closed.now c.args.members.now c.loop-done.done _ c.index-members-number.result c.loop-done-test.true refl c.index-members-number.is c.loop-done.before c.len-before.result c.loop-done.made c.in_ok-made-2.made c.len-before.ensures (omega (arith, own, c.len-before.ensures)) c.in_ok-made-2.ensures c.loop-done.invariant.made;
      count = before_next c.args.closed.now c.args.members.now c.loop-done.done _ c.index-members-number.result c.loop-done-test.true refl c.index-members-number.is c.loop-done.before c.len-before.result c.args.count c.len-before.ensures (omega (arith, own, c.len-before.ensures)) c.loop-done.invariant.count;
    }

pub returns : goal.returns
returns c = refuted_end c.args.closed.now c.args.members.now c.loop-done.done c.loop-done.before c.args.count c.loop-done.made c.loop-done-test.false c.requires.count c.loop-done.invariant.count c.loop-done.invariant.made
