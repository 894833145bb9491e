use Rattle.std.proofs.Common.{◌≡◌, ◌≤◌, length, arith}
use Rattle.std.proofs.lemmas.List.{length-map}
use Rattle.saturation.specs.declared.member.Member.{Member}
use Rattle.saturation.specs.Members.{clauses_of}
use Rattle.saturation.proofs.Covered.{clause_at, known_at}
use Rattle.saturation.proofs.MadeWith.{marked_more, so_far_end}
use Rattle.saturation.proofs.inferring.add_marked.Goals as goal

pub add_pair-requires-clause-d : goal.add_pair-requires-clause-d
add_pair-requires-clause-d g c = clause_at c.args.signature.now c.args.list.now c.loop-at.at c.index-list-at.result c.requires.clauses c.loop-at-test.true

pub add_pair-requires-clause-used_of_d : goal.add_pair-requires-clause-used_of_d
add_pair-requires-clause-used_of_d g c = (known_at c.args.list.now c.args.known.now c.loop-at.at c.index-list-at.result c.index-known-at.result c.requires.known c.loop-at-test.true).used

pub add_pair-requires-in-loop-at-clause-c : goal.add_pair-requires-in-loop-at-clause-c
add_pair-requires-in-loop-at-clause-c g c = clause_at c.args.signature.now c.args.list.now c.loop-at.at c.index-list-at.result c.requires.clauses c.loop-at-test.true

pub add_pair-requires-in-loop-at-clause-used_of_c :
    goal.add_pair-requires-in-loop-at-clause-used_of_c
add_pair-requires-in-loop-at-clause-used_of_c g c = (known_at c.args.list.now c.args.known.now c.loop-at.at c.index-list-at.result c.index-known-at.result c.requires.known c.loop-at-test.true).used

pub loop-at-preserved : goal.loop-at-preserved
loop-at-preserved g c =
    marked_more c.args.signature.now c.args.list.now c.index-list-at.result c.loop-at.at c.in_ok-number.field-0 c.args.last.now.clause.now c.args.last.now.number c.args.into.now c.args.from.now c.args.members.now c.loop-at.members
    c.add_pair.new.members c.add_pair-in-loop-at.new.members c.loop-at-test.true c.requires.into c.requires.from c.in_ok-number.ensures c.loop-at.invariant c.in_ok-add_pair.ensures c.in_ok-add_pair-2.ensures

pub returns : goal.returns
returns g c =
    let count : length (clauses_of c.args.list.now) ≡ length c.args.list.now = length-map c.args.list.now (λ (m : Member). m.clause) in
    let past = c.loop-at-test.false in
    let over : length (clauses_of c.args.list.now) ≤ c.loop-at.at = omega arith in
    so_far_end c.loop-at.at c.args.signature.now (clauses_of c.args.list.now) c.args.last.now.clause.now c.args.last.now.number c.args.into.now c.args.from.now c.args.members.now c.loop-at.members over c.loop-at.invariant
