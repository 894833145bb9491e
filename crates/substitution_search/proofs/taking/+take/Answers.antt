use Rattle.std.proofs.Common.{◌∙◌, rules, arith, length}
use Rattle.fof_terms.specs.declared.form.Form.TheViews.{the_lemmas}
use Rattle.clause_rules.proofs.Firsts.{there_at}
use Rattle.substitution_search.proofs.TakenSoFar.{taken_more, under_taken, leaf_done, pick_past, pick_there}
use Rattle.substitution_search.proofs.Room.{members_of_and, members_of_or, under_taken_room, own_taken_room, picked_room, place_room, next_room}
use Rattle.substitution_search.proofs.taking.+take.Goals as goal

pub take-returns-in_ok-new-in-All : goal.take-returns-in_ok-new-in-All
take-returns-in_ok-new-in-All t c =
    under_taken c.args.form.now c.in-All.body c.get.result.now c.in-All.sort c.len.result c.args.taking.now c.args.names.now c.push.new.self c.take.new.names c.pop.new.self c.push-in-All.new.self c.in_ok-path-in-All.path c.in_ok-new-in-All.field-0 c.take.new.taking c.pop.result
    c.in-All.is c.get.ensures c.len.ensures c.in_ok-push-in-All.ensures.ok c.in_ok-push-in-All-2.ensures.ok c.in_ok-path-in-All.ensures c.pop.ensures c.in_ok-new-in-All.ensures

pub take-returns-in-Atom : goal.take-returns-in-Atom
take-returns-in-Atom t c = leaf_done c.args.form.now c.args.taking.now c.take_leaf.new.taking c.args.names.now c.as_slice-in-Atom.result.now c.take_leaf.result c.in-Atom.is c.as_slice-in-Atom.ensures c.take_leaf.ensures

pub take_each-loop-member-preserved : goal.take_each-loop-member-preserved
take_each-loop-member-preserved t c =
    taken_more c.args.members.now c.loop-member.member-index c.args.taking.now c.args.names.now c.loop-member.paths c.loop-member.taking c.loop-member.names c.member-item.result c.in_ok-take.field-0 c.take.new.taking c.take.new.names c.push.new.self
    c.loop-member-test.true c.member-item.is c.loop-member.invariant c.in_ok-take.ensures c.in_ok-push.ensures.ok

pub take_pick-returns-then-choice-members : goal.take_pick-returns-then-choice-members
take_pick-returns-then-choice-members t c = pick_past c.args.members.now c.args.taking.now c.args.names.now c.pop.new.self c.in-Some.choice c.in-Some.ensures c.if-choice-members.true

pub take_pick-returns-in_ok-new-in-Some : goal.take_pick-returns-in_ok-new-in-Some
take_pick-returns-in_ok-new-in-Some t c =
    pick_there c.args.members.now c.args.taking.now c.args.names.now c.pop.new.self c.in-Some.choice c.index-members-choice.result c.in_ok-path-in-Some.path c.in_ok-new-in-Some.field-0 c.take.new.taking c.take.new.names c.in-Some.ensures
    (there_at c.args.members.now c.in-Some.choice c.index-members-choice.result c.if-choice-members.false c.index-members-choice.is) c.in_ok-path-in-Some.ensures c.in_ok-new-in-Some.ensures

pub take-take_pick-requires : goal.take-take_pick-requires
take-take_pick-requires t c = (search (rules, the_lemmas), members_of_and c.args.form.now c.in-And.members c.as_slice.result.now (length c.args.taking.now.sorts) c.in-And.is c.as_slice.ensures c.requires.small)

pub take-take_each-requires : goal.take-take_each-requires
take-take_each-requires t c = (search (rules, the_lemmas), members_of_or c.args.form.now c.in-Or.members c.as_slice-in-Or.result.now (length c.args.taking.now.sorts) c.in-Or.is c.as_slice-in-Or.ensures c.requires.small)

pub take-overflow_cast-len : goal.take-overflow_cast-len
take-overflow_cast-len t c = omega (arith, own_taken_room c.args.form.now c.in-All.body c.in-All.sort (length c.args.taking.now.sorts) c.in-All.is c.requires.small, c.len.ensures)

pub take-take-requires : goal.take-take-requires
take-take-requires t c = (search (rules, the_lemmas), under_taken_room c.args.form.now c.in-All.body c.get.result.now c.in-All.sort c.args.taking.now.sorts c.push-in-All.new.self c.in-All.is c.get.ensures c.in_ok-push-in-All-2.ensures.ok c.requires.small)

pub take_each-take-requires : goal.take_each-take-requires
take_each-take-requires t c = (search (rules, the_lemmas), next_room c.args.members.now c.loop-member.member-index c.args.taking.now c.args.names.now c.loop-member.taking c.loop-member.names c.member-item.result c.loop-member-test.true c.member-item.is c.loop-member.invariant.state_is c.requires.small)

pub take_pick-take-requires : goal.take_pick-take-requires
take_pick-take-requires t c = (search (rules, the_lemmas), picked_room c.args.members.now c.in-Some.choice (length c.args.taking.now.sorts) c.index-members-choice.result c.if-choice-members.false c.index-members-choice.is c.requires.small)

pub take_pick-overflow_cast-result : goal.take_pick-overflow_cast-result
take_pick-overflow_cast-result t c = omega (arith, place_room c.args.members.now c.in-Some.choice (length c.args.taking.now.sorts) c.if-choice-members.false c.requires.small)
