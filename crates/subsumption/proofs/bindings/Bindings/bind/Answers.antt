use Rattle.std.proofs.Common.{Some}
use Rattle.std.proofs.Math.ListN.{set}
use Rattle.smallvec.specs.SmallVec.{with_items}
use Rattle.subsumption.proofs.BoundFacts.{image_lent, image_written, over_one, adds_one, bound_already, keeps_bound, keeps_all}
use Rattle.subsumption.proofs.bindings.Bindings.bind.Goals as goal

pub returns-in-Some-clause-matched : goal.returns-in-Some-clause-matched
returns-in-Some-clause-matched c =
    let there = image_lent c.args.self.now c.deref.result.now c.args.variable _ _ c.requires c.deref.ensures c.in-Some.is in
    bound_already c.args.self.now c.args.variable c.in-Some.image.now c.args.term.now c.equal_term.result there c.equal_term.ensures

pub returns-in_ok-push-in-None-clause-over : goal.returns-in_ok-push-in-None-clause-over
returns-in_ok-push-in-None-clause-over c =
    let free = image_lent c.args.self.now c.deref.result.now c.args.variable _ _ c.requires c.deref.ensures c.in-None.is in
    let written = image_written c.args.self.now.images.items c.deref_mut.result.now c.args.variable (Some c.args.term) c.deref_mut.ensures.value in
    over_one c.args.self.now _ c.args.variable c.args.term.now free written c.in_ok-push-in-None.ensures.ok

pub returns-in_ok-push-in-None-clause-matched : goal.returns-in_ok-push-in-None-clause-matched
returns-in_ok-push-in-None-clause-matched c =
    let free = image_lent c.args.self.now c.deref.result.now c.args.variable _ _ c.requires c.deref.ensures c.in-None.is in
    let written = image_written c.args.self.now.images.items c.deref_mut.result.now c.args.variable (Some c.args.term) c.deref_mut.ensures.value in
    adds_one c.args.self.now _ c.args.variable c.args.term.now c.requires free written

pub returns-in-Some-clause-sorted : goal.returns-in-Some-clause-sorted
returns-in-Some-clause-sorted c = keeps_all c.args.self.now c.args.variable c.args.term.now

pub returns-in_ok-push-in-None-clause-sorted : goal.returns-in_ok-push-in-None-clause-sorted
returns-in_ok-push-in-None-clause-sorted c =
    let written = image_written c.args.self.now.images.items c.deref_mut.result.now c.args.variable (Some c.args.term) c.deref_mut.ensures.value in
    keeps_bound c.args.self.now
    (record { images = with_items c.args.self.now.images (set c.deref_mut.result.now c.args.variable (Some c.args.term)); trail = c.push.new.self })
    c.args.variable c.args.term.now c.requires written
