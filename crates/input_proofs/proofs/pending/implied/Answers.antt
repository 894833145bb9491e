use Rattle.norm_proofs.proofs.FittingFacts.{picked_place, picked_fits}
use Rattle.norm_proofs.proofs.RoutesFacts.{pick_small}
use Rattle.input_proofs.proofs.PendingFacts.{by_whole, by_member, member_sorted}
use Rattle.input_proofs.proofs.pending.implied.Goals as goal

pub bounds-members-place : goal.bounds-members-place
bounds-members-place c = picked_place c.args.path.now c.in-Pick.rest c.in-Pick.number c.args.form.now c.in-And.members c.as_slice-members.result.now c.in-Pick.is c.in-And.is c.as_slice-members.ensures c.requires.fits

pub path_proof-requires-clause-size : goal.path_proof-requires-clause-size
path_proof-requires-clause-size c =
    let there = picked_place c.args.path.now c.in-Pick.rest c.in-Pick.number c.args.form.now c.in-And.members c.as_slice-members.result.now c.in-Pick.is c.in-And.is c.as_slice-members.ensures c.requires.fits in
    pick_small c.args.form.now c.index-members-place.result c.in-And.members c.as_slice-members.result.now c.in-Pick.number c.in-And.is c.as_slice-members.ensures there c.index-members-place.is c.requires.small

pub path_proof-requires-clause-sorted : goal.path_proof-requires-clause-sorted
path_proof-requires-clause-sorted c =
    let there = picked_place c.args.path.now c.in-Pick.rest c.in-Pick.number c.args.form.now c.in-And.members c.as_slice-members.result.now c.in-Pick.is c.in-And.is c.as_slice-members.ensures c.requires.fits in
    member_sorted c.args.form.now c.index-members-place.result c.in-And.members c.as_slice-members.result.now c.in-Pick.number c.in-And.is c.as_slice-members.ensures there c.index-members-place.is c.requires.sorted

pub path_proof-requires-clause-fits : goal.path_proof-requires-clause-fits
path_proof-requires-clause-fits c =
    let there = picked_place c.args.path.now c.in-Pick.rest c.in-Pick.number c.args.form.now c.in-And.members c.as_slice-members.result.now c.in-Pick.is c.in-And.is c.as_slice-members.ensures c.requires.fits in
    picked_fits c.args.path.now c.in-Pick.rest c.get.result.now c.in-Pick.number c.args.form.now c.index-members-place.result c.in-And.members c.as_slice-members.result.now c.in-Pick.is c.in-And.is c.as_slice-members.ensures c.get.ensures there c.index-members-place.is c.requires.fits

pub returns-in-Pick : goal.returns-in-Pick
returns-in-Pick c =
    let there = picked_place c.args.path.now c.in-Pick.rest c.in-Pick.number c.args.form.now c.in-And.members c.as_slice-members.result.now c.in-Pick.is c.in-And.is c.as_slice-members.ensures c.requires.fits in
    by_member c.args.form.now c.index-members-place.result c.in-And.members c.as_slice-members.result.now c.args.path.now c.in-Pick.rest c.get.result.now c.in-Pick.number c.args.fact c.in_ok-path_proof.field-0 c.in-And.is c.as_slice-members.ensures c.in-Pick.is c.get.ensures there c.index-members-place.is
    c.in_ok-path_proof.ensures

pub returns : goal.returns
returns c = by_whole c.args.form.now c.args.path.now c.args.fact c.in_ok-path_proof-2.field-0 c.in_ok-path_proof-2.ensures
