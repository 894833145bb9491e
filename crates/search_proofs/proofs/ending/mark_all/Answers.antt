use Rattle.std.proofs.Common.{refl}
use Rattle.search_proofs.proofs.Contradicted.{marked_none, marked_more, marked_done, place_fits}
use Rattle.search_proofs.proofs.ending.mark_all.Goals as goal

pub loop-k-init : goal.loop-k-init
loop-k-init c = marked_none c.args.places.now c.args.marks.now

pub set-requires : goal.set-requires
set-requires c = place_fits c.args.places.now c.loop-k.k _ c.args.marks.now c.loop-k.marks c.loop-k-test.true refl c.requires c.loop-k.invariant

pub loop-k-preserved : goal.loop-k-preserved
loop-k-preserved c =
    marked_more c.args.places.now c.loop-k.k _ c.args.marks.now c.loop-k.marks c.set.new.self c.loop-k-test.true refl
    (place_fits c.args.places.now c.loop-k.k _ c.args.marks.now c.loop-k.marks c.loop-k-test.true refl c.requires c.loop-k.invariant) c.loop-k.invariant c.set.ensures

pub returns : goal.returns
returns c = marked_done c.args.places.now c.loop-k.k c.args.marks.now c.loop-k.marks c.loop-k-test.false c.loop-k.invariant
