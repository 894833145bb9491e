use Rattle.std.proofs.Common.{refl}
use Rattle.search_proofs.proofs.Sweeping.{place_below, swept_none, swept_step, swept_all}
use Rattle.search_proofs.proofs.needing.sweep.Goals as goal

pub loop-k-init : goal.loop-k-init
loop-k-init c = swept_none c.args.members.now c.args.marks.now c.requires.size

pub pass-requires-clause-below : goal.pass-requires-clause-below
pass-requires-clause-below c =
    place_below c.args.members.now c.args.marks.now c.requires.size c.loop-k.k _ c.index-members-at.result c.loop-k.marks c.requires.earlier c.loop-k-test.true refl c.index-members-at.is c.loop-k.invariant

pub loop-k-preserved : goal.loop-k-preserved
loop-k-preserved c =
    swept_step c.args.members.now c.args.marks.now c.requires.size c.loop-k.k _ c.index-members-at.result c.loop-k.marks c.pass.new.marks c.requires.earlier c.loop-k-test.true refl c.index-members-at.is c.loop-k.invariant c.pass.ensures

pub returns : goal.returns
returns c = swept_all c.args.members.now c.args.marks.now c.loop-k.k c.loop-k.marks c.loop-k-test.false c.loop-k.invariant
