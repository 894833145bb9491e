use Rattle.std.proofs.Common.{take}
use Rattle.saturation.specs.code.Marked.{AreAsked}
use Rattle.saturation.specs.code.Offers.{side_offers}
use Rattle.saturation.proofs.asking.ask_sides.Given as goal

abbrev pub invariant-loop-side : goal.invariant-loop-side
invariant-loop-side g l = AreAsked (g.I.Partners.is_whole l.index) (g.I.Partners.entries l.index) l.positive (side_offers l.lits (take l.side-index l.sides)) l.initial.marks l.marks
