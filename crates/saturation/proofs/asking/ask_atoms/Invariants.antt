use Rattle.std.proofs.Common.{take}
use Rattle.saturation.specs.code.Marked.{AreAsked}
use Rattle.saturation.specs.code.Offers.{atom_offers}
use Rattle.saturation.proofs.asking.ask_atoms.Given as goal

abbrev pub invariant-loop-number : goal.invariant-loop-number
invariant-loop-number g l = AreAsked (g.I.Partners.is_whole l.index) (g.I.Partners.entries l.index) l.positive (atom_offers l.lits (take l.number-index l.numbers)) l.initial.marks l.marks
