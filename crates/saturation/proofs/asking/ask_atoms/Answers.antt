use Rattle.std.proofs.Common.{option_to_list, get_or, take, ◌+◌}
use Rattle.saturation.specs.code.Offers.{atom_at, atom_offers}
use Rattle.saturation.proofs.Feeding.{offers_at, asked_then}
use Rattle.saturation.proofs.asking.ask_atoms.Goals as goal

pub loop-number-preserved : goal.loop-number-preserved
loop-number-preserved g c =
    let lits = c.args.lits.now in
    let i = c.loop-number.number-index in
    asked_then (g.I.Partners.is_whole c.args.index.now) (g.I.Partners.entries c.args.index.now) c.args.positive (atom_offers lits (take i c.args.numbers.now)) (option_to_list (atom_at lits (get_or c.args.numbers.now i 0)))
    (atom_offers lits (take (i + 1) c.args.numbers.now)) c.args.marks.now c.loop-number.marks c.ask_atom.new.marks (offers_at (atom_at lits) c.args.numbers.now i 0 c.loop-number-test.true)
    c.loop-number.invariant c.in_ok-ask_atom.ensures
