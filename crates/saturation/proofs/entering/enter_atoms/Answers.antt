use Rattle.std.proofs.Common.{◌∙◌, option_to_list, get_or, take, ◌+◌}
use Rattle.saturation.specs.code.Offers.{atom_at, atom_offers}
use Rattle.saturation.proofs.Feeding.{offers_at, filed_then}
use Rattle.saturation.proofs.entering.enter_atoms.Goals as goal

pub loop-number-preserved : goal.loop-number-preserved
loop-number-preserved g c =
    let lits = c.args.lits.now in
    let i = c.loop-number.number-index in
    record {
      whole = c.enter_atom.ensures.whole ∙ c.loop-number.invariant.whole;
      entered = λ is.
          filed_then c.args.place (g.I.Partners.entries c.args.index.now) (g.I.Partners.entries c.loop-number.index) (g.I.Partners.entries c.enter_atom.new.index)
          (atom_offers lits (take i c.args.numbers.now)) (option_to_list (atom_at lits (get_or c.args.numbers.now i 0))) (atom_offers lits (take (i + 1) c.args.numbers.now))
          (offers_at (atom_at lits) c.args.numbers.now i 0 c.loop-number-test.true) (c.loop-number.invariant.entered is)
          (c.in_ok-enter_atom.ensures.entered (c.loop-number.invariant.whole ∙ is));
    }
