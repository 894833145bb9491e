use Rattle.std.proofs.Common.{subst, ℕ, List}
use Rattle.superpose.specs.declared.used.Side.{Side}
use Rattle.superpose.specs.declared.used.Spot.{Spot}
use Rattle.saturation.specs.code.Marked.{AreAsked}
use Rattle.saturation.specs.code.Offers.{atom_offers, side_offers, spot_offers}
use Rattle.saturation.proofs.Asked.{marked_by}
use Rattle.saturation.proofs.asking.partners.Goals as goal

pub returns : goal.returns
returns g c =
    let lits = c.args.lits.now in
    let used = c.args.used.now in
    let whole = g.I.Partners.is_whole c.args.literals.now in
    let other = g.I.Partners.is_whole c.args.terms.now in
    let les = g.I.Partners.entries c.args.literals.now in
    let tes = g.I.Partners.entries c.args.terms.now in
    let sign = c.args.positive in
    let start = c.in_ok-marks.marks in
    let one = c.ask_atoms.new.marks in
    let two = c.ask_sides.new.marks in
    let three = c.ask_spots.new.marks in
    marked_by whole other c.args.count sign (atom_offers lits used.lits) (side_offers lits used.sides) (spot_offers lits used.spots) les tes start one two three c.requires c.in_ok-marks.ensures
    (subst (λ (xs : List ℕ). AreAsked whole les sign (atom_offers lits xs) start one) c.as_slice.ensures c.in_ok-ask_atoms.ensures)
    (subst (λ (xs : List Side). AreAsked other tes sign (side_offers lits xs) one two) c.as_slice-2.ensures c.in_ok-ask_sides.ensures)
    (subst (λ (xs : List Spot). AreAsked other tes sign (spot_offers lits xs) two three) c.as_slice-3.ensures c.in_ok-ask_spots.ensures)
