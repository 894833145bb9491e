use Rattle.std.proofs.Common.{◌∙◌, ◌++◌, ap, refl, List}
use Rattle.std.proofs.lemmas.Result.{on_ok_weaker}
use Rattle.saturation.specs.declared.offers.Offer.{Offer}
use Rattle.saturation.specs.code.Entered.{entries_of}
use Rattle.saturation.specs.code.Offers.{atom_offers, side_offers, spot_offers}
use Rattle.saturation.proofs.Feeding.{of_lent, filed_then}
use Rattle.saturation.proofs.Offering.{all_offered, entered_with}
use Rattle.saturation.proofs.entering.enter.Goals as goal

pub returns-clause-entered : goal.returns-clause-entered
returns-clause-entered g c =
    let lits = c.args.clause.now.lits in
    let used = c.args.used.now in
    let n = c.args.place in
    let lent = c.as_slice-lits.result.now in
    let les = g.I.Partners.entries c.args.literals.now in
    let tes = g.I.Partners.entries c.args.terms.now in
    let mid = g.I.Partners.entries c.enter_sides.new.index in
    on_ok_weaker c.enter_spots.result
    (λ filed list many literals_whole terms_whole h.
    let atoms =
    c.in_ok-enter_atoms.ensures.entered literals_whole
    ∙ ap (λ (os : List Offer). les ++ entries_of n os) (of_lent atom_offers lits lent used.lits c.as_slice.result.now c.as_slice-lits.ensures c.as_slice.ensures) in
    let sides =
    c.in_ok-enter_sides.ensures.entered terms_whole
    ∙ ap (λ (os : List Offer). tes ++ entries_of n os) (of_lent side_offers lits lent used.sides c.as_slice-2.result.now c.as_slice-lits.ensures c.as_slice-2.ensures) in
    let spots =
    filed (c.enter_sides.ensures.whole ∙ terms_whole)
    ∙ ap (λ (os : List Offer). mid ++ entries_of n os) (of_lent spot_offers lits lent used.spots c.as_slice-3.result.now c.as_slice-lits.ensures c.as_slice-3.ensures) in
    entered_with list c.args.clause.now n les (g.I.Partners.entries c.enter_atoms.new.index) tes (g.I.Partners.entries c.enter_spots.new.index) (atom_offers lits used.lits) (side_offers lits used.sides ++ spot_offers lits used.spots)
    many (all_offered lits used c.requires.used) atoms
    (filed_then n tes mid (g.I.Partners.entries c.enter_spots.new.index) (side_offers lits used.sides) (spot_offers lits used.spots) (side_offers lits used.sides ++ spot_offers lits used.spots) refl sides spots) h)
    c.enter_spots.ensures.entered
