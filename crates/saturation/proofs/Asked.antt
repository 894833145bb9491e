-- Members that are marked, by what was asked.
use Rattle.std.specs.Prelude.{ℕ, List, ◌++◌, ◌≡◌, Some, slice_get, Bool, true, refl}
use Rattle.std.proofs.Common.{subst, ◌∙◌}
use Rattle.clause_index.specs.declared.entry.Entry.{Entry}
use Rattle.saturation.specs.declared.offers.Offer.{Offer}
use Rattle.saturation.specs.code.Marked.{AllFalse, AreAsked, IsMarked}
use Rattle.saturation.proofs.Feeding.{asked_then}

-- by the literals, by the sides and by the terms below
pub marked_by : (whole other : Bool) (count : ℕ) (sign : Bool) (literals sides spots : List Offer) (literal_entries term_entries : List Entry) (start one two marks : List Bool) → other ≡ whole → AllFalse count start
    → AreAsked whole literal_entries sign literals start one → AreAsked other term_entries sign sides one two → AreAsked other term_entries sign spots two marks
    → IsMarked whole count sign literals (sides ++ spots) literal_entries term_entries marks
marked_by whole other count sign literals sides spots literal_entries term_entries start one two marks alike h asked by_sides by_spots =
    let terms : AreAsked other term_entries sign (sides ++ spots) one marks = asked_then other term_entries sign sides spots (sides ++ spots) one two marks refl by_sides by_spots in
    record {
      many = terms.many ∙ asked.many ∙ h.many;
      literals_out = λ w n e o there. asked.others w n (terms.unmarked n e) o there;
      terms_out = λ w n e o there. terms.others (alike ∙ w) n e o there;
      blind = λ b n e. h.each n (subst (λ (ms : List Bool). slice_get ms n ≡ Some true) (terms.blind (alike ∙ b) ∙ asked.blind b) e);
    }
