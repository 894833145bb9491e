-- What a clause offers is complete, and the indexes have it once it was entered.
use Rattle.std.specs.Prelude.{ℕ, Bool, true, false, List, [], ◌∷◌, ◌++◌, ◌≡◌, length, slice_get, Option, Some, option_to_list, refl}
use Rattle.std.specs.List.{Contains, flat_map}
use Rattle.std.proofs.Common.{ap, sym, subst, ◌∙◌, arith, inl, inr, zero, suc}
use Rattle.std.proofs.lemmas.List.Elements.{Contains-append_left, Contains-append_right}
use Rattle.fof_terms.specs.declared.term.Term.{Term, App}
use Rattle.clause_form.specs.declared.clause.Lit.{Lit}
use Rattle.clause_form.specs.declared.clause.Clause.{Clause}
use Rattle.clause_rules.specs.Places.{lit_term_at}
use Rattle.clause_rules.specs.Steps.{equation}
use Rattle.clause_index.specs.declared.entry.Entry.{Entry}
use Rattle.clause_index.specs.Entries.{entry_of}
use Rattle.superpose.specs.declared.used.Used.{Used}
use Rattle.superpose.specs.Used.{AreUsed}
use Rattle.saturation.specs.declared.offers.Offer.{Offer}
use Rattle.saturation.specs.code.Offers.{on_lit, offer_of_atom, offer_of_side, offer_of, atom_at, side_at, spot_at, atom_offers, side_offers, spot_offers}
use Rattle.saturation.specs.code.Entered.{IsEntered, AreEntered, entries_of}
use Rattle.saturation.proofs.Passing.{AreOffered}
use Rattle.saturation.proofs.Lists.{no_member, got_pushed, to_mapped}

first_of : {X : Type 0} (x : X) → Contains (x ∷ []) x
first_of x = (0, omega arith, refl)

in_flat : {X Y : Type 0} (f : X → List Y) (xs : List X) (x : X) (y : Y) → Contains xs x → Contains (f x) y → Contains (flat_map f xs) y
in_flat f [] x y h g = absurd (no_member x h)
in_flat f (z ∷ xs) x y (zero, h, is) g = Contains-append_left (f z) (flat_map f xs) y (subst (λ w. Contains (f w) y) (sym is) g)
in_flat f (z ∷ xs) x y (suc k, h, is) g = Contains-append_right (f z) (flat_map f xs) y (in_flat f xs x y (k, omega arith, is) g)

in_option : (o : Option Offer) (x : Offer) → o ≡ Some x → Contains (option_to_list o) x
in_option o x e = subst (λ (p : Option Offer). Contains (option_to_list p) x) (sym e) (first_of x)

side_offered : (flipped : Bool) (l r : Term) → on_lit (λ k. offer_of_side flipped k.atom) (Some (equation flipped l r)) ≡ Some (record { positive = true; term = l })
side_offered false l r = refl
side_offered true l r = refl

-- each term that inferences use is offered
pub all_offered : (lits : List Lit) (used : Used) → AreUsed lits used → AreOffered lits (atom_offers lits used.lits) (side_offers lits used.sides ++ spot_offers lits used.spots)
all_offered lits used h = record {
  atoms = λ i sign p ts eligible at.
      let o : Offer = record { positive = sign; term = App p ts } in
      let found : atom_at lits i ≡ Some o = ap (on_lit (λ l. offer_of_atom l.positive l.atom)) at in
      in_flat (λ n. option_to_list (atom_at lits n)) used.lits i o (h.whole i eligible) (in_option (atom_at lits i) o found);
  sides = λ i flipped l r eligible at not_less.
      let o : Offer = record { positive = true; term = l } in
      let side = h.whole_sides i flipped eligible (record { l = l; r = r; here = at; not_less = not_less }) in
      let there : slice_get lits side.0.lit ≡ Some (equation flipped l r) = subst (λ n. slice_get lits n ≡ Some (equation flipped l r)) (sym side.2) at in
      let found : side_at lits side.0 ≡ Some o =
      ap (on_lit (λ k. offer_of_side side.0.flipped k.atom)) there
      ∙ subst (λ b. on_lit (λ k. offer_of_side b k.atom) (Some (equation flipped l r)) ≡ Some o) (sym side.3) (side_offered flipped l r) in
      Contains-append_left (side_offers lits used.sides) (spot_offers lits used.spots) o
      (in_flat (λ s. option_to_list (side_at lits s)) used.sides side.0 o side.1 (in_option (side_at lits side.0) o found));
  spots = λ i place k g args eligible at stands.
      let o : Offer = record { positive = false; term = App g args } in
      let spot = h.whole_spots i place eligible (record { target = k; g = g; args = args; here = at; stands = stands }) in
      let there : slice_get lits spot.0.lit ≡ Some k = subst (λ n. slice_get lits n ≡ Some k) (sym spot.2) at in
      let below : lit_term_at spot.0.place k ≡ Some (App g args) = subst (λ (q : List ℕ). lit_term_at q k ≡ Some (App g args)) (sym spot.3) stands in
      let found : spot_at lits spot.0 ≡ Some o = ap (on_lit (λ l. offer_of false (lit_term_at spot.0.place l))) there ∙ ap (offer_of false) below in
      Contains-append_right (side_offers lits used.sides) (spot_offers lits used.spots) o
      (in_flat (λ s. option_to_list (spot_at lits s)) used.spots spot.0 o spot.1 (in_option (spot_at lits spot.0) o found));
}

-- more entries
entered_still : (n : ℕ) (c : Clause) (literals terms more_literals more_terms : List Entry) → IsEntered n c literals terms → IsEntered n c (literals ++ more_literals) (terms ++ more_terms)
entered_still n c literals terms more_literals more_terms h = record {
  atoms = λ i sign p ts eligible at. Contains-append_left literals more_literals _ (h.atoms i sign p ts eligible at);
  sides = λ i flipped l r eligible at not_less. Contains-append_left terms more_terms _ (h.sides i flipped l r eligible at not_less);
  spots = λ i place k g args eligible at stands. Contains-append_left terms more_terms _ (h.spots i place k g args eligible at stands);
}

entered_now : (n : ℕ) (c : Clause) (literals terms : List Entry) (offers more : List Offer) → AreOffered c.lits offers more
    → IsEntered n c (literals ++ entries_of n offers) (terms ++ entries_of n more)
entered_now n c literals terms offers more h = record {
  atoms = λ i sign p ts eligible at. Contains-append_right literals _ _ (to_mapped (λ (o : Offer). entry_of n o.positive o.term) offers (record { positive = sign; term = App p ts }) (h.atoms i sign p ts eligible at));
  sides = λ i flipped l r eligible at not_less. Contains-append_right terms _ _ (to_mapped (λ (o : Offer). entry_of n o.positive o.term) more (record { positive = true; term = l }) (h.sides i flipped l r eligible at not_less));
  spots = λ i place k g args eligible at stands. Contains-append_right terms _ _ (to_mapped (λ (o : Offer). entry_of n o.positive o.term) more (record { positive = false; term = App g args }) (h.spots i place k g args eligible at stands));
}

-- one clause more was entered
pub entered_with : (list : List Clause) (c : Clause) (n : ℕ) (literals new_literals terms new_terms : List Entry) (offers more : List Offer) → length list ≡ n → AreOffered c.lits offers more
    → new_literals ≡ literals ++ entries_of n offers → new_terms ≡ terms ++ entries_of n more → AreEntered list literals terms → AreEntered (list ++ c ∷ []) new_literals new_terms
entered_with list c n literals new_literals terms new_terms offers more many offered is are h =
    let after : AreEntered (list ++ c ∷ []) (literals ++ entries_of n offers) (terms ++ entries_of n more) = record {
      each = λ i d e.
          elim (got_pushed list c i d e) [
            | inl k ↦ entered_still i d literals terms (entries_of n offers) (entries_of n more) (h.each i d k.1)
            | inr k ↦
                subst (λ j. IsEntered j d (literals ++ entries_of n offers) (terms ++ entries_of n more)) (sym (k.0 ∙ many))
                (subst (λ (x : Clause). IsEntered n x (literals ++ entries_of n offers) (terms ++ entries_of n more)) (sym k.1) (entered_now n c literals terms offers more offered))
          ];
    } in
    subst (λ (xs : List Entry). AreEntered (list ++ c ∷ []) xs new_terms) (sym is) (subst (λ (xs : List Entry). AreEntered (list ++ c ∷ []) (literals ++ entries_of n offers) xs) (sym are) after)
