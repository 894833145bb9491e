-- Terms that are fed to the indexes, or for which these are asked, one by one.
use Rattle.std.specs.Prelude.{ℕ, ◌+◌, ◌<◌, Bool, true, false, List, [], ◌∷◌, ◌++◌, ◌≡◌, length, take, Option, Some, None, option_to_list, slice_get, refl}
use Rattle.std.specs.List.{Contains, flat_map}
use Rattle.std.proofs.Common.{ap, sym, subst, ◌∙◌, get_or, append_assoc, inl, inr}
use Rattle.std.proofs.lemmas.List.{take_more, append-nil, map-append}
use Rattle.std.proofs.lemmas.List.Elements.{Contains-append_cases, Contains-push_cases}
use Rattle.std.proofs.lemmas.Grind.{flat_map-append}
use Rattle.fof_terms.specs.declared.term.Term.{Term}
use Rattle.clause_form.specs.declared.clause.AtomOf.{AtomOf}
use Rattle.clause_form.specs.declared.clause.AtomOf.TheVariants.{Pred, Eq, True, False}
use Rattle.clause_form.specs.declared.clause.Lit.{Lit}
use Rattle.clause_rules.specs.Places.{lit_term_at}
use Rattle.clause_index.specs.declared.entry.Entry.{Entry}
use Rattle.clause_index.specs.Entries.{entry_of}
use Rattle.superpose.specs.declared.used.Side.{Side}
use Rattle.superpose.specs.declared.used.Spot.{Spot}
use Rattle.saturation.specs.declared.offers.Offer.{Offer}
use Rattle.saturation.specs.code.Entered.{entries_of}
use Rattle.saturation.specs.code.Marked.{AreAsked, IsAsked, IsRuledOut}
use Rattle.saturation.specs.code.Offers.{on_lit, offer_of, offer_of_side, side_at, spot_at}
use Rattle.saturation.proofs.Lists.{no_member}

-- what is offered of one more
pub offers_at : {X : Type 0} (f : X → Option Offer) (xs : List X) (i : ℕ) (d : X) → i < length xs
    → flat_map (λ y. option_to_list (f y)) (take (i + 1) xs) ≡ flat_map (λ y. option_to_list (f y)) (take i xs) ++ option_to_list (f (get_or xs i d))
offers_at {X} f xs i d within =
    let g : X → List Offer = λ y. option_to_list (f y) in
    ap (flat_map g) (take_more xs i d within) ∙ flat_map-append g (take i xs) (get_or xs i d ∷ []) ∙ ap (λ (os : List Offer). flat_map g (take i xs) ++ os) (append-nil (g (get_or xs i d)))

pub offers_more : {X : Type 0} (f : X → Option Offer) (xs : List X) (i : ℕ) (x : X) → i < length xs → x ≡ get_or xs i x
    → flat_map (λ y. option_to_list (f y)) (take (i + 1) xs) ≡ flat_map (λ y. option_to_list (f y)) (take i xs) ++ option_to_list (f x)
offers_more {X} f xs i x within is = offers_at f xs i x within ∙ ap (λ y. flat_map (λ z. option_to_list (f z)) (take i xs) ++ option_to_list (f y)) (sym is)

-- the entries of what is offered first and then
pub filed_then : (n : ℕ) (old mid new : List Entry) (before now after : List Offer) → after ≡ before ++ now → mid ≡ old ++ entries_of n before → new ≡ mid ++ entries_of n now → new ≡ old ++ entries_of n after
filed_then n old mid new before now after is first then =
    then
    ∙ ap (λ (es : List Entry). es ++ entries_of n now) first
    ∙ append_assoc old (entries_of n before) (entries_of n now)
    ∙ ap (λ (es : List Entry). old ++ es) (sym (map-append (λ (o : Offer). entry_of n o.positive o.term) before now) ∙ ap (entries_of n) (sym is))

pub filed_one : (n : ℕ) (o : Offer) (found : Option Offer) (old new : List Entry) → Some o ≡ found → new ≡ old ++ entry_of n o.positive o.term ∷ [] → new ≡ old ++ entries_of n (option_to_list found)
filed_one n o found old new is filed = subst (λ (p : Option Offer). new ≡ old ++ entries_of n (option_to_list p)) is filed

pub filed_none : (n : ℕ) (found : Option Offer) (entries : List Entry) → None ≡ found → entries ≡ entries ++ entries_of n (option_to_list found)
filed_none n found entries is = subst (λ (p : Option Offer). entries ≡ entries ++ entries_of n (option_to_list p)) is (sym (append-nil entries))

-- what was asked first and then
pub asked_then : (whole : Bool) (entries : List Entry) (sign : Bool) (before now after : List Offer) (old mid new : List Bool) → after ≡ before ++ now → AreAsked whole entries sign before old mid
    → AreAsked whole entries sign now mid new → AreAsked whole entries sign after old new
asked_then whole entries sign before now after old mid new is one two =
    let both : AreAsked whole entries sign (before ++ now) old new = record {
      many = two.many ∙ one.many;
      unmarked = λ n e. one.unmarked n (two.unmarked n e);
      others = λ w n e o there.
          elim (Contains-append_cases before now o there) [
            | inl a ↦ one.others w n (two.unmarked n e) o a
            | inr b ↦ two.others w n e o b
          ];
      blind = λ b. two.blind b ∙ one.blind b;
    } in
    subst (λ (os : List Offer). AreAsked whole entries sign os old new) (sym is) both

pub asked_none : (whole : Bool) (entries : List Entry) (sign : Bool) (marks : List Bool) → AreAsked whole entries sign [] marks marks
asked_none whole entries sign marks = record {
  many = refl;
  unmarked = λ n e. e;
  others = λ w n e o there. absurd (no_member o there);
  blind = λ b. refl;
}

only : (o p : Offer) → Contains (o ∷ []) p → o ≡ p
only o p there = elim (Contains-push_cases [] o p there) [ inl none ↦ absurd (no_member p none) | inr same ↦ same ]

pub asked_one : (whole : Bool) (entries : List Entry) (sign : Bool) (o : Offer) (found : Option Offer) (old new : List Bool) → Some o ≡ found → IsAsked whole entries sign o old new → AreAsked whole entries sign (option_to_list found) old new
asked_one whole entries sign o found old new is h =
    let here : AreAsked whole entries sign (o ∷ []) old new = record {
      many = h.many;
      unmarked = h.unmarked;
      others = λ w n e p there. subst (λ (q : Offer). IsRuledOut entries sign q n) (only o p there) (h.others w n e);
      blind = h.blind;
    } in
    subst (λ (q : Option Offer). AreAsked whole entries sign (option_to_list q) old new) is here

pub asked_nothing : (whole : Bool) (entries : List Entry) (sign : Bool) (found : Option Offer) (marks : List Bool) → None ≡ found → AreAsked whole entries sign (option_to_list found) marks marks
asked_nothing whole entries sign found marks is = subst (λ (q : Option Offer). AreAsked whole entries sign (option_to_list q) marks marks) is (asked_none whole entries sign marks)

-- what has another sign is not asked
asked_other : (whole : Bool) (entries : List Entry) (sign own : Bool) (found : Option Offer) (marks : List Bool) → ((o : Offer) → Contains (option_to_list found) o → o.positive ≡ own) → (own ≡ sign → ⊥)
    → AreAsked whole entries sign (option_to_list found) marks marks
asked_other whole entries sign own found marks its other = record {
  many = refl;
  unmarked = λ n e. e;
  others = λ w n e o there same. absurd (other (sym (its o there) ∙ same));
  blind = λ b. refl;
}

side_sign : (flipped : Bool) (a : AtomOf) (o : Offer) → Contains (option_to_list (offer_of_side flipped a)) o → o.positive ≡ true
side_sign false (Eq l r) o there = ap (λ (q : Offer). q.positive) (sym (only (record { positive = true; term = l }) o there))
side_sign true (Eq l r) o there = ap (λ (q : Offer). q.positive) (sym (only (record { positive = true; term = r }) o there))
side_sign false (Pred p ts) o there = absurd (no_member o there)
side_sign true (Pred p ts) o there = absurd (no_member o there)
side_sign false True o there = absurd (no_member o there)
side_sign true True o there = absurd (no_member o there)
side_sign false False o there = absurd (no_member o there)
side_sign true False o there = absurd (no_member o there)

on_lit_sign : (f : Lit → Option Offer) (own : Bool) → ((l : Lit) (o : Offer) → Contains (option_to_list (f l)) o → o.positive ≡ own) → (l : Option Lit) (o : Offer) → Contains (option_to_list (on_lit f l)) o → o.positive ≡ own
on_lit_sign f own its None o there = absurd (no_member o there)
on_lit_sign f own its (Some l) o there = its l o there

spot_sign : (t : Option Term) (o : Offer) → Contains (option_to_list (offer_of false t)) o → o.positive ≡ false
spot_sign None o there = absurd (no_member o there)
spot_sign (Some t) o there = ap (λ (q : Offer). q.positive) (sym (only (record { positive = false; term = t }) o there))

pub side_not_asked : (whole : Bool) (entries : List Entry) (sign : Bool) (lits : List Lit) (side : Side) (marks : List Bool) → sign ≡ false → AreAsked whole entries sign (option_to_list (side_at lits side)) marks marks
side_not_asked whole entries sign lits side marks is =
    asked_other whole entries sign true (side_at lits side) marks
    (on_lit_sign (λ l. offer_of_side side.flipped l.atom) true (λ l o there. side_sign side.flipped l.atom o there) (slice_get lits side.lit)) (λ same. let e : true ≡ false = same ∙ is in cc)

pub spot_not_asked : (whole : Bool) (entries : List Entry) (sign : Bool) (lits : List Lit) (spot : Spot) (marks : List Bool) → sign ≡ true → AreAsked whole entries sign (option_to_list (spot_at lits spot)) marks marks
spot_not_asked whole entries sign lits spot marks is =
    asked_other whole entries sign false (spot_at lits spot) marks
    (on_lit_sign (λ l. offer_of false (lit_term_at spot.place l)) false (λ l o there. spot_sign (lit_term_at spot.place l) o there) (slice_get lits spot.lit)) (λ same. let e : false ≡ true = same ∙ is in cc)

-- the same at lists that were lent
pub of_lent : {X : Type 0} (f : List Lit → List X → List Offer) (lits lent : List Lit) (xs given : List X) → lent ≡ lits → given ≡ xs → f lent given ≡ f lits xs
of_lent f lits lent xs given same also = ap (λ (ls : List Lit). f ls given) same ∙ ap (f lits) also
