-- Places that change hands: where a literal stands at a place under each substitution that agrees, it may have that place.
use Rattle.std.proofs.Common.{ℕ, ◌≡◌, ◌+◌, ◌<◌, ◌≤◌, List, [], ◌∷◌, length, Some, refl, sym, ap, subst, ◌∙◌, inl, inr, arith, Bool, true, false}
use Rattle.std.specs.Prelude.{slice_get, nat_lt, if◌then◌else◌, ◌⊎◌}
use Rattle.std.proofs.Math.ListN.{set}
use Rattle.std.proofs.lemmas.Bool.{lt-ltb, le-ltb}
use Rattle.std.proofs.lemmas.List.{length-append}
use Rattle.std.proofs.lemmas.Option.{slice_get_within}
use Rattle.fof_terms.specs.declared.term.Term.{Term}
use Rattle.fof_terms.proofs.LiftingLaws.{below_or_above}
use Rattle.clause_form.specs.declared.clause.AtomOf.{AtomOf}
use Rattle.clause_form.specs.declared.clause.AtomOf.TheVariants.{Pred, Eq, True, False}
use Rattle.clause_form.specs.declared.clause.Lit.{Lit}
use Rattle.clause_form.specs.Covers.{lit_image, turned, turned_atom, IsSame}
use Rattle.subsumption.specs.Subsumes.{StandsAt}
use Rattle.subsumption.specs.declared.bindings.Bindings.{Bindings}
use Rattle.subsumption.specs.declared.task.Task.{Task}
use Rattle.subsumption.specs.code.Bound.{images_of, trail_of, cleared, Agrees, IsOver, IsUndone}
use Rattle.subsumption.specs.code.Matched.{Becomes, IsTried}
use Rattle.subsumption.specs.code.Placed.{ArePlaced, HasNone, Anywhere}
use Rattle.subsumption.proofs.BoundFacts.{undone_back}
use Rattle.subsumption.proofs.PlacedFacts.{still_free, set_free, over_back, becomes_same}

turned_atom_twice : (a : AtomOf) → turned_atom (turned_atom a) ≡ a
turned_atom_twice (Pred p ts) = refl
turned_atom_twice (Eq s t) = refl
turned_atom_twice True = refl
turned_atom_twice False = refl

turned_twice : (k : Lit) → turned (turned k) ≡ k
turned_twice k = ap (λ (a : AtomOf). record { positive = k.positive; atom = a }) (turned_atom_twice k.atom)

-- what is the same as a literal is the same as what another one of these is
same_through : (a b l m : Lit) → IsSame a l → IsSame b l → IsSame b m → IsSame a m
same_through a b l m (inl e) (inl f) (inl g) = inl (e ∙ sym f ∙ g)
same_through a b l m (inl e) (inl f) (inr g) = inr (ap turned (e ∙ sym f) ∙ g)
same_through a b l m (inl e) (inr f) (inl g) = inr (ap turned (e ∙ sym f) ∙ turned_twice b ∙ g)
same_through a b l m (inl e) (inr f) (inr g) = inl (e ∙ sym f ∙ g)
same_through a b l m (inr e) (inl f) (inl g) = inr (e ∙ sym f ∙ g)
same_through a b l m (inr e) (inl f) (inr g) = inl (sym (turned_twice a) ∙ ap turned (e ∙ sym f) ∙ g)
same_through a b l m (inr e) (inr f) (inl g) = inl (sym (turned_twice a) ∙ ap turned (e ∙ sym f) ∙ turned_twice b ∙ g)
same_through a b l m (inr e) (inr f) (inr g) = inr (e ∙ sym f ∙ g)

same_or_not : (a b : ℕ) → (a ≡ b) ⊎ (a ≡ b → ⊥)
same_or_not a b = elim (below_or_above a b) [
  | inl lt ↦ inr (λ e. omega arith)
  | inr ge ↦ elim (below_or_above b a) [ inl lt ↦ inr (λ e. omega arith) | inr le ↦ inl (omega arith) ]
]

-- the literal that stood at the place goes where literal `from` stood
abbrev pub moved : (ℕ → ℕ) → ℕ → ℕ → ℕ → ℕ
moved at from place i = if nat_lt (at i) place then at i else if nat_lt place (at i) then at i else at from

moved_there : (at : ℕ → ℕ) (from place i : ℕ) → at i ≡ place → moved at from place i ≡ at from
moved_there at from place i e =
    let low : place ≤ at i = omega arith in
    let high : at i ≤ place = omega arith in
    rw (le-ltb (at i) place low) (rw (le-ltb place (at i) high) refl)

moved_not : (at : ℕ → ℕ) (from place i : ℕ) → (at i ≡ place → ⊥) → moved at from place i ≡ at i
moved_not at from place i never = elim (below_or_above (at i) place) [
  | inl lt ↦ rw (lt-ltb (at i) place lt) refl
  | inr ge ↦
      elim (below_or_above place (at i)) [
        | inl lt ↦ rw (le-ltb (at i) place ge) (rw (lt-ltb place (at i) lt) refl)
        | inr le ↦ let same : at i ≡ place = omega arith in absurd (never same)
      ]
]

module _ (lits targets : List Lit) (taken : List Bool) (from place : ℕ) (s : ℕ → Term) (at : ℕ → ℕ) (k l : Lit) (within : from < length lits) (here : slice_get lits from ≡ Some k) (there : slice_get targets place ≡ Some l)
    (fixed : IsSame (lit_image s k) l) (h : ArePlaced lits targets taken from s at) where
  abbrev go : ℕ → ℕ
  go = moved at from place

  not_first : (i : ℕ) → from + 1 ≤ i → i < length lits → at i ≡ place → at from ≡ place → ⊥
  not_first i le lt e f = let same : i ≡ from = h.apart i from (omega arith) lt (omega arith) within (e ∙ sym f) in absurd (omega arith)

  stands_moved : (i : ℕ) (x : Lit) → from + 1 ≤ i → slice_get lits i ≡ Some x → StandsAt targets (go i) (lit_image s x)
  stands_moved i x le e =
      let stands = h.stands i x (omega arith) e in
      elim (same_or_not (at i) place) [
        | inl is ↦
            let first = h.stands from k (omega arith) here in
            let at_place : slice_get targets place ≡ Some stands.0 = subst (λ n. slice_get targets n ≡ Some stands.0) is stands.1 in
            let one : stands.0 ≡ l = cc in
            let same : IsSame (lit_image s x) first.0 = same_through (lit_image s x) (lit_image s k) l first.0 (subst (IsSame (lit_image s x)) one stands.2) fixed first.2 in
            subst (λ p. StandsAt targets p (lit_image s x)) (sym (moved_there at from place i is)) (first.0, first.1, same)
        | inr never ↦ subst (λ p. StandsAt targets p (lit_image s x)) (sym (moved_not at from place i never)) stands
      ]

  free_moved : (i : ℕ) → from + 1 ≤ i → i < length lits → slice_get (set taken place true) (go i) ≡ Some false
  free_moved i le lt = elim (same_or_not (at i) place) [
    | inl is ↦
        subst (λ p. slice_get (set taken place true) p ≡ Some false) (sym (moved_there at from place i is))
        (still_free taken place (at from) (not_first i le lt is) (h.free from (omega arith) within))
    | inr never ↦
        subst (λ p. slice_get (set taken place true) p ≡ Some false) (sym (moved_not at from place i never))
        (still_free taken place (at i) never (h.free i (omega arith) lt))
  ]

  apart_moved : (i j : ℕ) → from + 1 ≤ i → i < length lits → from + 1 ≤ j → j < length lits → go i ≡ go j → i ≡ j
  apart_moved i j le lt le' lt' same = elim (same_or_not (at i) place) [
    | inl is ↦
        elim (same_or_not (at j) place) [
          | inl also ↦ h.apart i j (omega arith) lt (omega arith) lt' (is ∙ sym also)
          | inr never ↦
              let one : at from ≡ at j = sym (moved_there at from place i is) ∙ same ∙ moved_not at from place j never in
              let first : from ≡ j = h.apart from j (omega arith) within (omega arith) lt' one in
              absurd (omega arith)
        ]
    | inr never ↦
        elim (same_or_not (at j) place) [
          | inl also ↦
              let one : at i ≡ at from = sym (moved_not at from place i never) ∙ same ∙ moved_there at from place j also in
              let first : i ≡ from = h.apart i from (omega arith) lt (omega arith) within one in
              absurd (omega arith)
          | inr other ↦ h.apart i j (omega arith) lt (omega arith) lt' (sym (moved_not at from place i never) ∙ same ∙ moved_not at from place j other)
        ]
  ]

  pub placed_moved : ArePlaced lits targets (set taken place true) (from + 1) s go
  placed_moved = record { stands = stands_moved; free = free_moved; apart = apart_moved }

nil_of_length : {X : Type 0} (xs : List X) → length xs ≡ 0 → xs ≡ []
nil_of_length [] e = refl
nil_of_length (x ∷ xs) e = absurd (omega arith)

-- nothing was bound
pub nothing_added : (old new : Bindings) (count : ℕ) → count ≡ length (trail_of old) → length (trail_of new) ≡ count → IsOver old new → images_of new ≡ images_of old
nothing_added old new count counted same over =
    let long : length (trail_of new) ≡ length (trail_of old) + length over.added = ap length over.trail ∙ length-append (trail_of old) over.added in
    let none : over.added ≡ [] = nil_of_length over.added (omega arith) in
    subst (λ ks. cleared ks (images_of new) ≡ images_of old) none over.images

-- the first literal stood there as it was, and the others have no places
module _ (task : Task) (old : Bindings) (taken : List Bool) (from place : ℕ) (k l : Lit) (here : slice_get task.member.now.lits from ≡ Some k) (there : slice_get task.clause.now.lits place ≡ Some l) (exchanged : Bool) where
  pub never_after : (mid late new : Bindings) (left : List Bool) (count bound : ℕ) → (b : Bool) → b ≡ true → count ≡ length (trail_of old) → bound ≡ length (trail_of mid) → bound ≡ count → slice_get taken place ≡ Some false → IsOver old mid → IsTried task old mid (Becomes exchanged k l) b
      → HasNone task mid late (set taken place true) left (from + 1) Anywhere → IsUndone late new count → HasNone task old new taken (set left place false) from Anywhere
  never_after mid late new left count bound b is counted now same free over tried rest undone =
      let became = subst (IsTried task old mid (Becomes exchanged k l)) is tried in
      let images = nothing_added old mid count counted (sym now ∙ same) over in
      record {
        back = undone_back old late new count counted (over_back old mid late over rest.back) undone;
        left_free = ap (λ xs. set xs place false) rest.left_free ∙ set_free taken place true false free;
        none = λ more s at into g p any.
            let g' : Agrees s (images_of mid) = subst (Agrees s) (sym images) g in
            let fixed = becomes_same exchanged s k l (became.1.forth s g').1 in
            rest.none more s (moved at from place) into g'
            (placed_moved task.member.now.lits task.clause.now.lits taken from place s at k l (slice_get_within task.member.now.lits from k here) here there fixed p) tt;
      }
