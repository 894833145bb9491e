-- Lemmas on places for literals.
use Rattle.std.proofs.Common.{ℕ, ◌≡◌, ◌+◌, ◌<◌, ◌≤◌, List, [], ◌∷◌, length, get_or, Some, refl, sym, ap, subst, ◌∙◌, zero, suc, inl, inr, arith, Bool, true, false}
use Rattle.std.specs.Prelude.{slice_get, nat_lt, if◌then◌else◌, Option, None}
use Rattle.std.proofs.Math.ListN.{set}
use Rattle.std.proofs.lemmas.Bool.{lt-ltb, le-ltb}
use Rattle.std.proofs.lemmas.Option.{slice_get_within, slice_get-get_or, get_or_from_slice_get}
use Rattle.fof_terms.specs.declared.term.Term.{Term}
use Rattle.fof_terms.specs.Vocabulary.{Vocabulary}
use Rattle.fof_terms.proofs.LiftingLaws.{below_or_above}
use Rattle.clause_form.specs.declared.clause.AtomOf.{AtomOf}
use Rattle.clause_form.specs.declared.clause.AtomOf.TheVariants.{Pred, Eq, True, False}
use Rattle.clause_form.specs.declared.clause.Lit.{Lit}
use Rattle.clause_form.specs.Images.{image}
use Rattle.clause_form.specs.Covers.{lit_image, turned, turned_atom, at_terms, scope_of, is_sorted_atom, AreSorted, IsSame}
use Rattle.subsumption.specs.Subsumes.{StandsAt}
use Rattle.subsumption.specs.declared.bindings.Bindings.{Bindings}
use Rattle.subsumption.specs.declared.task.Task.{Task}
use Rattle.subsumption.specs.code.Bound.{images_of, trail_of, cleared, Agrees, AreOfSorts, IsOver, IsBack, IsUndone}
use Rattle.subsumption.specs.code.Matched.{Becomes, IsInto, IsTable, IsTried}
use Rattle.subsumption.specs.code.Placed.{ArePlaced, Places, HasPlaces, HasNone, IsPlaced, IsTrial, Anywhere, IsThere, IsAt}
use Rattle.subsumption.proofs.BoundFacts.{undone_back}

-- taken places
pub set_free : (xs : List Bool) (i : ℕ) (x y : Bool) → slice_get xs i ≡ Some y → set (set xs i x) i y ≡ xs
set_free [] i x y e = cc
set_free (z ∷ xs) zero x y e = let same : z ≡ y = cc in ap (λ b. b ∷ xs) (sym same)
set_free (z ∷ xs) (suc i) x y e = ap (λ ys. z ∷ ys) (set_free xs i x y e)

free_elsewhere : (xs : List Bool) (i j : ℕ) → slice_get (set xs i true) j ≡ Some false → (j ≡ i → ⊥) × (slice_get xs j ≡ Some false)
free_elsewhere [] i j e = cc
free_elsewhere (x ∷ xs) zero zero e = cc
free_elsewhere (x ∷ xs) zero (suc j) e = (λ is. cc, e)
free_elsewhere (x ∷ xs) (suc i) zero e = (λ is. cc, e)
free_elsewhere (x ∷ xs) (suc i) (suc j) e = let rest = free_elsewhere xs i j e in (λ is. rest.0 (omega arith), rest.1)

pub still_free : (xs : List Bool) (i j : ℕ) → (j ≡ i → ⊥) → slice_get xs j ≡ Some false → slice_get (set xs i true) j ≡ Some false
still_free [] i j ne e = e
still_free (x ∷ xs) zero zero ne e = absurd (ne refl)
still_free (x ∷ xs) zero (suc j) ne e = e
still_free (x ∷ xs) (suc i) zero ne e = e
still_free (x ∷ xs) (suc i) (suc j) ne e = still_free xs i j (λ is. ne (ap suc is)) e

-- the first literal has this place, and the others have theirs
abbrev pub with_first : (ℕ → ℕ) → ℕ → ℕ → ℕ → ℕ
with_first at from place i = if nat_lt from i then at i else place

first_at : (at : ℕ → ℕ) (from place i : ℕ) → i ≤ from → with_first at from place i ≡ place
first_at at from place i h = rw (le-ltb from i h) refl

others_at : (at : ℕ → ℕ) (from place i : ℕ) → from < i → with_first at from place i ≡ at i
others_at at from place i h = rw (lt-ltb from i h) refl

module _ (lits targets : List Lit) (taken : List Bool) (from place : ℕ) (s : ℕ → Term) (at : ℕ → ℕ) where
  rest_placed : from < length lits → ArePlaced lits targets taken from s at → at from ≡ place → ArePlaced lits targets (set taken place true) (from + 1) s at
  rest_placed within h is = record {
    stands = λ i k le e. h.stands i k (omega arith) e;
    free = λ i le lt. still_free taken place (at i) (λ same. let one = h.apart i from (omega arith) lt (omega arith) within (same ∙ sym is) in absurd (omega arith)) (h.free i (omega arith) lt);
    apart = λ i j le lt le' lt' same. h.apart i j (omega arith) lt (omega arith) lt' same;
  }

  placed_first : (k : Lit) → slice_get lits from ≡ Some k → StandsAt targets place (lit_image s k) → slice_get taken place ≡ Some false
      → ArePlaced lits targets (set taken place true) (from + 1) s at → ArePlaced lits targets taken from s (with_first at from place)
  placed_first k here stand free h = record {
    stands = λ i x le e. elim (below_or_above from i) [
      | inl lt ↦ subst (λ p. StandsAt targets p (lit_image s x)) (sym (others_at at from place i lt)) (h.stands i x (omega arith) e)
      | inr ge ↦
          let is : i ≡ from = omega arith in
          let there : slice_get lits from ≡ Some x = subst (λ n. slice_get lits n ≡ Some x) is e in
          let same : k ≡ x = cc in
          subst (λ p. StandsAt targets p (lit_image s x)) (sym (first_at at from place i ge)) (subst (λ y. StandsAt targets place (lit_image s y)) same stand)
    ];
    free = λ i le lt. elim (below_or_above from i) [
      | inl after ↦ subst (λ p. slice_get taken p ≡ Some false) (sym (others_at at from place i after)) (free_elsewhere taken place (at i) (h.free i (omega arith) lt)).1
      | inr ge ↦ subst (λ p. slice_get taken p ≡ Some false) (sym (first_at at from place i ge)) free
    ];
    apart = λ i j le lt le' lt' same. elim (below_or_above from i) [
      | inl after ↦
          elim (below_or_above from j) [
            | inl later ↦ h.apart i j (omega arith) lt (omega arith) lt' (sym (others_at at from place i after) ∙ same ∙ others_at at from place j later)
            | inr ge ↦ absurd ((free_elsewhere taken place (at i) (h.free i (omega arith) lt)).0 (sym (others_at at from place i after) ∙ same ∙ first_at at from place j ge))
          ]
      | inr ge ↦
          elim (below_or_above from j) [
            | inl later ↦ absurd ((free_elsewhere taken place (at j) (h.free j (omega arith) lt')).0 (sym (others_at at from place j later) ∙ sym same ∙ first_at at from place i ge))
            | inr ge' ↦ omega arith
          ]
    ];
  }

pub becomes_same : (exchanged : Bool) (s : ℕ → Term) (k l : Lit) → Becomes exchanged k l s → IsSame (lit_image s k) l
becomes_same true s k l h = inr h
becomes_same false s k l h = inl h

-- what is bound, as it stands after a way back
pub agrees_back : (old new : Bindings) → IsBack old new → (s : ℕ → Term) → Agrees s (images_of old) → Agrees s (images_of new)
agrees_back old new back s g = subst (Agrees s) (sym back.images) g

pub table_back : (task : Task) (old new : Bindings) → IsBack old new → IsTable task old → IsTable task new
table_back task old new back h = record {
  size = ap length back.images ∙ h.size;
  sorted = subst (λ xs. AreOfSorts task.signature.now (scope_of task.member.now) (scope_of task.clause.now) xs) (sym back.images) h.sorted;
}

back_itself : (b : Bindings) → IsBack b b
back_itself b = record { images = refl; trail = refl }

pub back_then : (a b c : Bindings) → IsBack a b → IsBack b c → IsBack a c
back_then a b c h g = record { images = g.images ∙ h.images; trail = g.trail ∙ h.trail }

pub over_back : (a b c : Bindings) → IsOver a b → IsBack b c → IsOver a c
over_back a b c h g = record {
  added = h.added;
  trail = g.trail ∙ h.trail;
  images = ap (cleared h.added) g.images ∙ h.images;
  size = ap length g.images ∙ h.size;
}

-- a literal at its place fits the scope
pub sorted_at : (v : Vocabulary) (scope : List ℕ) (lits : List Lit) (i : ℕ) (k : Lit) → AreSorted v scope lits → slice_get lits i ≡ Some k → is_sorted_atom v scope k.atom ≡ true
sorted_at v scope lits i k h e = subst (λ (l : Lit). is_sorted_atom v scope l.atom ≡ true) (get_or_from_slice_get lits i k k e) (h.fits i k (slice_get_within lits i k e))

module _ (task : Task) (old : Bindings) (taken : List Bool) (from : ℕ) where
  -- no literal is left
  pub none_left : length task.member.now.lits ≤ from → IsTable task old → HasPlaces task old old taken from
  none_left past table = record {
    table = table;
    at = λ i. i;
    places = λ s g. (
      g,
      record {
        stands = λ i k le e. absurd (let within = slice_get_within task.member.now.lits i k e in omega arith);
        free = λ i le lt. absurd (omega arith);
        apart = λ i j le lt le' lt' same. absurd (omega arith);
      },
    );
  }

  -- a place that is taken
  pub none_at_taken : (place : ℕ) → from < length task.member.now.lits → slice_get taken place ≡ Some true → HasNone task old old taken taken from (IsThere from place)
  none_at_taken place within full = record {
    back = back_itself old;
    left_free = refl;
    none = λ more s at into g p is.
        let free : slice_get taken place ≡ Some false = subst (λ n. slice_get taken n ≡ Some false) is (p.free from (omega arith) within) in
        cc;
  }

  module _ (place : ℕ) (k l : Lit) (here : slice_get task.member.now.lits from ≡ Some k) (there : slice_get task.clause.now.lits place ≡ Some l) (exchanged : Bool) where
    -- the first literal became the one at the place
    pub first_placed : (mid new : Bindings) → slice_get taken place ≡ Some false → (b : Bool) → b ≡ true → IsTried task old mid (Becomes exchanged k l) b
        → HasPlaces task mid new (set taken place true) (from + 1) → HasPlaces task old new taken from
    first_placed mid new free b is tried rest =
        let became = subst (IsTried task old mid (Becomes exchanged k l)) is tried in record {
          table = rest.table;
          at = with_first rest.at from place;
          places = λ s g.
              let r = rest.places s g in
              let f = became.1.forth s r.0 in
              (f.0, placed_first task.member.now.lits task.clause.now.lits taken from place s rest.at k here (l, there, becomes_same exchanged s k l f.1) free r.1);
        }

    -- it did not
    pub none_before : (mid new : Bindings) (count : ℕ) → (b : Bool) → b ≡ false → count ≡ length (trail_of old) → IsOver old mid → IsTried task old mid (Becomes exchanged k l) b → IsUndone mid new count
        → HasNone task old new taken taken from (IsAt task from place exchanged)
    none_before mid new count b is counted over tried undone =
        let never = subst (IsTried task old mid (Becomes exchanged k l)) is tried in record {
          back = undone_back old mid new count counted over undone;
          left_free = refl;
          none = λ more s at into g p h. never more s into g (h.1 k l here there);
        }

    -- it did, and the others have no places
    pub none_after : (mid late new : Bindings) (left : List Bool) (count : ℕ) → (b : Bool) → b ≡ true → count ≡ length (trail_of old) → slice_get taken place ≡ Some false → IsOver old mid → IsTried task old mid (Becomes exchanged k l) b
        → HasNone task mid late (set taken place true) left (from + 1) Anywhere → IsUndone late new count → HasNone task old new taken (set left place false) from (IsAt task from place exchanged)
    none_after mid late new left count b is counted free over tried rest undone =
        let became = subst (IsTried task old mid (Becomes exchanged k l)) is tried in record {
          back = undone_back old late new count counted (over_back old mid late over rest.back) undone;
          left_free = ap (λ xs. set xs place false) rest.left_free ∙ set_free taken place true false free;
          none = λ more s at into g p h.
              rest.none more s at into (became.1.back s g (h.1 k l here there)) (rest_placed task.member.now.lits task.clause.now.lits taken from place s at (slice_get_within task.member.now.lits from k here) p h.0) tt;
        }

-- the first literal stands at the place in neither way
at_way : (task : Task) (from place : ℕ) (exchanged : Bool) (s : ℕ → Term) (at : ℕ → ℕ) (k l : Lit) → slice_get task.member.now.lits from ≡ Some k → slice_get task.clause.now.lits place ≡ Some l → at from ≡ place → Becomes exchanged k l s
    → IsAt task from place exchanged s at
at_way task from place exchanged s at k l here there is h = (
  is,
  λ x y e f.
      let one : k ≡ x = cc in
      let two : l ≡ y = cc in
      subst (λ z. Becomes exchanged x z s) two (subst (λ z. Becomes exchanged z l s) one h),
)

module _ (task : Task) (old mid new : Bindings) (taken left last : List Bool) (from place : ℕ) (k : Lit) (here : slice_get task.member.now.lits from ≡ Some k) (first : HasNone task old mid taken left from (IsAt task from place false)) where
  pub in_neither_way : HasNone task mid new left last from (IsAt task from place true) → HasNone task old new taken last from (IsThere from place)
  in_neither_way second = record {
    back = back_then old mid new first.back second.back;
    left_free = second.left_free ∙ first.left_free;
    none = λ more s at into g p is.
        let stands = p.stands from k (omega arith) here in
        let there : slice_get task.clause.now.lits place ≡ Some stands.0 = subst (λ n. slice_get task.clause.now.lits n ≡ Some stands.0) is stands.1 in
        elim stands.2 [
          | inl e ↦ first.none more s at into g p (at_way task from place false s at k stands.0 here there is e)
          | inr e ↦
              second.none more s at into (agrees_back old mid first.back s g) (subst (λ xs. Places task xs from s at) (sym first.left_free) p)
              (at_way task from place true s at k stands.0 here there is e)
        ];
  }

turned_same : (f : Term → Term) (a : AtomOf) → ((x y : Term) → a ≡ Eq x y → ⊥) → turned_atom (at_terms f a) ≡ at_terms f a
turned_same f (Pred p ts) other = refl
turned_same f (Eq x y) other = absurd (other x y refl)
turned_same f True other = refl
turned_same f False other = refl

pub in_one_way : (task : Task) (old mid : Bindings) (taken left : List Bool) (from place : ℕ) (k : Lit) → slice_get task.member.now.lits from ≡ Some k → ((x y : Term) → k.atom ≡ Eq x y → ⊥)
    → HasNone task old mid taken left from (IsAt task from place false) → HasNone task old mid taken left from (IsThere from place)
in_one_way task old mid taken left from place k here other first = record {
  back = first.back;
  left_free = first.left_free;
  none = λ more s at into g p is.
      let stands = p.stands from k (omega arith) here in
      let there : slice_get task.clause.now.lits place ≡ Some stands.0 = subst (λ n. slice_get task.clause.now.lits n ≡ Some stands.0) is stands.1 in
      elim stands.2 [
        | inl e ↦ first.none more s at into g p (at_way task from place false s at k stands.0 here there is e)
        | inr e ↦
            let same : lit_image s k ≡ turned (lit_image s k) = ap (λ (a : AtomOf). record { positive = k.positive; atom = a }) (sym (turned_same (image s) k.atom other)) in
            first.none more s at into g p (at_way task from place false s at k stands.0 here there is (same ∙ e))
      ];
}

-- the places below this one will not do
pub record IsSearching (task : Task) (old new : Bindings) (taken left : List Bool) (from i : ℕ) : Type 0 where
  pub back : IsBack old new
  pub left_free : left ≡ taken
  pub none : (more : List ℕ) (s : ℕ → Term) (at : ℕ → ℕ) → IsInto task more s → Agrees s (images_of old) → Places task taken from s at → at from < i → ⊥

pub search_begins : (task : Task) (old : Bindings) (taken : List Bool) (from : ℕ) → IsSearching task old old taken taken from 0
search_begins task old taken from = record { back = back_itself old; left_free = refl; none = λ more s at into g p lt. absurd (omega arith) }

module _ (task : Task) (old mid new : Bindings) (taken left last : List Bool) (from i : ℕ) (h : IsSearching task old mid taken left from i) where
  pub search_goes_on : HasNone task mid new left last from (IsThere from i) → IsSearching task old new taken last from (i + 1)
  search_goes_on here = record {
    back = back_then old mid new h.back here.back;
    left_free = here.left_free ∙ h.left_free;
    none = λ more s at into g p lt. elim (below_or_above (at from) i) [
      | inl below ↦ h.none more s at into g p below
      | inr above ↦ here.none more s at into (agrees_back old mid h.back s g) (subst (λ xs. Places task xs from s at) (sym h.left_free) p) (omega arith)
    ];
  }

  pub search_ends : HasPlaces task mid new left from → HasPlaces task old new taken from
  search_ends found = record {
    table = found.table;
    at = found.at;
    places = λ s g.
        let r = found.places s g in
        (subst (Agrees s) h.back.images r.0, subst (λ xs. Places task xs from s found.at) h.left_free r.1);
  }

pub search_fails : (task : Task) (old new : Bindings) (taken left : List Bool) (from i : ℕ) → from < length task.member.now.lits → length taken ≤ i → IsSearching task old new taken left from i → HasNone task old new taken left from Anywhere
search_fails task old new taken left from i within end h = record {
  back = h.back;
  left_free = h.left_free;
  none = λ more s at into g p any. h.none more s at into g p (let lt = slice_get_within taken (at from) false (p.free from (omega arith) within) in omega arith);
}

-- as an answer says
pub placed_true : (task : Task) (old new : Bindings) (taken left : List Bool) (from : ℕ) (P : (ℕ → Term) → (ℕ → ℕ) → Type 0) (b : Bool) → b ≡ true → IsPlaced task old new taken left from P b → HasPlaces task old new taken from
placed_true task old new taken left from P b is h = subst (IsPlaced task old new taken left from P) is h

pub placed_false : (task : Task) (old new : Bindings) (taken left : List Bool) (from : ℕ) (P : (ℕ → Term) → (ℕ → ℕ) → Type 0) (b : Bool) → b ≡ false → IsPlaced task old new taken left from P b → HasNone task old new taken left from P
placed_false task old new taken left from P b is h = subst (IsPlaced task old new taken left from P) is h

pub places_back : (task : Task) (old mid new : Bindings) (taken left : List Bool) (from : ℕ) → IsBack old mid → left ≡ taken → HasPlaces task mid new left from → HasPlaces task old new taken from
places_back task old mid new taken left from back same found = record {
  table = found.table;
  at = found.at;
  places = λ s g. let r = found.places s g in (subst (Agrees s) back.images r.0, subst (λ xs. Places task xs from s found.at) same r.1);
}

pub none_back : (task : Task) (old mid new : Bindings) (taken left last : List Bool) (from : ℕ) → IsBack old mid → left ≡ taken → HasNone task mid new left last from Anywhere → HasNone task old new taken last from Anywhere
none_back task old mid new taken left last from back same h = record {
  back = back_then old mid new back h.back;
  left_free = h.left_free ∙ same;
  none = λ more s at into g p any. h.none more s at into (agrees_back old mid back s g) (subst (λ xs. Places task xs from s at) (sym same) p) any;
}

pub second_way : (task : Task) (old mid new : Bindings) (taken left last : List Bool) (from place : ℕ) (k : Lit) → slice_get task.member.now.lits from ≡ Some k
    → HasNone task old mid taken left from (IsAt task from place false) → (o : Option Bool) → IsTrial task mid new left last from (IsAt task from place true) o → IsTrial task old new taken last from (IsThere from place) o
second_way task old mid new taken left last from place k here first (Some true) found = places_back task old mid new taken left from first.back first.left_free found
second_way task old mid new taken left last from place k here first (Some false) none = none_back task old mid new taken left last from first.back first.left_free none
second_way task old mid new taken left last from place k here first None second = in_neither_way task old mid new taken left last from place k here first second

pub trial_none : (task : Task) (old new : Bindings) (taken left : List Bool) (from : ℕ) (P : (ℕ → Term) → (ℕ → ℕ) → Type 0) (o : Option Bool) → o ≡ None → IsTrial task old new taken left from P o → HasNone task old new taken left from P
trial_none task old new taken left from P o is h = subst (IsTrial task old new taken left from P) is h

pub trial_some : (task : Task) (old new : Bindings) (taken left : List Bool) (from : ℕ) (P : (ℕ → Term) → (ℕ → ℕ) → Type 0) (o : Option Bool) (b : Bool) → o ≡ Some b → IsTrial task old new taken left from P o → IsPlaced task old new taken left from Anywhere b
trial_some task old new taken left from P o b is h = subst (IsTrial task old new taken left from P) is h

-- a try that decides ends the search
pub search_decides : (task : Task) (old mid new : Bindings) (taken left last : List Bool) (from i : ℕ) → IsSearching task old mid taken left from i → (b : Bool) → IsPlaced task mid new left last from Anywhere b → IsPlaced task old new taken last from Anywhere b
search_decides task old mid new taken left last from i h true found = places_back task old mid new taken left from h.back h.left_free found
search_decides task old mid new taken left last from i h false none = none_back task old mid new taken left last from h.back h.left_free none

-- an element that was read from a lent list
pub lent_at : {X : Type 0} (lent xs : List X) (i : ℕ) (x : X) → lent ≡ xs → i < length xs → x ≡ get_or lent i x → slice_get xs i ≡ Some x
lent_at lent xs i x same within is = slice_get-get_or xs i x within ∙ ap Some (ap (λ ys. get_or ys i x) (sym same) ∙ sym is)

pub read_free : (xs : List Bool) (i : ℕ) (b d : Bool) → i < length xs → get_or xs i d ≡ b → slice_get xs i ≡ Some b
read_free xs i b d within is = slice_get-get_or xs i d within ∙ ap Some is
