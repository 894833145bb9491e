-- What is held where a walk has stopped, resolved with reasons of literals that are false.
use Rattle.std.proofs.Common.{◌≡◌, ◌≢◌, ℕ, zero, suc, ◌+◌, ◌<◌, not, Bool, true, false, List, [], ◌∷◌, ◌++◌, length, reverse, set, take, get_or, Option, Some, None, slice_get, Contains, refl, sym, ap, ◌∙◌, subst, inl, inr, arith, append_assoc}
use Rattle.std.proofs.lemmas.Bool.{cases_eq, false≢true}
use Rattle.std.proofs.lemmas.List.{get_or-set_same, get_or-set_other, length-reverse, reverse-append}
use Rattle.clause_learning.specs.declared.literal.Literal.{Literal}
use Rattle.clause_learning.specs.declared.trail.Value.{Value}
use Rattle.clause_learning.specs.declared.trail.Step.{Step}
use Rattle.clause_learning.specs.declared.trail.Trail.{Trail}
use Rattle.clause_learning.specs.declared.marks.Marks.{Marks}
use Rattle.clause_learning.specs.declared.analysis.Stop.{Stop}
use Rattle.clause_learning.specs.Literals.{complement}
use Rattle.clause_learning.specs.code.Trails.{value_at, Fails, IsJustified, IsReason, IsStep, Gives, IsTrail}
use Rattle.clause_learning.specs.code.Marked.{mark_at}
use Rattle.clause_learning.specs.code.Cuts.{AreUnmarkedFrom}
use Rattle.clause_learning.specs.code.Held.{IsHeld, IsHeldAt, IsMerged, IsStoppedAt, AreBefore, IsBefore}
use Rattle.clause_learning.proofs.Members.{some_same, nothing_in}
use Rattle.clause_learning.proofs.Trailing.{apart_from_free, fails_with, fails_without, lit_same, one_sign, twice}
use Rattle.clause_learning.proofs.Holding.{held_resolved}
use Rattle.clause_learning.proofs.Marking.{more_cases}

-- ---- values

none_here : (values : List (Option Value)) (a : ℕ) → value_at (set values a None) a ≡ None
none_here [] a = refl
none_here (v ∷ values) zero = refl
none_here (v ∷ values) (suc a) = none_here values a

-- a literal that is false without a value of this atom is of another one, and false with it
unset : (values : List (Option Value)) (a : ℕ) (x : Literal) → Fails (set values a None) x → (x.atom ≢ a) × Fails values x
unset values a x f =
    let apart : x.atom ≢ a = apart_from_free (set values a None) x a (none_here values a) f in
    (apart, (f.0, sym (get_or-set_other values a x.atom None None apart) ∙ f.1))

-- a literal of a true one's atom that is false is its opposite
opposite_of_true : (values : List (Option Value)) (x y : Literal) (p : ℕ) → value_at values x.atom ≡ Some (record { positive = x.positive; place = p }) → Fails values y → y.atom ≡ x.atom → y ≡ complement x
opposite_of_true values x y p v f e =
    let signs : not y.positive ≡ x.positive = one_sign (value_at values x.atom) (not y.positive) x.positive f.0 p (ap (value_at values) (sym e) ∙ f.1) v in
    lit_same y (complement x) e (twice y.positive ∙ ap not signs)

-- one atom has one place
one_place : (o : Option Value) (v w : Value) → o ≡ Some v → o ≡ Some w → v.place ≡ w.place
one_place o v w e f = ap (λ (u : Value). u.place) (some_same (sym e ∙ f))

-- ---- the steps of a trail

-- the step gave its atom its value at this place, and the others of its reason are false, of other atoms
record IsGiven (clauses : List (List Literal)) (s : Step) (place : ℕ) (values : List (Option Value)) : Type 0 where
  pub value : value_at values s.literal.atom ≡ Some (record { positive = s.literal.positive; place = place })
  pub reason : (r : ℕ) → s.reason ≡ Some r → (c : List Literal) × (slice_get clauses r ≡ Some c) × Contains c s.literal
      × ((x : Literal) → Contains c x → x ≢ s.literal → (x.atom ≢ s.literal.atom) × Fails values x)

given_last : (clauses : List (List Literal)) (s : Step) (place : ℕ) (values : List (Option Value)) → IsStep clauses s place values → IsGiven clauses s place values
given_last clauses s place values h = record {
  value = h.value;
  reason = λ r e.
      let J : Option ℕ → Type 0 = λ o. IsJustified clauses o s.literal (set values s.literal.atom None) in
      let known = subst J e h.reason in
      (known.0, known.1, known.2.has, λ x there apart. unset values s.literal.atom x (known.2.others x there apart));
}

given_before : (clauses : List (List Literal)) (s : Step) (place : ℕ) (values : List (Option Value)) (a : ℕ) → IsGiven clauses s place (set values a None) → IsGiven clauses s place values
given_before clauses s place values a h = record {
  value = sym (get_or-set_other values a s.literal.atom None None apart) ∙ h.value;
  reason = λ r e. let known = h.reason r e in (known.0, known.1, known.2, λ x there other. let both = known.3 x there other in (both.0, (unset values a x both.1).1));
}
  where
    apart : s.literal.atom ≢ a
    apart e = let none : value_at (set values a None) s.literal.atom ≡ None = ap (value_at (set values a None)) e ∙ none_here values a in let some = h.value in cc

given_at : (clauses : List (List Literal)) (later : List Step) (s : Step) (older : List Step) (values : List (Option Value)) → Gives clauses (later ++ s ∷ older) values → IsGiven clauses s (length older) values
given_at clauses [] s older values g = given_last clauses s (length older) values g.0
given_at clauses (z ∷ later) s older values g = given_before clauses s (length older) values z.literal.atom (given_at clauses later s older (set values z.literal.atom None) g.1)

split_at : (steps : List Step) (j : ℕ) (s : Step) → slice_get steps j ≡ Some s → (front : List Step) × (rest : List Step) × (steps ≡ front ++ s ∷ rest) × (length front ≡ j)
split_at [] j s e = cc
split_at (z ∷ steps) zero s e = let same : z ≡ s = some_same e in ([], steps, ap (λ (w : Step). w ∷ steps) same, refl)
split_at (z ∷ steps) (suc j) s e = let one = split_at steps j s e in (z ∷ one.0, one.1, ap (λ (ss : List Step). z ∷ ss) one.2, ap suc one.3)

trail_given : (clauses : List (List Literal)) (t : Trail) (j : ℕ) (s : Step) → IsTrail clauses t → slice_get t.steps j ≡ Some s → IsGiven clauses s j t.values
trail_given clauses t j s g e =
    let one = split_at t.steps j s e in
    let front : List Step = one.0 in
    let rest : List Step = one.1 in
    let back : reverse t.steps ≡ reverse rest ++ s ∷ reverse front
    = ap reverse (one.2 ∙ sym (append_assoc front (s ∷ []) rest)) ∙ reverse-append (front ++ s ∷ []) rest ∙ ap (λ (ss : List Step). reverse rest ++ ss) (reverse-append front (s ∷ [])) in
    let G : List Step → Type 0 = λ ss. Gives clauses ss t.values in
    let P : ℕ → Type 0 = λ n. IsGiven clauses s n t.values in
    subst P (length-reverse front ∙ one.3) (given_at clauses (reverse rest) s (reverse front) t.values (subst G back g))

-- ---- one resolution

module _ (clauses : List (List Literal)) (from : List ℕ) (m m' : Marks) (t : Trail) (stop : Stop) (h : IsStoppedAt clauses from m t stop) (j : ℕ) (s : Step) (at : slice_get t.steps j ≡ Some s) (k : ℕ) (because : s.reason ≡ Some k)
    (q : List Literal) (read : slice_get clauses k ≡ Some q) (marked : mark_at m s.literal.atom ≡ true) (before : AreBefore t.values q s.literal.atom stop.keep) (merged : IsMerged m q s.literal.atom m') where
  given : IsGiven clauses s j t.values
  given = trail_given clauses t j s h.trail at

  -- the step is of another atom than that at which the walk has stopped
  apart : s.literal.atom ≢ stop.literal.atom
  apart e = let none : value_at t.values s.literal.atom ≡ None = ap (value_at t.values) e ∙ h.held.free in let some = given.value in cc

  -- the values where the opposite of the literal there is false, and then without the step
  all_false : List (Option Value)
  all_false = set t.values stop.literal.atom (Some (record { positive = stop.literal.positive; place = 0 }))

  without_step : List (Option Value)
  without_step = set all_false s.literal.atom None

  stop_fails : Fails all_false (complement stop.literal)
  unfolding all_false
  stop_fails = (0, get_or-set_same t.values stop.literal.atom (Some (record { positive = stop.literal.positive; place = 0 })) None h.within ∙ ap (λ (b : Bool). Some (record { positive = b; place = 0 })) (twice stop.literal.positive))

  stays_false : (x : Literal) → Fails t.values x → Fails all_false x
  unfolding all_false
  stays_false x f = fails_with t.values stop.literal.atom (Some (record { positive = stop.literal.positive; place = 0 })) x h.held.free f

  was_false : (x : Literal) → x.atom ≢ stop.literal.atom → Fails all_false x → Fails t.values x
  unfolding all_false
  was_false x other f = (f.0, sym (get_or-set_other t.values stop.literal.atom x.atom (Some (record { positive = stop.literal.positive; place = 0 })) None other) ∙ f.1)

  held_false : (x : Literal) → Contains h.held.lits x → Fails all_false x
  held_false x there = elim (h.held.fails x there) [ inl f ↦ stays_false x f | inr e ↦ subst (Fails all_false) (sym e) stop_fails ]

  step_true : value_at all_false s.literal.atom ≡ Some (record { positive = s.literal.positive; place = j })
  unfolding all_false
  step_true = get_or-set_other t.values stop.literal.atom s.literal.atom (Some (record { positive = stop.literal.positive; place = 0 })) None apart ∙ given.value

  held_there : IsHeldAt clauses from m without_step s.literal
  unfolding without_step
  held_there = record {
    lits = h.held.lits;
    follows = h.held.follows;
    free = none_here all_false s.literal.atom;
    fails = λ x there. elim (cases_eq x.atom s.literal.atom) [
      | inl e ↦ inr (opposite_of_true all_false s.literal x j step_true (held_false x there) e)
      | inr other ↦ inl (fails_without all_false s.literal.atom None x other (held_false x there))
    ];
  }

  reason_there : IsReason q s.literal without_step
  unfolding without_step
  reason_there =
      let known = given.reason k because in
      let same : known.0 ≡ q = some_same (sym known.1 ∙ read) in
      record {
        has = subst (λ (c : List Literal). Contains c s.literal) same known.2;
        others = λ x there other.
            let both = known.3 x (subst (λ (c : List Literal). Contains c x) (sym same) there) other in
            fails_without all_false s.literal.atom None x both.0 (stays_false x both.1);
      }

  resolved : IsHeld clauses (from ++ k ∷ []) m' without_step
  resolved = held_resolved clauses from m without_step s.literal held_there k q m' marked read reason_there merged

  lone : (x : Literal) → Fails all_false x → x.atom ≡ stop.literal.atom → x ≡ complement stop.literal
  unfolding all_false
  lone x f e =
      opposite_of_true all_false stop.literal x 0 (get_or-set_same t.values stop.literal.atom (Some (record { positive = stop.literal.positive; place = 0 })) None h.within) f e

  held_again : IsHeldAt clauses (from ++ k ∷ []) m' t.values stop.literal
  unfolding without_step
  held_again = record {
    lits = resolved.lits;
    follows = resolved.follows;
    free = h.held.free;
    fails = λ x there.
        let both = unset all_false s.literal.atom x (resolved.fails x there) in
        elim (cases_eq x.atom stop.literal.atom) [
          | inl e ↦ inr (lone x both.1 e)
          | inr other ↦ inl (was_false x other both.1)
        ];
  }

  still_unmarked : AreUnmarkedFrom t.steps m' stop.keep
  still_unmarked i z past got =
      elim (cases_eq z.literal.atom s.literal.atom) [
        | inl e ↦ ap (mark_at m') e ∙ merged.unmarked.unmarked
        | inr other ↦ merged.unmarked.others z.literal.atom other ∙ not_true (mark_at merged.mid z.literal.atom) (never other)
      ]
    where
      not_true : (b : Bool) → (b ≡ true → ⊥) → b ≡ false
      not_true true never = absurd (never refl)
      not_true false never = refl

      never : z.literal.atom ≢ s.literal.atom → mark_at merged.mid z.literal.atom ≡ true → ⊥
      never other is =
          elim (merged.marked.only z.literal.atom is) [
            | inl old ↦ false≢true (sym (h.unmarked i z past got) ∙ old)
            | inr new ↦
                let there = before new.0 new.1 (λ e. other (sym new.2 ∙ e)) in
                let here = (trail_given clauses t i z h.trail got).value in
                let place : there.0.place ≡ i = one_place (value_at t.values z.literal.atom) there.0 (record { positive = z.literal.positive; place = i }) (ap (value_at t.values) (sym new.2) ∙ there.1) here in
                let less = there.2 in
                omega (arith, place, less, past)
          ]

  pub narrowed_by : IsStoppedAt clauses (from ++ k ∷ []) m' t stop
  narrowed_by = record {
    held = held_again;
    marked = merged.unmarked.others stop.literal.atom (λ e. apart (sym e)) ∙ merged.marked.kept stop.literal.atom h.marked;
    within = h.within;
    trail = h.trail;
    short = h.short;
    step = h.step;
    free = h.free;
    unmarked = still_unmarked;
  }

-- ---- how calls give it

pub dropped : (clauses : List (List Literal)) (from from' : List ℕ) (m m' : Marks) (t : Trail) (stop : Stop) (j : ℕ) (s : Step) (k : ℕ) (q q' : List Literal) → IsStoppedAt clauses from m t stop → slice_get t.steps j ≡ Some s → s.reason ≡ Some k
    → slice_get clauses k ≡ Some q → q' ≡ q → mark_at m s.literal.atom ≡ true → AreBefore t.values q' s.literal.atom stop.keep → IsMerged m q' s.literal.atom m' → from' ≡ from ++ k ∷ [] → IsStoppedAt clauses from' m' t stop
dropped clauses from from' m m' t stop j s k q q' h at because read same marked before merged ef =
    let B : List Literal → Type 0 = λ c. AreBefore t.values c s.literal.atom stop.keep in
    let M : List Literal → Type 0 = λ c. IsMerged m c s.literal.atom m' in
    let P : List ℕ → Type 0 = λ f. IsStoppedAt clauses f m' t stop in
    subst P (sym ef) (narrowed_by clauses from m m' t stop h j s at k because q read marked (subst B same before) (subst M same merged))

-- literals that were looked at
pub before_none : (values : List (Option Value)) (a keep : ℕ) → AreBefore values [] a keep
before_none values a keep x there = absurd (nothing_in x there)

pub before_more : (values : List (Option Value)) (lits : List Literal) (i a keep : ℕ) (x : Literal) → i < length lits → x ≡ get_or lits i x → AreBefore values (take i lits) a keep → (x.atom ≢ a → IsBefore values x.atom keep) → AreBefore values (take (i + 1) lits) a keep
before_more values lits i a keep x lt is old new y there apart =
    elim (more_cases lits i x lt is y there) [
      | inl before ↦ old y before apart
      | inr same ↦ subst (λ (z : Literal). IsBefore values z.atom keep) same (new (λ e. apart (ap (λ (z : Literal). z.atom) (sym same) ∙ e)))
    ]
