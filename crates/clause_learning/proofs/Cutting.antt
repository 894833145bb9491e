-- How steps are taken back.
use Rattle.std.proofs.Common.{◌≡◌, ◌≢◌, ℕ, zero, suc, ◌+◌, ◌-◌, ◌*◌, ◌^◌, ◌<◌, ◌≤◌, false, List, [], ◌∷◌, ◌++◌, length, reverse, set, Option, Some, None, slice_get, Contains, refl, sym, ap, ◌∙◌, subst, inl, inr, arith, append_assoc, append-nil}
use Rattle.std.proofs.lemmas.Bool.{cases_eq, false≢true}
use Rattle.std.proofs.lemmas.List.{get_or-set_other, length-set, length-append, length-reverse, reverse-append}
use Rattle.std.proofs.lemmas.Option.{slice_get_within}
use Rattle.std.specs.Prelude.{IfSome}
use Rattle.clause_learning.specs.declared.literal.Literal.{Literal}
use Rattle.clause_learning.specs.declared.trail.Value.{Value}
use Rattle.clause_learning.specs.declared.trail.Step.{Step}
use Rattle.clause_learning.specs.declared.trail.Trail.{Trail}
use Rattle.clause_learning.specs.declared.marks.Marks.{Marks}
use Rattle.clause_learning.specs.declared.analysis.Stop.{Stop}
use Rattle.clause_learning.specs.code.Trails.{value_at, IsTrail, IsUndone}
use Rattle.clause_learning.specs.code.Marked.{mark_at}
use Rattle.clause_learning.specs.code.Cuts.{IsFreeAt, AreUnmarkedFrom, IsCut, IsCutTo}
use Rattle.clause_learning.specs.code.Held.{IsHeldAt, IsStoppedAt}
use Rattle.clause_learning.specs.code.Weights.{weight, ceiling}
use Rattle.clause_learning.proofs.Members.{some_same, head_in, tail_in, place_of, got_left, got_right, got_push}
use Rattle.clause_learning.proofs.Trailing.{trail_undone}
use Rattle.clause_learning.proofs.Weighing.{ceiling_popped, ceiling_free}

-- ---- looking for a step that was taken freely

-- the steps from this place on are not marked, and one of them is kept in mind that was taken freely
pub record IsScanning (steps : List Step) (m : Marks) (place : ℕ) (keep : Option ℕ) : Type 0 where
  pub within : place ≤ length steps
  pub unmarked : AreUnmarkedFrom steps m place
  pub free : (k : ℕ) → keep ≡ Some k → IsFreeAt steps k × (place ≤ k)

pub scanning_none : (steps : List Step) (m : Marks) → IsScanning steps m (length steps) None
scanning_none steps m = record {
  within = omega arith;
  unmarked = λ j s past at. absurd (let within = slice_get_within steps j s at in omega (arith, past, within));
  free = λ k e. absurd (let never : None ≡ Some k = e in cc);
}

module _ (steps : List Step) (m : Marks) (place next : ℕ) (s : Step) (at : slice_get steps next ≡ Some s) (before : next + 1 ≡ place) where
  pub scanning_unmarked : AreUnmarkedFrom steps m place → mark_at m s.literal.atom ≡ false → AreUnmarkedFrom steps m next
  scanning_unmarked h unmarked j z past got =
      elim (cases_eq j next) [
        | inl e ↦
            let same : s ≡ z = some_same (sym at ∙ ap (slice_get steps) (sym e) ∙ got) in
            ap (λ (w : Step). mark_at m w.literal.atom) (sym same) ∙ unmarked
        | inr apart ↦ h j z (omega (arith, past, apart, before)) got
      ]

  pub scanning_over : (keep : Option ℕ) → IsScanning steps m place keep → mark_at m s.literal.atom ≡ false → IsScanning steps m next keep
  scanning_over keep h unmarked = record {
    within = let within = h.within in omega (arith, within, before);
    unmarked = scanning_unmarked h.unmarked unmarked;
    free = λ k e. let old = h.free k e in let past = old.1 in (old.0, omega (arith, past, before));
  }

  pub scanning_free : (keep : Option ℕ) → IsScanning steps m place keep → mark_at m s.literal.atom ≡ false → s.reason ≡ None → IsScanning steps m next (Some next)
  scanning_free keep h unmarked free = record {
    within = let within = h.within in omega (arith, within, before);
    unmarked = scanning_unmarked h.unmarked unmarked;
    free = λ k e. let same : next ≡ k = some_same e in (subst (IsFreeAt steps) same (s, at, free), omega (arith, same));
  }

pub scanning_cut : (steps : List Step) (m : Marks) (place : ℕ) (keep : Option ℕ) → IsScanning steps m place keep → IfSome keep (IsCut steps m)
scanning_cut steps m place None h = tt
scanning_cut steps m place (Some k) h =
    let one = h.free k refl in
    let past = one.1 in
    record { free = one.0; unmarked = λ j s later got. h.unmarked j s (omega (arith, past, later)) got }

-- ---- taking steps back

pub record IsRetreating (old : Trail) (keep : ℕ) (new : Trail) : Type 0 where
  pub many : length new.values ≡ length old.values
  pub gone : List Step
  pub steps : old.steps ≡ new.steps ++ gone
  pub left : keep ≤ length new.steps
  pub trail : (clauses : List (List Literal)) → IsTrail clauses old → IsTrail clauses new
  pub values : (a : ℕ) → ((s : Step) → Contains gone s → s.literal.atom ≢ a) → value_at new.values a ≡ value_at old.values a
  pub free : (a : ℕ) → value_at old.values a ≡ None → value_at new.values a ≡ None

pub retreating_none : (t : Trail) (keep : ℕ) → keep ≤ length t.steps → IsRetreating t keep t
retreating_none t keep h = record {
  many = refl;
  gone = [];
  steps = sym (append-nil t.steps);
  left = h;
  trail = λ clauses g. g;
  values = λ a apart. refl;
  free = λ a none. none;
}

none_set : (values : List (Option Value)) (i a : ℕ) → value_at values a ≡ None → value_at (set values i None) a ≡ None
none_set [] i a e = refl
none_set (v ∷ values) zero zero e = refl
none_set (v ∷ values) zero (suc a) e = e
none_set (v ∷ values) (suc i) zero e = e
none_set (v ∷ values) (suc i) (suc a) e = none_set values i a e

pub retreating_more : (first old new : Trail) (keep : ℕ) (s : Step) → IsRetreating first keep old → keep < length old.steps → IsUndone old new s → IsRetreating first keep new
retreating_more first old new keep s h more undone = record {
  many = ap length undone.values ∙ length-set old.values s.literal.atom None ∙ h.many;
  gone = s ∷ h.gone;
  steps = h.steps ∙ ap (λ (ss : List Step). ss ++ h.gone) undone.steps ∙ append_assoc new.steps (s ∷ []) h.gone;
  left = let e = ap length undone.steps ∙ length-append new.steps (s ∷ []) in omega (arith, e, more);
  trail = λ clauses g. (trail_undone clauses old new s (h.trail clauses g) undone).trail;
  values = λ a apart.
      ap (λ (vs : List (Option Value)). value_at vs a) undone.values ∙ get_or-set_other old.values s.literal.atom a None None (λ e. apart s (head_in s h.gone) (sym e))
      ∙ h.values a (λ z there. apart z (tail_in s h.gone z there));
  free = λ a none. ap (λ (vs : List (Option Value)). value_at vs a) undone.values ∙ none_set old.values s.literal.atom a (h.free a none);
}

pub retreated : (old new : Trail) (keep : ℕ) → IsRetreating old keep new → length new.steps ≤ keep → IsCutTo old keep new
retreated old new keep h past = record {
  many = h.many;
  gone = h.gone;
  steps = h.steps;
  left = let left = h.left in omega (arith, left, past);
  trail = h.trail;
  values = h.values;
  free = h.free;
}

-- there is no step, where one is left
pub none_left : (t : Trail) (keep : ℕ) → t.steps ≡ [] → keep < length t.steps → ⊥
none_left t keep none more = let e : length t.steps ≡ 0 = ap length none in omega (arith, e, more)

-- ---- what is held where a walk has stopped

-- no marked atom loses its value
gone_unmarked : (old new : Trail) (m : Marks) (keep : ℕ) (h : IsCutTo old keep new) → AreUnmarkedFrom old.steps m keep → (s : Step) → Contains h.gone s → mark_at m s.literal.atom ≡ false
gone_unmarked old new m keep h unmarked s there =
    let one = place_of h.gone s there in
    let left = h.left in
    unmarked (length new.steps + one.0) s (omega (arith, left)) (ap (λ (ss : List Step). slice_get ss (length new.steps + one.0)) h.steps ∙ got_right new.steps h.gone one.0 ∙ one.1)

pub cut_held : (clauses : List (List Literal)) (from : List ℕ) (m : Marks) (old new : Trail) (stop : Stop) → IsStoppedAt clauses from m old stop → IsCutTo old stop.keep new → IsHeldAt clauses from m new.values stop.literal
cut_held clauses from m old new stop h cut = record {
  lits = h.held.lits;
  follows = h.held.follows;
  free = cut.free stop.literal.atom h.held.free;
  fails = λ x there. elim (h.held.fails x there) [
    | inl f ↦ inl (f.0, cut.values x.atom (apart x there) ∙ f.1)
    | inr e ↦ inr e
  ];
}
  where
    apart : (x : Literal) → Contains h.held.lits x → (s : Step) → Contains cut.gone s → s.literal.atom ≢ x.atom
    apart x there s on e =
        false≢true (sym (gone_unmarked old new m stop.keep cut h.unmarked s on) ∙ ap (mark_at m) e ∙ h.held.follows.marked x there)

-- no more steps are kept than there are
pub stop_within : (steps : List Step) (step : Step) (k : ℕ) → IsFreeAt (steps ++ step ∷ []) k → k ≤ length steps
stop_within steps step k h =
    let within = slice_get_within (steps ++ step ∷ []) k h.0 h.1 in
    let e = length-append steps (step ∷ []) in
    omega (arith, within, e)

pub cut_within : (steps : List Step) (m : Marks) (k : ℕ) → IsCut steps m k → k ≤ length steps
cut_within steps m k h = let within = slice_get_within steps k h.free.0 h.free.1 in omega (arith, within)

-- a walk that stops at a step that was taken freely, or at one behind such
pub free_last : (steps : List Step) (s : Step) → s.reason ≡ None → IsFreeAt (steps ++ s ∷ []) (length steps)
free_last steps s free = (s, got_push steps s, free)

pub unmarked_last : (steps : List Step) (m : Marks) → AreUnmarkedFrom steps m (length steps)
unmarked_last steps m = (scanning_none steps m).unmarked

pub free_before : (steps : List Step) (s : Step) (k : ℕ) → IsFreeAt steps k → IsFreeAt (steps ++ s ∷ []) k
free_before steps s k h = (h.0, got_left steps (s ∷ []) k h.0 h.1, h.2)

-- ---- what a trail that is cut can weigh

ceiling_dropped : (n : ℕ) (later older : List Step) → length (later ++ older) ≤ n → ceiling n (later ++ older) ≤ ceiling n older
ceiling_dropped n [] older h = omega arith
ceiling_dropped n (s ∷ later) older h =
    let here = ceiling_popped n s (later ++ older) (omega (arith, h)) in
    let rest = ceiling_dropped n later older (omega (arith, h)) in
    omega (arith, here, rest)

first_of_two : (gone : List Step) (step : Step) → (e : Step) × (rest : List Step) × (gone ++ step ∷ [] ≡ e ∷ rest)
first_of_two [] step = (step, [], refl)
first_of_two (g ∷ gone) step = (g, gone ++ step ∷ [], refl)

pub ceiling_cut : (n : ℕ) (steps kept gone : List Step) (step : Step) (k : ℕ) → steps ≡ kept ++ gone → length kept ≡ k → IsFreeAt (steps ++ step ∷ []) k → length steps < n
    → ceiling n (step ∷ reverse steps) ≤ weight n (reverse kept) + 2 * 3 ^ (n - suc (length kept))
ceiling_cut n steps kept gone step k is many free short =
    let one = first_of_two gone step in
    let e : Step = one.0 in
    let rest : List Step = one.1 in
    let full : steps ++ step ∷ [] ≡ kept ++ e ∷ rest = ap (λ (ss : List Step). ss ++ step ∷ []) is ∙ append_assoc kept gone (step ∷ []) ∙ ap (λ (ss : List Step). kept ++ ss) one.2 in
    let place : length kept + 0 ≡ k = omega (arith, many) in
    let got : slice_get (kept ++ e ∷ rest) k ≡ Some e = ap (slice_get (kept ++ e ∷ rest)) (sym place) ∙ got_right kept (e ∷ rest) 0 in
    let same : free.0 ≡ e = some_same (sym free.1 ∙ ap (λ (ss : List Step). slice_get ss k) full ∙ got) in
    let freely : e.reason ≡ None = ap (λ (s : Step). s.reason) (sym same) ∙ free.2 in
    let back : step ∷ reverse steps ≡ reverse rest ++ e ∷ reverse kept
    = sym (reverse-append steps (step ∷ [])) ∙ ap reverse (full ∙ sym (append_assoc kept (e ∷ []) rest)) ∙ reverse-append (kept ++ e ∷ []) rest
    ∙ ap (λ (ss : List Step). reverse rest ++ ss) (reverse-append kept (e ∷ [])) in
    let long : length (reverse rest ++ e ∷ reverse kept) ≡ suc (length steps) = ap length (sym back) ∙ ap suc (length-reverse steps) in
    let dropped = ceiling_dropped n (reverse rest) (e ∷ reverse kept) (omega (arith, long, short)) in
    let here = ceiling_free n e (reverse kept) freely in
    let turned : 3 ^ (n - suc (length (reverse kept))) ≡ 3 ^ (n - suc (length kept)) = ap (λ (i : ℕ). 3 ^ (n - suc i)) (length-reverse kept) in
    let whole : ceiling n (step ∷ reverse steps) ≡ ceiling n (reverse rest ++ e ∷ reverse kept) = ap (ceiling n) back in
    omega (arith, dropped, here, turned, whole)
