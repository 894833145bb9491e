-- The rows of entries one by one.
use Rattle.std.proofs.Common.{◌≡◌, ℕ, zero, suc, ◌+◌, ◌<◌, ◌≤◌, Bool, true, false, List, [], ◌∷◌, ◌++◌, length, take, drop, get_or, Option, Some, None, Result, Ok, Err, refl, sym, ◌∙◌, ap, subst, append_assoc, arith}
use Rattle.std.specs.Prelude.{slice_get}
use Rattle.std.specs.Option.{option_map, option_and_then}
use Rattle.std.proofs.lemmas.List.{append-nil, drop_all}
use Rattle.std.proofs.lemmas.Option.{slice_get_read}
use Rattle.fof_terms.specs.Vocabulary.{Vocabulary}
use Rattle.fi_model.specs.declared.fault.ModelFault.{ModelFault}
use Rattle.fi_model.specs.declared.rows.Row.{Row}
use Rattle.fi_model.specs.declared.sentence.Element.{Element}
use Rattle.fi_model.specs.declared.sentence.Entry.{Entry}
use Rattle.fi_model.specs.declared.sentence.Sentence.{Sentence}
use Rattle.fi_model.specs.Sentences.{Text}
use Rattle.fi_model.specs.Models.{both, place, places, entry_rows, entries_rows, says_rows, rows_then, rows}
use Rattle.fi_model.specs.code.Adding.{Adds, IsElement, IsElementAt, IsElementOf}
use Rattle.fi_model.proofs.Loops.{at_member}
use Rattle.fi_model.specs.declared.fault.ModelFault.TheVariants as fault

-- ---- the entries of a sentence

module _ (v : Vocabulary) (elements : List (List Text)) (at : ℕ) where
  -- some rows are added, the others follow
  pub record Entering (entries : List Entry) (i : ℕ) (old found : List Row) : Type 0 where
    pub added : List Row
    pub is : found ≡ old ++ added
    pub so_far : entries_rows v elements at entries ≡ option_map (λ more. added ++ more) (entries_rows v elements at (drop i entries))

  none_front : (o : Option (List Row)) → o ≡ option_map (λ more. [] ++ more) o
  none_front None = refl
  none_front (Some rs) = refl

  pub entering : (entries : List Entry) (old : List Row) → Entering entries 0 old old
  entering entries old = record { added = []; is = sym (append-nil old); so_far = none_front (entries_rows v elements at entries) }

  front_more : (added rs : List Row) (o : Option (List Row)) → option_map (λ more. added ++ more) (both (λ xs ys. xs ++ ys) (Some rs) o) ≡ option_map (λ more. (added ++ rs) ++ more) o
  front_more added rs None = refl
  front_more added rs (Some more) = ap Some (sym (append_assoc added rs more))

  front_none : (added : List Row) (o : Option (List Row)) → option_map (λ more. added ++ more) (both (λ (xs ys : List Row). xs ++ ys) None o) ≡ None
  front_none added o = refl

  module _ (entries : List Entry) (i : ℕ) (old found : List Row) (e : Entry) (lt : i < length entries) (is : e ≡ get_or entries i e) (h : Entering entries i old found) where
    turning : entries_rows v elements at entries ≡ option_map (λ more. h.added ++ more) (both (λ xs ys. xs ++ ys) (entry_rows v elements at e) (entries_rows v elements at (drop (i + 1) entries)))
    turning = h.so_far ∙ ap (λ (es : List Entry). option_map (λ more. h.added ++ more) (entries_rows v elements at es)) (at_member entries i e lt is)

    pub entered : (new : List Row) (good : Bool) → good ≡ true → Adds (entry_rows v elements at e) found good new → Entering entries (i + 1) old new
    entered new good is_good adds = by (entry_rows v elements at e) refl (rw is_good at adds)
      where
        by : (o : Option (List Row)) → entry_rows v elements at e ≡ o → Adds o found true new → Entering entries (i + 1) old new
        by None here a = absurd a
        by (Some rs) here a = record {
          added = h.added ++ rs;
          is = a ∙ ap (λ (xs : List Row). xs ++ rs) h.is ∙ append_assoc old h.added rs;
          so_far = turning
              ∙ ap (λ (o : Option (List Row)). option_map (λ more. h.added ++ more) (both (λ xs ys. xs ++ ys) o (entries_rows v elements at (drop (i + 1) entries)))) here
              ∙ front_more h.added rs (entries_rows v elements at (drop (i + 1) entries));
        }

    pub not_entered : (new : List Row) (good : Bool) → good ≡ false → Adds (entry_rows v elements at e) found good new → entries_rows v elements at entries ≡ None
    not_entered new good is_bad adds = by (entry_rows v elements at e) refl (rw is_bad at adds)
      where
        by : (o : Option (List Row)) → entry_rows v elements at e ≡ o → Adds o found false new → entries_rows v elements at entries ≡ None
        by (Some rs) here a = absurd a
        by None here a = turning ∙ ap (λ (o : Option (List Row)). option_map (λ more. h.added ++ more) (both (λ xs ys. xs ++ ys) o (entries_rows v elements at (drop (i + 1) entries)))) here

  pub all_entered : (entries : List Entry) (i : ℕ) (old found : List Row) → length entries ≤ i → Entering entries i old found → Adds (entries_rows v elements at entries) old true found
  all_entered entries i old found le h = subst' (sym whole) h.is
    where
      whole : entries_rows v elements at entries ≡ Some h.added
      whole = h.so_far ∙ ap (λ (es : List Entry). option_map (λ more. h.added ++ more) (entries_rows v elements at es)) (drop_all i entries le) ∙ ap Some (append-nil h.added)

      subst' : {o : Option (List Row)} → Some h.added ≡ o → found ≡ old ++ h.added → Adds o old true found
      subst' e f = rw (← e) f

  pub adds_none : (o : Option (List Row)) (old new : List Row) → o ≡ None → Adds o old false new
  adds_none o old new e = rw e tt

-- ---- the sentences

-- the rows so far, and those of the other sentences
abbrev pub behind : List Row → Result (List Row) ℕ → Result (List Row) ℕ
behind found (Ok more) = Ok (found ++ more)
behind found (Err at) = Err at

module _ (v : Vocabulary) (elements : List (List Text)) where
  pub begins : (r : Result (List Row) ℕ) → r ≡ behind [] r
  begins (Ok rs) = refl
  begins (Err at) = refl

  behind_more : (found rs : List Row) (i : ℕ) (r : Result (List Row) ℕ) → behind found (rows_then i (Some rs) r) ≡ behind (found ++ rs) r
  behind_more found rs i (Ok more) = ap Ok (sym (append_assoc found rs more))
  behind_more found rs i (Err at) = refl

  module _ (said : List Sentence) (i : ℕ) (s : Sentence) (found : List Row) (lt : i < length said) (is : s ≡ get_or said i s) (before : rows v elements 0 said ≡ behind found (rows v elements i (drop i said))) where
    passing : rows v elements 0 said ≡ behind found (rows_then i (says_rows v elements i s.what) (rows v elements (i + 1) (drop (i + 1) said)))
    passing = before ∙ ap (λ (ss : List Sentence). behind found (rows v elements i ss)) (at_member said i s lt is)

    pub turn : (new : List Row) (good : Bool) → good ≡ true → Adds (says_rows v elements i s.what) found good new → rows v elements 0 said ≡ behind new (rows v elements (i + 1) (drop (i + 1) said))
    turn new good is_good adds = by (says_rows v elements i s.what) refl (rw is_good at adds)
      where
        by : (o : Option (List Row)) → says_rows v elements i s.what ≡ o → Adds o found true new → rows v elements 0 said ≡ behind new (rows v elements (i + 1) (drop (i + 1) said))
        by None here a = absurd a
        by (Some rs) here a =
            passing
            ∙ ap (λ (o : Option (List Row)). behind found (rows_then i o (rows v elements (i + 1) (drop (i + 1) said)))) here
            ∙ behind_more found rs i (rows v elements (i + 1) (drop (i + 1) said))
            ∙ ap (λ (xs : List Row). behind xs (rows v elements (i + 1) (drop (i + 1) said))) (sym a)

    pub turn_fails : (new : List Row) (good : Bool) → good ≡ false → Adds (says_rows v elements i s.what) found good new → rows v elements 0 said ≡ Err i
    turn_fails new good is_bad adds = by (says_rows v elements i s.what) refl (rw is_bad at adds)
      where
        by : (o : Option (List Row)) → says_rows v elements i s.what ≡ o → Adds o found false new → rows v elements 0 said ≡ Err i
        by (Some rs) here a = absurd a
        by None here a = passing ∙ ap (λ (o : Option (List Row)). behind found (rows_then i o (rows v elements (i + 1) (drop (i + 1) said)))) here

    pub fails : (f : ModelFault) (new : List Row) (good : Bool) → good ≡ false → Adds (says_rows v elements i s.what) found good new → IsElementOf s f → IsElement said (rows v elements 0 said) f
    fails f new good is_bad adds h = rw (turn_fails new good is_bad adds) (by f h)
      where
        by : (g : ModelFault) → IsElementOf s g → IsElementAt said i g
        by (fault.Element p n) k = record { sentence = s; is = slice_get_read said (length said) i s refl lt is; same_place = k.0; same_name = k.1 }
        by fault.Memory k = tt
        by (fault.Shape p) k = absurd k
        by (fault.Domain n) k = absurd k
        by (fault.Double p n) k = absurd k
        by (fault.Missing n) k = absurd k

  same_member : (said : List Sentence) (i : ℕ) (a b : Sentence) → i < length said → get_or said i a ≡ get_or said i b
  same_member [] i a b lt = absurd (omega arith)
  same_member (s ∷ said) zero a b lt = refl
  same_member (s ∷ said) (suc i) a b lt = same_member said i a b (omega arith)

  -- the sentence is read twice
  pub turn_at : (said : List Sentence) (i : ℕ) (s : Sentence) (found new : List Row) (good : Bool) → i < length said → s ≡ get_or said i s → rows v elements 0 said ≡ behind found (rows v elements i (drop i said)) → good ≡ true
      → Adds (says_rows v elements i (get_or said i s).what) found good new → rows v elements 0 said ≡ behind new (rows v elements (i + 1) (drop (i + 1) said))
  turn_at said i s found new good lt is before is_good adds =
      turn said i s found lt is before new good is_good (subst (λ (t : Sentence). Adds (says_rows v elements i t.what) found good new) (sym is) adds)

  pub fails_at : (said : List Sentence) (i : ℕ) (s t : Sentence) (found new : List Row) (good : Bool) (f : ModelFault) → i < length said → t ≡ get_or said i t → rows v elements 0 said ≡ behind found (rows v elements i (drop i said)) → good ≡ false
      → Adds (says_rows v elements i (get_or said i s).what) found good new → IsElementOf t f → IsElement said (rows v elements 0 said) f
  fails_at said i s t found new good f lt is before is_bad adds h =
      fails said i t found lt is before f new good is_bad (subst (λ (u : Sentence). Adds (says_rows v elements i u.what) found good new) (same_member said i s t lt ∙ sym is) adds) h

  pub ends : (said : List Sentence) (i : ℕ) (found : List Row) → length said ≤ i → rows v elements 0 said ≡ behind found (rows v elements i (drop i said)) → rows v elements 0 said ≡ Ok found
  ends said i found le before = before ∙ ap (λ (ss : List Sentence). behind found (rows v elements i ss)) (drop_all i said le) ∙ ap Ok (append-nil found)

pub want : (said : List Sentence) (r : Result (List Row) ℕ) → IsElement said r fault.Memory
want said (Ok found) = refl
want said (Err at) = tt

-- ---- places

both_cons : (x : ℕ) (o : Option (List ℕ)) (xs : List ℕ) → o ≡ Some xs → both (λ y ys. y ∷ ys) (Some x) o ≡ Some (x ∷ xs)
both_cons x o xs e = rw e refl

cons_of : (o : Option ℕ) (p : Option (List ℕ)) (xs : List ℕ) → both (λ y ys. y ∷ ys) o p ≡ Some xs → (x : ℕ) × (ys : List ℕ) × (o ≡ Some x) × (p ≡ Some ys) × (xs ≡ x ∷ ys)
cons_of None p xs e = cc
cons_of (Some x) None xs e = cc
cons_of (Some x) (Some ys) xs e = (x, ys, refl, refl, cc)

both_nothing : {X Y Z : Type 0} (f : X → Y → Z) (o : Option X) → both f o None ≡ None
both_nothing f None = refl
both_nothing f (Some x) = refl

longer : (o : Option ℕ) (p : Option (List ℕ)) (y x : ℕ) (ys xs : List ℕ) → o ≡ Some y → p ≡ Some (ys ++ x ∷ []) → xs ≡ y ∷ ys → both (λ a as_. a ∷ as_) o p ≡ Some (xs ++ x ∷ [])
longer o p y x ys xs e f g = rw (e, f, g) refl

module _ (elements : List (List Text)) where
  pub uneven_places : (sorts : List ℕ) (es : List Element) → (length sorts ≡ length es → ⊥) → places elements sorts es ≡ None
  uneven_places [] [] h = absurd (h refl)
  uneven_places [] (e ∷ es) h = refl
  uneven_places (s ∷ sorts) [] h = refl
  uneven_places (s ∷ sorts) (e ∷ es) h = rw (uneven_places sorts es (λ same. h (omega (arith, same)))) (both_nothing (λ x xs. x ∷ xs) (place elements s e.name))

  -- the place of what may be an element
  abbrev pub place_there : ℕ → Option Element → Option ℕ
  place_there sort e = option_and_then (λ (d : Element). place elements sort d.name) e

  pub place_misses : (sorts : List ℕ) (es : List Element) (i : ℕ) → i < length sorts → i < length es → place_there (get_or sorts i 0) (slice_get es i) ≡ None → places elements sorts es ≡ None
  place_misses [] es i l m none = absurd (omega arith)
  place_misses (s ∷ sorts) [] i l m none = absurd (omega arith)
  place_misses (s ∷ sorts) (d ∷ es) zero l m none = let here : place elements s d.name ≡ None = none in rw here refl
  place_misses (s ∷ sorts) (d ∷ es) (suc i) l m none = rw (place_misses sorts es i (omega arith) (omega arith) none) (both_nothing (λ x xs. x ∷ xs) (place elements s d.name))

  pub places_more : (sorts : List ℕ) (es : List Element) (i x : ℕ) (xs : List ℕ) → i < length sorts → i < length es → place_there (get_or sorts i 0) (slice_get es i) ≡ Some x → places elements (take i sorts) (take i es) ≡ Some xs
      → places elements (take (i + 1) sorts) (take (i + 1) es) ≡ Some (xs ++ x ∷ [])
  places_more [] es i x xs l m some before = absurd (omega arith)
  places_more (s ∷ sorts) [] i x xs l m some before = absurd (omega arith)
  places_more (s ∷ sorts) (d ∷ es) zero x xs l m some before =
      let here : place elements s d.name ≡ Some x = some in
      let none : xs ≡ [] = cc in
      rw (here, none) refl
  places_more (s ∷ sorts) (d ∷ es) (suc i) x xs l m some before =
      let parts = cons_of (place elements s d.name) (places elements (take i sorts) (take i es)) xs before in
      let rest = places_more sorts es i x parts.1 (omega arith) (omega arith) some parts.3 in
      let next : suc i + 1 ≡ suc (i + 1) = omega arith in
      rw next (longer (place elements s d.name) (places elements (take (i + 1) sorts) (take (i + 1) es)) parts.0 x parts.1 xs parts.2 rest parts.4)
