-- The variables that are kept: their numbers and their sorts, before and after.
use Rattle.std.specs.Prelude.{ℕ, zero, suc, ◌≡◌, ◌+◌, ◌<◌, Bool, true, false, if◌then◌else◌, List, [], ◌∷◌, ◌++◌, length, reverse, Some, slice_get, refl}
use Rattle.std.proofs.Common.{ap, sym, ◌∙◌, arith, append-nil, inl, inr}
use Rattle.std.proofs.lemmas.List.{length-append, length-reverse}
use Rattle.fof_terms.specs.declared.term.Term.{Var}
use Rattle.fof_terms.proofs.LiftingLaws.{below_or_above}
use Rattle.clause_rules.proofs.ListPlaces.{before, reverse_cons}
use Rattle.printed_clauses.specs.Trimmed.{count_below, new_variables, kept_sorts}
use Rattle.printed_steps.proofs.ListEnds.{last_place, place_or_last}

-- the variables below d that occur, in order
abbrev pub kept_variables : (ℕ → Bool) → ℕ → List ℕ
kept_variables occurs zero = []
kept_variables occurs (suc d) = kept_variables occurs d ++ (if occurs d then d ∷ [] else [])

one_or_none : (b : Bool) (xs : List ℕ) (y : ℕ) → length (xs ++ (if b then y ∷ [] else [])) ≡ length xs + (if b then 1 else 0)
one_or_none true xs y = length-append xs (y ∷ [])
one_or_none false xs y = length-append xs []

module _ (occurs : ℕ → Bool) where
  pub variables_counted : (d : ℕ) → length (kept_variables occurs d) ≡ count_below occurs d
  variables_counted zero = refl
  variables_counted (suc d) = one_or_none (occurs d) (kept_variables occurs d) d ∙ ap (λ n. n + (if occurs d then 1 else 0)) (variables_counted d)

  variables_more : (b : Bool) (d : ℕ) → occurs d ≡ b → kept_variables occurs (suc d) ≡ kept_variables occurs d ++ (if b then d ∷ [] else [])
  variables_more b d is = ap (λ (x : Bool). kept_variables occurs d ++ (if x then d ∷ [] else [])) is

  -- the variable with that new number
  pub variable_back : (n k : ℕ) → k < n → occurs k ≡ true → slice_get (kept_variables occurs n) (count_below occurs k) ≡ Some k
  variable_back zero k lt is = absurd (omega arith)
  variable_back (suc n) k lt is = elim (below_or_above k n) [
    | inl h ↦ before (kept_variables occurs n) (if occurs n then n ∷ [] else []) (count_below occurs k) k (variable_back n k h is)
    | inr h ↦
        let same : k ≡ n = omega arith in
        ap (λ (xs : List ℕ). slice_get xs (count_below occurs k)) (variables_more true n (ap occurs (sym same) ∙ is))
        ∙ ap (slice_get (kept_variables occurs n ++ n ∷ [])) (ap (count_below occurs) same ∙ sym (variables_counted n))
        ∙ last_place (kept_variables occurs n) n ∙ ap Some (sym same)
  ]

  numbers_counted : (n : ℕ) → length (new_variables occurs n) ≡ n
  numbers_counted zero = refl
  numbers_counted (suc n) = let more = length-append (new_variables occurs n) (Var (count_below occurs n) ∷ []) in let inner = numbers_counted n in omega arith

  pub number_there : (n k : ℕ) → k < n → slice_get (new_variables occurs n) k ≡ Some (Var (count_below occurs k))
  number_there zero k lt = absurd (omega arith)
  number_there (suc n) k lt = elim (below_or_above k n) [
    | inl h ↦ before (new_variables occurs n) (Var (count_below occurs n) ∷ []) k (Var (count_below occurs k)) (number_there n k h)
    | inr h ↦
        let same : k ≡ n = omega arith in
        ap (slice_get (new_variables occurs n ++ Var (count_below occurs n) ∷ [])) (same ∙ sym (numbers_counted n))
        ∙ last_place (new_variables occurs n) (Var (count_below occurs n)) ∙ ap (λ (m : ℕ). Some (Var (count_below occurs m))) (sym same)
  ]

  -- the sorts, that of variable 0 first
  sorts_more : (b : Bool) (s : ℕ) (inner : List ℕ) → occurs (length inner) ≡ b → reverse (kept_sorts occurs (s ∷ inner)) ≡ reverse (kept_sorts occurs inner) ++ (if b then s ∷ [] else [])
  sorts_more true s inner is = ap (λ (x : Bool). reverse (if x then s ∷ kept_sorts occurs inner else kept_sorts occurs inner)) is ∙ reverse_cons s (kept_sorts occurs inner)
  sorts_more false s inner is = ap (λ (x : Bool). reverse (if x then s ∷ kept_sorts occurs inner else kept_sorts occurs inner)) is ∙ sym (append-nil (reverse (kept_sorts occurs inner)))

  pub sorts_counted : (sorts : List ℕ) → length (reverse (kept_sorts occurs sorts)) ≡ count_below occurs (length sorts)
  sorts_counted [] = refl
  sorts_counted (s ∷ inner) =
      ap (λ (xs : List ℕ). length xs) (sorts_more (occurs (length inner)) s inner refl)
      ∙ one_or_none (occurs (length inner)) (reverse (kept_sorts occurs inner)) s ∙ ap (λ n. n + (if occurs (length inner) then 1 else 0)) (sorts_counted inner)

  pub sort_kept : (sorts : List ℕ) (k r : ℕ) → occurs k ≡ true → slice_get (reverse sorts) k ≡ Some r → slice_get (reverse (kept_sorts occurs sorts)) (count_below occurs k) ≡ Some r
  sort_kept [] k r is e = cc
  sort_kept (s ∷ inner) k r is e = elim (place_or_last (reverse inner) s k r (sym (ap (λ (xs : List ℕ). slice_get xs k) (reverse_cons s inner)) ∙ e)) [
    | inl h ↦
        ap (λ (xs : List ℕ). slice_get xs (count_below occurs k)) (sorts_more (occurs (length inner)) s inner refl)
        ∙ before (reverse (kept_sorts occurs inner)) (if occurs (length inner) then s ∷ [] else []) (count_below occurs k) r (sort_kept inner k r is h)
    | inr h ↦
        let last : k ≡ length inner = h.0 ∙ length-reverse inner in
        ap (λ (xs : List ℕ). slice_get xs (count_below occurs k)) (sorts_more true s inner (ap occurs (sym last) ∙ is))
        ∙ ap (slice_get (reverse (kept_sorts occurs inner) ++ s ∷ [])) (ap (count_below occurs) last ∙ sym (sorts_counted inner))
        ∙ last_place (reverse (kept_sorts occurs inner)) s ∙ ap Some h.1
  ]

  -- the old variable at a place of the new scope
  abbrev WasThere : List ℕ → ℕ → ℕ → Type 0
  WasThere sorts m r = (k : ℕ) × (slice_get (kept_variables occurs (length sorts)) m ≡ Some k) × (slice_get (reverse sorts) k ≡ Some r)

  was_inner : (s : ℕ) (inner : List ℕ) (m r : ℕ) → WasThere inner m r → WasThere (s ∷ inner) m r
  was_inner s inner m r h = (
    h.0,
    before (kept_variables occurs (length inner)) (if occurs (length inner) then length inner ∷ [] else []) m h.0 h.1,
    ap (λ (xs : List ℕ). slice_get xs h.0) (reverse_cons s inner) ∙ before (reverse inner) (s ∷ []) h.0 r h.2,
  )

  was_step : (b : Bool) (s : ℕ) (inner : List ℕ) (m r : ℕ) → occurs (length inner) ≡ b → ((m r : ℕ) → slice_get (reverse (kept_sorts occurs inner)) m ≡ Some r → WasThere inner m r)
      → slice_get (reverse (kept_sorts occurs (s ∷ inner))) m ≡ Some r → WasThere (s ∷ inner) m r
  was_step true s inner m r is deeper e =
      elim (place_or_last (reverse (kept_sorts occurs inner)) s m r (sym (ap (λ (xs : List ℕ). slice_get xs m) (sorts_more true s inner is)) ∙ e)) [
        | inl h ↦ was_inner s inner m r (deeper m r h)
        | inr h ↦ (
          length inner,
          ap (λ (xs : List ℕ). slice_get xs m) (variables_more true (length inner) is)
              ∙ ap (slice_get (kept_variables occurs (length inner) ++ length inner ∷ [])) (h.0 ∙ sorts_counted inner ∙ sym (variables_counted (length inner)))
              ∙ last_place (kept_variables occurs (length inner)) (length inner),
          ap (λ (xs : List ℕ). slice_get xs (length inner)) (reverse_cons s inner) ∙ ap (slice_get (reverse inner ++ s ∷ [])) (sym (length-reverse inner)) ∙ last_place (reverse inner) s ∙ ap Some h.1,
        )
      ]
  was_step false s inner m r is deeper e =
      was_inner s inner m r (deeper m r (sym (ap (λ (xs : List ℕ). slice_get xs m) (sorts_more false s inner is ∙ append-nil (reverse (kept_sorts occurs inner)))) ∙ e))

  pub sort_back : (sorts : List ℕ) (m r : ℕ) → slice_get (reverse (kept_sorts occurs sorts)) m ≡ Some r → WasThere sorts m r
  sort_back [] m r e = cc
  sort_back (s ∷ inner) m r e = was_step (occurs (length inner)) s inner m r refl (sort_back inner) e
