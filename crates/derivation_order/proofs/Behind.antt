-- What holds of each of some lines, with the lines before it.
use Rattle.std.specs.Prelude.{ℕ, zero, suc, ◌≡◌, ◌+◌, Bool, true, false, if◌then◌else◌, List, [], ◌∷◌, ◌++◌, take, Some, slice_get, refl}
use Rattle.std.proofs.Common.{ap, sym, subst, arith, append_assoc}
use Rattle.std.proofs.lemmas.List.{append-nil}
use Rattle.given_parts.specs.Chosen.{chosen_from}
use Rattle.derivation_items.specs.declared.line.ProofLine.{ProofLine}
use Rattle.derivation_order.specs.Links.{EachBehind}

module _ (P : List ProofLine → ProofLine → Type 0) where
  pub each_append : (earlier xs ys : List ProofLine) → EachBehind P earlier xs → EachBehind P (earlier ++ xs) ys → EachBehind P earlier (xs ++ ys)
  each_append earlier [] ys hx hy = subst (λ (e : List ProofLine). EachBehind P e ys) (append-nil earlier) hy
  each_append earlier (x ∷ xs) ys hx hy = (
    hx.0,
    each_append (earlier ++ x ∷ []) xs ys hx.1 (subst (λ (e : List ProofLine). EachBehind P e ys) (sym (append_assoc earlier (x ∷ []) xs)) hy),
  )

  pub each_if : (earlier : List ProofLine) (b : Bool) (lines : List ProofLine) → (b ≡ true → EachBehind P earlier lines) → EachBehind P earlier (if b then lines else [])
  each_if earlier true lines h = h refl
  each_if earlier false lines h = tt

  module _ {X : Type 0} (give : ℕ → X → List ProofLine) where
    -- each behind what those before it give
    abbrev pub EachGives : List ProofLine → ℕ → List Bool → List X → Type 0
    EachGives earlier k marks xs =
        (i : ℕ) (x : X) → slice_get marks i ≡ Some true → slice_get xs i ≡ Some x → EachBehind P (earlier ++ chosen_from k give (take i marks) (take i xs)) (give (k + i) x)

    each_chosen_from : (earlier : List ProofLine) (k : ℕ) (marks : List Bool) (xs : List X) → EachGives earlier k marks xs → EachBehind P earlier (chosen_from k give marks xs)
    each_chosen_from earlier k [] xs each = tt
    each_chosen_from earlier k (b ∷ marks) [] each = tt
    each_chosen_from earlier k (b ∷ marks) (x ∷ xs) each =
        each_append earlier first rest
        (each_if earlier b (give k x) (λ on.
        let same : k + 0 ≡ k = omega arith in
        subst (λ (e : List ProofLine). EachBehind P e (give k x)) (append-nil earlier)
        (subst (λ (n : ℕ). EachBehind P (earlier ++ []) (give n x)) same (each 0 x (ap Some on) refl))))
        (each_chosen_from (earlier ++ first) (k + 1) marks xs (λ i z marked there.
        let same : k + suc i ≡ k + 1 + i = omega arith in
        subst (λ (n : ℕ). EachBehind P ((earlier ++ first) ++ chosen_from (k + 1) give (take i marks) (take i xs)) (give n z)) same
        (subst (λ (e : List ProofLine). EachBehind P e (give (k + suc i) z)) (sym (append_assoc earlier first (chosen_from (k + 1) give (take i marks) (take i xs)))) (each (suc i) z marked there))))
      where
        first : List ProofLine
        first = if b then give k x else []

        rest : List ProofLine
        rest = chosen_from (k + 1) give marks xs

    -- the first has number 0
    pub each_chosen : (earlier : List ProofLine) (marks : List Bool) (xs : List X)
        → ((i : ℕ) (x : X) → slice_get marks i ≡ Some true → slice_get xs i ≡ Some x → EachBehind P (earlier ++ chosen_from 0 give (take i marks) (take i xs)) (give i x)) → EachBehind P earlier (chosen_from 0 give marks xs)
    each_chosen earlier marks xs each =
        each_chosen_from earlier 0 marks xs (λ i x marked there.
        let same : i ≡ 0 + i = omega arith in
        subst (λ (n : ℕ). EachBehind P (earlier ++ chosen_from 0 give (take i marks) (take i xs)) (give n x)) same (each i x marked there))

  behind_at : (earlier lines : List ProofLine) (k : ℕ) (line : ProofLine) → EachBehind P earlier lines → slice_get lines k ≡ Some line → P (earlier ++ take k lines) line
  behind_at earlier [] k line h e = cc
  behind_at earlier (l ∷ lines) zero line h e =
      let same : l ≡ line = cc in
      subst (P (earlier ++ [])) same (subst (λ (x : List ProofLine). P x l) (sym (append-nil earlier)) h.0)
  behind_at earlier (l ∷ lines) (suc k) line h e = subst (λ (x : List ProofLine). P x line) (append_assoc earlier (l ∷ []) (take k lines)) (behind_at (earlier ++ l ∷ []) lines k line h.1 e)

  -- of each line with those before it
  pub each_at : (lines : List ProofLine) (k : ℕ) (line : ProofLine) → EachBehind P [] lines → slice_get lines k ≡ Some line → P (take k lines) line
  each_at lines k line h e = behind_at [] lines k line h e
