-- Loops that read the members of a list.
use Rattle.std.proofs.Common.{◌≡◌, ℕ, suc, ◌+◌, ◌-◌, ◌<◌, ◌≤◌, List, [], ◌∷◌, ◌++◌, Ok, Err, refl, sym, ◌∙◌, ap, append_assoc, append-nil, arith}
use Rattle.first_fault.specs.code.Reading.{Cause, Outcome, Reader, and_then, mapped}
use Rattle.first_fault.proofs.Exact.{mapped_same}
use Rattle.proof_log.specs.declared.stop.Stop.{Stop}
use Rattle.proof_log.specs.declared.stop.Stop.TheVariants as stop
use Rattle.proof_log.specs.code.Outcomes.{Fails}
use Rattle.proof_log.specs.code.ReadWords.{number, times, listed}

-- what is read of a list, once these members were read
abbrev pub Kept : {A : Type 0} → Reader ℕ A → ℕ → List ℕ → List A → ℕ → List ℕ → Type 0
Kept p n first xs i ts = times n p first ≡ mapped (λ ys. xs ++ ys) (times (n - i) p ts)

joins : {A : Type 0} (xs : List A) (x : A) (o : Outcome ℕ (List A)) → mapped (λ ys. xs ++ ys) (mapped (λ ys. x ∷ ys) o) ≡ mapped (λ ys. (xs ++ (x ∷ [])) ++ ys) o
joins xs x (Ok r) = ap (λ ys. Ok (ys, r.1)) (sym (append_assoc xs (x ∷ []) r.0))
joins xs x (Err f) = refl

module _ {A : Type 0} (p : Reader ℕ A) (n : ℕ) (first : List ℕ) where
  pub kept_first : Kept p n first [] 0 first
  kept_first = let all : n - 0 ≡ n = omega arith in sym (ap (λ k. mapped (λ ys. ys) (times k p first)) all ∙ mapped_same (times n p first))

  at_member : (xs : List A) (i : ℕ) (ts : List ℕ) → i < n → times (n - i) p ts ≡ and_then (p ts) (λ x rest. mapped (λ ys. x ∷ ys) (times (n - (i + 1)) p rest))
  at_member xs i ts lt = let left : n - i ≡ suc (n - (i + 1)) = omega arith in ap (λ k. times k p ts) left

  -- a member is read
  pub kept_more : (xs : List A) (i : ℕ) (ts : List ℕ) (x : A) (rest : List ℕ) → i < n → Kept p n first xs i ts → p ts ≡ Ok (x, rest) → Kept p n first (xs ++ (x ∷ [])) (i + 1) rest
  kept_more xs i ts x rest lt kept e =
      kept ∙ ap (mapped (λ ys. xs ++ ys)) (at_member xs i ts lt ∙ ap (λ o. and_then o (λ y r. mapped (λ ys. y ∷ ys) (times (n - (i + 1)) p r))) e) ∙ joins xs x (times (n - (i + 1)) p rest)

  fails_at : (xs : List A) (i : ℕ) (ts : List ℕ) (f : Cause × List ℕ) → i < n → Kept p n first xs i ts → p ts ≡ Err f → times n p first ≡ Err f
  fails_at xs i ts f lt kept e = kept ∙ ap (mapped (λ ys. xs ++ ys)) (at_member xs i ts lt ∙ ap (λ o. and_then o (λ y r. mapped (λ ys. y ∷ ys) (times (n - (i + 1)) p r))) e)

  all_at : (xs : List A) (i : ℕ) (ts : List ℕ) → n ≤ i → Kept p n first xs i ts → times n p first ≡ Ok (xs, ts)
  all_at xs i ts le kept = let none : n - i ≡ 0 = omega arith in kept ∙ ap (λ k. mapped (λ ys. xs ++ ys) (times k p ts)) none ∙ ap (λ l. Ok (l, ts)) (append-nil xs)

  module _ (old : List ℕ) (counted : number 18446744073709551615 old ≡ Ok (n, first)) where
    as_times : listed p old ≡ times n p first
    unfolding listed
    as_times = ap (λ o. and_then o (λ k rest. times k p rest)) counted

    -- a member is not read
    pub kept_fails : (xs : List A) (i : ℕ) (ts : List ℕ) → i < n → Kept p n first xs i ts → (why : Stop) (new : List ℕ) → Fails (p ts) why new → Fails (listed p old) why new
    kept_fails xs i ts lt kept stop.Memory new h = tt
    kept_fails xs i ts lt kept stop.Unexpected new h = as_times ∙ fails_at xs i ts _ lt kept h
    kept_fails xs i ts lt kept stop.TooDeep new h = as_times ∙ fails_at xs i ts _ lt kept h

    -- all members are read
    pub kept_all : (xs : List A) (i : ℕ) (ts : List ℕ) → n ≤ i → Kept p n first xs i ts → listed p old ≡ Ok (xs, ts)
    kept_all xs i ts le kept = as_times ∙ all_at xs i ts le kept
