-- A loop over a list's members, beside the definition of the list.
use Rattle.std.proofs.Common.{◌≡◌, Bool, true, false, if◌then◌else◌, ℕ, ◌≤◌, ◌<◌, List, [], ◌∷◌, ◌++◌, length, Ok, Err, refl, sym, ◌∙◌, ap, subst, append_assoc, arith}
use Rattle.first_fault.specs.code.Reading.{Cause, Outcome, Reader, mapped, tail, sees, after_seen, separated}
use Rattle.first_fault.specs.Rules.{Rule}
use Rattle.first_fault.proofs.Exact.{Exact}
use Rattle.first_fault.proofs.Separated.{Moves, others, separated_read, separated_err, read_moves}

-- what the list is, once these members were read
abbrev pub members : {T A : Type 0} → (T → Bool) → Reader T A → List A → Reader T (List A)
members is p xs [] = Ok (xs, [])
members is p xs (t ∷ ts) = if is t then mapped (λ ys. xs ++ ys) (separated is p ts) else Ok (xs, t ∷ ts)

module _ {T A : Type 0} (is : T → Bool) (p : Reader T A) where
  pub first_member : (x : A) (ts : List T) → others is p x ts ≡ members is p (x ∷ []) ts
  first_member x [] = refl
  first_member x (t ∷ ts) = refl

  chosen : (xs : List A) (x : A) (t : T) (ts : List T) (o : Outcome T (List A)) (b : Bool) → mapped (λ ys. xs ++ ys) (let r : Outcome T (List A) = if b then mapped (λ ys. x ∷ ys) o else Ok (x ∷ [], t ∷ ts) in r)
      ≡ (if b then mapped (λ ys. (xs ++ (x ∷ [])) ++ ys) o else Ok (xs ++ (x ∷ []), t ∷ ts))
  chosen xs x t ts (Ok r) true = ap (λ ys. Ok (ys, r.1)) (sym (append_assoc xs (x ∷ []) r.0))
  chosen xs x t ts (Err f) true = refl
  chosen xs x t ts o false = refl

  joins_member : (xs : List A) (x : A) (ts : List T) → mapped (λ ys. xs ++ ys) (others is p x ts) ≡ members is p (xs ++ (x ∷ [])) ts
  joins_member xs x [] = refl
  joins_member xs x (t ∷ ts) = chosen xs x t ts (separated is p ts) (is t)

  at_mark : (xs : List A) (ts : List T) → sees is ts ≡ true → members is p xs ts ≡ mapped (λ ys. xs ++ ys) (separated is p (tail ts))
  at_mark xs [] e = cc
  at_mark xs (t ∷ ts) e = rw e refl

  next_member : (xs : List A) (x : A) (ts rest : List T) → sees is ts ≡ true → separated is p (tail ts) ≡ others is p x rest → members is p xs ts ≡ members is p (xs ++ (x ∷ [])) rest
  next_member xs x ts rest e k = at_mark xs ts e ∙ ap (mapped (λ ys. xs ++ ys)) k ∙ joins_member xs x rest

  next_fault : (xs : List A) (ts : List T) (f : Cause × List T) → sees is ts ≡ true → separated is p (tail ts) ≡ Err f → members is p xs ts ≡ Err f
  next_fault xs ts f e k = at_mark xs ts e ∙ ap (mapped (λ ys. xs ++ ys)) k

  pub last_member : (xs : List A) (ts : List T) → sees is ts ≡ false → members is p xs ts ≡ Ok (xs, ts)
  last_member xs [] e = refl
  last_member xs (t ∷ ts) e = rw e refl

after_mark : {T : Type 0} → (is : T → Bool) (ts new : List T) → sees is ts ≡ true → new ≡ after_seen is ts → new ≡ tail ts
after_mark is ts new e k = k ∙ ap (λ b. if b then tail ts else ts) e

stays : {T : Type 0} → (b : Bool) (t : T) (ts : List T) → length (if b then ts else t ∷ ts) ≤ length (t ∷ ts)
stays true t ts = omega arith
stays false t ts = omega arith

moves_on : {T : Type 0} → (is : T → Bool) (ts : List T) → length (after_seen is ts) ≤ length ts
moves_on is [] = omega arith
moves_on is (t ∷ ts) = stays (is t) t ts

-- ---- what an exact reader does with its member

-- what it reads, and that it takes a token
pub record Steps {T A : Type 0} (is : T → Bool) (p : Reader T A) : Type 0 where
  pub read : (x : A) (ts rest : List T) → p ts ≡ Ok (x, rest) → separated is p ts ≡ others is p x rest
  pub moves : (x : A) (ts rest : List T) → p ts ≡ Ok (x, rest) → length rest < length ts

pub steps : {T A : Type 0} (is : T → Bool) (p : Reader T A) (P : Rule T A) (limit : ℕ) → Moves P → ((ts : List T) → Exact p P limit ts (p ts)) → Steps is p
steps is p P limit moves exact = record {
  read = λ x ts rest e. separated_read p P limit moves is ts rest x (exact ts) e;
  moves = λ x ts rest e. read_moves p P limit moves x ts rest (subst (Exact p P limit ts) e (exact ts));
}

-- ---- the loop

module _ {T A : Type 0} (is : T → Bool) (p : Reader T A) (s : Steps is p) (old : List T) where
  -- the first member is read
  pub starts : (x : A) (rest : List T) → p old ≡ Ok (x, rest) → separated is p old ≡ members is p (x ∷ []) rest
  starts x rest e = s.read x old rest e ∙ first_member is p x rest

module _ {T A : Type 0} (is : T → Bool) (p : Reader T A) (s : Steps is p) (old ts new : List T) (xs : List A) (kept : separated is p old ≡ members is p xs ts) (seen : sees is ts ≡ true) (moved : new ≡ after_seen is ts) where
  -- a further member is read
  pub turn : (x : A) (rest : List T) → p new ≡ Ok (x, rest) → separated is p old ≡ members is p (xs ++ (x ∷ [])) rest
  turn x rest e = kept ∙ next_member is p xs x ts rest seen (subst (λ us. separated is p us ≡ others is p x rest) (after_mark is ts new seen moved) (s.read x new rest e))

  pub turn_smaller : (x : A) (rest : List T) → p new ≡ Ok (x, rest) → length rest < length ts
  turn_smaller x rest e = omega (arith, s.moves x new rest e, moves_on is ts, ap length moved)

  pub turn_fails : (f : Cause × List T) → p new ≡ Err f → separated is p old ≡ Err f
  turn_fails f h = kept ∙ next_fault is p xs ts f seen (separated_err is p (tail ts) f (ap p (sym (after_mark is ts new seen moved)) ∙ h))
