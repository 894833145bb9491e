-- How many elements of a list pass a test before the first that does not.
use Rattle.std.proofs.Common.{◌≡◌, ℕ, zero, suc, ◌+◌, ◌<◌, ◌≤◌, Bool, true, false, not, List, [], ◌∷◌, ◌++◌, length, get_or, take, if◌then◌else◌, refl, arith}
use Rattle.std.proofs.lemmas.Bool.{and_parts, and_from}
use Rattle.std.specs.List.{list_all, prefix_len}

pub stops_at : (p : ℕ → Bool) (z : List ℕ) (k : ℕ) → k < length z → ((j : ℕ) → j < k → p (get_or z j 0) ≡ true) → p (get_or z k 0) ≡ false → k ≡ prefix_len p z
stops_at p [] k lt h e = absurd (omega arith)
stops_at p (b ∷ z) zero lt h e = let no : p b ≡ false = e in rw no refl
stops_at p (b ∷ z) (suc k) lt h e =
    let yes : p b ≡ true = h 0 (omega arith) in
    let rest = stops_at p z k (omega arith) (λ j lt. h (suc j) (omega arith)) e in
    rw yes (omega arith)

pub goes_through : (p : ℕ → Bool) (z : List ℕ) → ((j : ℕ) → j < length z → p (get_or z j 0) ≡ true) → length z ≡ prefix_len p z
goes_through p [] h = refl
goes_through p (b ∷ z) h =
    let yes : p b ≡ true = h 0 (omega arith) in
    let rest = goes_through p z (λ j lt. h (suc j) (omega arith)) in
    rw yes (omega arith)

prefix_by : (p : ℕ → Bool) (b : ℕ) (z : List ℕ) (t : Bool) → p b ≡ t → list_all p (take (prefix_len p z) z) ≡ true → list_all p (take (if t then 1 + prefix_len p z else 0) (b ∷ z)) ≡ true
prefix_by p b z true e h = let n : 1 + prefix_len p z ≡ suc (prefix_len p z) = omega arith in rw n (and_from (p b) (list_all p (take (prefix_len p z) z)) e h)
prefix_by p b z false e h = refl

pub prefix_passes : (p : ℕ → Bool) (z : List ℕ) → list_all p (take (prefix_len p z) z) ≡ true
prefix_passes p [] = refl
prefix_passes p (b ∷ z) = prefix_by p b z (p b) refl (prefix_passes p z)

-- what passes is no longer
pub passes_most : (p : ℕ → Bool) (bs rest : List ℕ) → list_all p bs ≡ true → length bs ≤ prefix_len p (bs ++ rest)
passes_most p [] rest h = omega arith
passes_most p (b ∷ bs) rest h =
    let parts = and_parts (p b) (list_all p bs) h in
    let more = passes_most p bs rest parts.1 in
    rw (parts.0) (omega arith)

-- the first element, if there is one, does not pass
abbrev pub Stops : (ℕ → Bool) → List ℕ → Type 0
Stops p [] = Unit {0}
Stops p (b ∷ bs) = p b ≡ false

-- what passes is all where what follows does not pass
pub passes_all : (p : ℕ → Bool) (bs rest : List ℕ) → list_all p bs ≡ true → Stops p rest → prefix_len p (bs ++ rest) ≡ length bs
passes_all p [] [] h stops = refl
passes_all p [] (b ∷ rest) h stops = let no : p b ≡ false = stops in rw no refl
passes_all p (b ∷ bs) rest h stops =
    let parts = and_parts (p b) (list_all p bs) h in
    let more = passes_all p bs rest parts.1 stops in
    rw (parts.0) (omega arith)

pub not_true : (b : Bool) → (b ≡ true → ⊥) → not b ≡ true
not_true true h = absurd (h refl)
not_true false h = refl

-- one list is the beginning of another
pub same_front : (s t rest after : List ℕ) → s ++ rest ≡ t ++ after → length s ≡ length t → (s ≡ t) × (rest ≡ after)
same_front [] [] rest after e l = (refl, e)
same_front [] (y ∷ t) rest after e l = absurd (omega arith)
same_front (x ∷ s) [] rest after e l = absurd (omega arith)
same_front (x ∷ s) (y ∷ t) rest after e l =
    let tails : s ++ rest ≡ t ++ after = cc in
    let heads : x ≡ y = cc in
    let same = same_front s t rest after tails (omega arith) in
    let front : s ≡ t = same.0 in (cc, same.1)
