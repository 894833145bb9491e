-- Refutations by resolution, over literals of any kind, each of which has an opposite.
use Rattle.std.specs.Prelude.{◌≡◌, ◌≢◌, ◌⊎◌, ◌↔◌, ◌++◌, ◌∷◌, [], ℕ, List, Some, slice_get}
use Rattle.std.specs.List.{Contains}

-- the two clauses have the same literals
abbrev pub HasSame : {X : Type 0} → List X → List X → Type 0
HasSame {X} p r = (x : X) → Contains r x ↔ Contains p x

-- l is the one literal of p whose opposite q has; r has the others of p and of q, and no more
pub record IsResolvent {X : Type 0} (opposite : X → X) (l : X) (p q r : List X) : Type 0 where
  pub first : Contains p l
  pub second : Contains q (opposite l)
  pub alone : (x : X) → Contains p x → Contains q (opposite x) → x ≡ l
  pub literals : (x : X) → Contains r x ↔ ((Contains p x × (x ≢ l)) ⊎ (Contains q x × (x ≢ opposite l)))

-- p, resolved with the clauses of these numbers one after another, gives r
abbrev pub Resolves : {X : Type 0} → (X → X) → List (List X) → List X → List ℕ → List X → Type 0
Resolves opposite clauses p [] r = HasSame p r
Resolves {X} opposite clauses p (k ∷ from) r = (l : X) × (q : List X) × (s : List X)
    × (slice_get clauses k ≡ Some q) × IsResolvent opposite l p q s × Resolves opposite clauses s from r

-- the clause of the first number, resolved with those of the others one after another, gives r
abbrev pub IsDerived : {X : Type 0} → (X → X) → List (List X) → List ℕ → List X → Type 0
IsDerived opposite clauses [] r = ⊥
IsDerived {X} opposite clauses (k ∷ from) r = (p : List X) × (slice_get clauses k ≡ Some p)
    × Resolves opposite clauses p from r

-- a clause of a log: the numbers of those from which it was made, and its literals
pub record Entry (X : Type 0) : Type 0 where
  pub from : List ℕ
  pub lits : List X

-- each clause of the log is made from those before it, the given ones first
abbrev pub IsLog : {X : Type 0} → (X → X) → List (List X) → List (Entry X) → Type 0
IsLog opposite clauses [] = Unit {0}
IsLog opposite clauses (e ∷ log) = IsDerived opposite clauses e.from e.lits × IsLog opposite (clauses ++ e.lits ∷ []) log

-- a log whose last clause has no literal
pub record IsRefutation {X : Type 0} (opposite : X → X) (clauses : List (List X)) (log : List (Entry X)) : Type 0 where
  pub steps : IsLog opposite clauses log
  pub before : List (Entry X)
  pub from : List ℕ
  pub last : log ≡ before ++ record { from = from; lits = [] } ∷ []
