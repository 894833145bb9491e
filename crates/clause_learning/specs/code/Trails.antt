-- The trail: the literals that are held true, each freely or by a clause whose other literals fail before it.
use Rattle.std.specs.Prelude.{◌≡◌, ◌≢◌, ◌<◌, ◌++◌, ◌∷◌, [], ℕ, List, Option, Some, None, not, map, length, reverse, replicate, set, slice_get, slice_index_or}
use Rattle.std.specs.List.{Contains}
use Rattle.clause_learning.specs.declared.literal.Literal.{Literal}
use Rattle.clause_learning.specs.declared.trail.Value.{Value}
use Rattle.clause_learning.specs.declared.trail.Step.{Step}
use Rattle.clause_learning.specs.declared.trail.Trail.{Trail}
use Rattle.clause_learning.specs.declared.clauses.Clauses.{Clauses}

-- the literals of each clause, in the order of the numbers
abbrev pub clauses_of : Clauses → List (List Literal)
clauses_of c = c.inputs ++ map (λ l. l.lits) c.log

-- the value of an atom
abbrev pub value_at : List (Option Value) → ℕ → Option Value
value_at values a = slice_index_or values a None

-- the literal is false
abbrev pub Fails : List (Option Value) → Literal → Type 0
Fails values l = (p : ℕ) × (value_at values l.atom ≡ Some (record { positive = not l.positive; place = p }))

-- each literal of the clause is false
abbrev pub AllFail : List (Option Value) → List Literal → Type 0
AllFail values c = (x : Literal) → Contains c x → Fails values x

-- the clause of this number is false
abbrev pub IsConflict : List (List Literal) → List (Option Value) → ℕ → Type 0
IsConflict clauses values k = (c : List Literal) × (slice_get clauses k ≡ Some c) × AllFail values c

-- the clause has l, and its other literals are false
pub record IsReason (clause : List Literal) (l : Literal) (values : List (Option Value)) : Type 0 where
  pub has : Contains clause l
  pub others : (x : Literal) → Contains clause x → x ≢ l → Fails values x

-- the clause of this number, where there is one, is a reason
abbrev pub IsJustified : List (List Literal) → Option ℕ → Literal → List (Option Value) → Type 0
IsJustified clauses None l values = Unit {0}
IsJustified clauses (Some r) l values = (c : List Literal) × (slice_get clauses r ≡ Some c) × IsReason c l values

-- the atom of the step has its sign and place; its reason held without it
pub record IsStep (clauses : List (List Literal)) (s : Step) (place : ℕ) (values : List (Option Value)) : Type 0 where
  pub within : s.literal.atom < length values
  pub value : value_at values s.literal.atom ≡ Some (record { positive = s.literal.positive; place = place })
  pub reason : IsJustified clauses s.reason s.literal (set values s.literal.atom None)

-- the steps, the last first, give the atoms these values
abbrev pub Gives : List (List Literal) → List Step → List (Option Value) → Type 0
Gives clauses [] values = (a : ℕ) → value_at values a ≡ None
Gives clauses (s ∷ older) values = IsStep clauses s (length older) values × Gives clauses older (set values s.literal.atom None)

-- the steps give the atoms their values
abbrev pub IsTrail : List (List Literal) → Trail → Type 0
IsTrail clauses t = Gives clauses (reverse t.steps) t.values

-- no step, and no atom has a value
pub record IsFresh (atoms : ℕ) (t : Trail) : Type 0 where
  pub steps : t.steps ≡ []
  pub values : t.values ≡ replicate atoms None

-- one step more
pub record IsPushed (old : Trail) (l : Literal) (reason : Option ℕ) (new : Trail) : Type 0 where
  pub steps : new.steps ≡ old.steps ++ record { literal = l; reason = reason } ∷ []
  pub values : new.values ≡ set old.values l.atom (Some (record { positive = l.positive; place = length old.steps }))

-- the last step is gone
pub record IsUndone (old new : Trail) (s : Step) : Type 0 where
  pub steps : old.steps ≡ new.steps ++ s ∷ []
  pub values : new.values ≡ set old.values s.literal.atom None

-- there is no step, and nothing changes
pub record IsEmptyBoth (old new : Trail) : Type 0 where
  pub steps : old.steps ≡ []
  pub same : new ≡ old
