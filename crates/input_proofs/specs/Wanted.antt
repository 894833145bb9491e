-- What is made for some of a step's clauses, those that are wanted.
use Rattle.std.specs.Prelude.{Bool, true, false, List, [], ◌∷◌, Option, Some, None}
use Rattle.clause_form.specs.declared.clause.Clause.{Clause}

-- there is one with the property where the clause is wanted, and else none
abbrev pub IsWanted : {X : Type 0} → (Clause → X → Type 0) → Bool → Clause → Option X → Type 0
IsWanted P true c None = ⊥
IsWanted P true c (Some x) = P c x
IsWanted P false c None = Unit {0}
IsWanted P false c (Some x) = ⊥

-- the same of each clause, at its place
abbrev pub AreWanted : {X : Type 0} → (Clause → X → Type 0) → List Bool → List Clause → List (Option X) → Type 0
AreWanted P [] [] [] = Unit {0}
AreWanted P [] [] (x ∷ made) = ⊥
AreWanted P [] (c ∷ clauses) made = ⊥
AreWanted P (w ∷ wanted) [] made = ⊥
AreWanted P (w ∷ wanted) (c ∷ clauses) [] = ⊥
AreWanted P (w ∷ wanted) (c ∷ clauses) (x ∷ made) = IsWanted P w c x × AreWanted P wanted clauses made
