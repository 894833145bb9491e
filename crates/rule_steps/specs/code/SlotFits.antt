-- Clauses that fit, where there is one.
use Rattle.std.specs.Prelude.{ℕ, ◌≡◌, List, Option, Some, slice_get}
use Rattle.fof_terms.specs.Vocabulary.{Vocabulary}
use Rattle.clause_form.specs.declared.clause.Clause.{Clause}
use Rattle.clause_rules.specs.Settled.{IsFit}

-- the clause fits, if it is there
abbrev pub IsSlotFit : Vocabulary → Option Clause → Type 0
IsSlotFit v slot = (c : Clause) → slot ≡ Some c → IsFit v c

-- the clauses that are there fit
abbrev pub AllFit : Vocabulary → List (Option Clause) → Type 0
AllFit v clauses = (a : ℕ) (slot : Option Clause) → slice_get clauses a ≡ Some slot → IsSlotFit v slot
