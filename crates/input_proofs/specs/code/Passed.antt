-- What is made of the first formulas of a step, and of the next one.
use Rattle.std.specs.Prelude.{ℕ, ◌≡◌, ◌+◌, ◌≤◌, ◌⊎◌, Bool, true, false, List, [], ◌∷◌, ◌++◌, length, map, take, drop, Option, Some, None, slice_get}
use Rattle.std.specs.List.{list_any}
use Rattle.fof_terms.specs.declared.form.Form.{Form, Imp}
use Rattle.fof_terms.specs.Sorts.{Sorted, SortedTo}
use Rattle.fof_terms.specs.Vocabulary.{Vocabulary}
use Rattle.clause_form.specs.Clauses.{clauses_in}
use Rattle.clause_form.specs.Norm.{norm_of}
use Rattle.clause_form.specs.Sizes.{norm_size_of, clause_count_of}
use Rattle.kernel.specs.Proves.{Proves}
use Rattle.kernel.specs.Statements.{Statements}
use Rattle.kernel.specs.declared.proof.Proof.{Proof}
use Rattle.skolem_proofs.specs.Choosing.{IsWitnessedBy}
use Rattle.skolem_proofs.specs.declared.whole.Skolemized.{Skolemized}
use Rattle.step_clauses.specs.Existentials.{existentials, ex_count}
use Rattle.step_clauses.specs.Skolems.{KnowsFrom, uses_of}
use Rattle.input_proofs.specs.Wanted.{AreWanted}
use Rattle.input_proofs.specs.code.Pending.{IsPending}
use Rattle.input_proofs.specs.declared.forms.Opening.{Opening}
use Rattle.input_proofs.specs.declared.pending.Pending.{Pending}

-- the number of a formula, which is the first behind so many choices if it has none
abbrev pub number_in : Option ℕ → ℕ → ℕ → ℕ
number_in None first choices = first + choices
number_in (Some n) first choices = n

-- The proof shows the second formula wherever the first one stands at the number and the part shows that its normal form
-- implies the second.
abbrev pub IsLinked : Form → ℕ → Proof → Proof → Type 0
IsLinked a n part made =
    (s : Statements) (b : Form) → Sorted s.vocabulary [] a → slice_get s.formulas n ≡ Some a → Proves s [] [] part (Imp (norm_of true a) b) → Proves s [] [] made b

-- Over this vocabulary, which has its functions from number `next` on, the formula may be opened. Of the step's clauses
-- its own are those from `place` on.
pub record MayPass (v : Vocabulary) (a : Form) (next place : ℕ) (wanted : List Bool) : Type 0 where
  pub small : norm_size_of a ≤ 100000
  pub sorted : SortedTo 1000000000 v [] a
  pub knows : KnowsFrom v next (existentials (norm_of true a))
  pub numbers : next + ex_count (norm_of true a) ≤ 16777216
  pub few : clause_count_of (norm_of true a) ≤ 10000
  pub room : place + clause_count_of (norm_of true a) ≤ length wanted

-- a formula with functions is added, with its choices and its clauses, of which these are wanted
pub record IsAdded (number : Option ℕ) (a : Form) (first : ℕ) (made : Skolemized) (own : List Bool) (old new : Opening) : Type 0 where
  pub next : new.next ≡ old.next
  pub choices : new.choices ≡ old.choices ++ made.choices
  pub fact : Proof
  pub facts : new.facts ≡ old.facts ++ fact ∷ []
  pub linked : IsLinked a (number_in number first (length new.choices)) made.proof fact
  pub added : List (Option Pending)
  pub pending : new.pending ≡ old.pending ++ added
  pub are : AreWanted (IsPending (length old.facts) made.form) own (clauses_in made.form) added

-- no clause of a formula is wanted, and nothing is added
pub record IsLeftOut (own : List Bool) (old new : Opening) : Type 0 where
  pub none : list_any (λ w. w) own ≡ false
  pub choices : new.choices ≡ old.choices
  pub facts : new.facts ≡ old.facts
  pub pending : new.pending ≡ old.pending ++ map (λ _. None) own

-- the formula is opened
pub record IsTaken (number : Option ℕ) (a : Form) (first : ℕ) (own : List Bool) (old new : Opening) : Type 0 where
  pub made : Skolemized
  pub by : IsWitnessedBy (uses_of (norm_of true a) old.next) (norm_of true a) (first + length old.choices) made
  pub is : IsAdded number a first made own (record old { next = new.next }) new

-- of the wanted clauses those of the next formula
abbrev pub own_of : Form → List Bool → Opening → List Bool
own_of a wanted old = take (clause_count_of (norm_of true a)) (drop (length old.pending) wanted)

pub record Passes (number : Option ℕ) (a : Form) (first : ℕ) (wanted : List Bool) (old new : Opening) : Type 0 where
  pub next : new.next ≡ old.next + ex_count (norm_of true a)
  pub how : IsLeftOut (own_of a wanted old) old new ⊎ IsTaken number a first (own_of a wanted old) old new
