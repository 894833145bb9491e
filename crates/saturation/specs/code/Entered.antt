-- Which terms of the members the indexes have.
use Rattle.std.specs.Prelude.{ℕ, Bool, true, false, List, map, ◌≡◌, Some, slice_get}
use Rattle.std.specs.List.{Contains}
use Rattle.fof_terms.specs.declared.term.Term.{Term, App}
use Rattle.clause_form.specs.declared.clause.AtomOf.TheVariants.{Pred}
use Rattle.clause_form.specs.declared.clause.Lit.{Lit}
use Rattle.clause_form.specs.declared.clause.Clause.{Clause}
use Rattle.clause_rules.specs.Places.{lit_term_at}
use Rattle.clause_rules.specs.Steps.{equation}
use Rattle.clause_order.specs.Eligible.{IsEligible, IsNotLess}
use Rattle.clause_index.specs.declared.entry.Entry.{Entry}
use Rattle.clause_index.specs.Entries.{entry_of}
use Rattle.saturation.specs.declared.offers.Offer.{Offer}

-- a property of terms with signs holds of those that inferences use of the literals: of the predicate atoms of eligible
-- ones, ..
abbrev pub HoldsOfAtoms : List Lit → (Bool → Term → Type 0) → Type 0
HoldsOfAtoms lits P = (i : ℕ) (sign : Bool) (p : ℕ) (ts : List Term) → IsEligible lits i
    → slice_get lits i ≡ Some (record { positive = sign; atom = Pred p ts }) → P sign (App p ts)

-- .. of the sides of eligible equations that are not less than the other one, as positive terms, ..
abbrev pub HoldsOfSides : List Lit → (Bool → Term → Type 0) → Type 0
HoldsOfSides lits P = (i : ℕ) (flipped : Bool) (l r : Term) → IsEligible lits i
    → slice_get lits i ≡ Some (equation flipped l r) → IsNotLess l r → P true l

-- .. and of the terms below eligible literals that are no variables, as negative ones
abbrev pub HoldsOfSpots : List Lit → (Bool → Term → Type 0) → Type 0
HoldsOfSpots lits P = (i : ℕ) (place : List ℕ) (k : Lit) (g : ℕ) (args : List Term) → IsEligible lits i
    → slice_get lits i ≡ Some k → lit_term_at place k ≡ Some (App g args) → P false (App g args)

-- the terms of the clause of this number are entries
pub record IsEntered (n : ℕ) (c : Clause) (literals terms : List Entry) : Type 0 where
  pub atoms : HoldsOfAtoms c.lits (λ sign t. Contains literals (entry_of n sign t))
  pub sides : HoldsOfSides c.lits (λ sign t. Contains terms (entry_of n sign t))
  pub spots : HoldsOfSpots c.lits (λ sign t. Contains terms (entry_of n sign t))

-- so for each clause of the list
pub record AreEntered (list : List Clause) (literals terms : List Entry) : Type 0 where
  pub each : (n : ℕ) (c : Clause) → slice_get list n ≡ Some c → IsEntered n c literals terms

-- the entries of what is offered, for this number
abbrev pub entries_of : ℕ → List Offer → List Entry
entries_of n = map (λ (o : Offer). entry_of n o.positive o.term)
