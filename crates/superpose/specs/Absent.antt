-- Symbols that stand in no literal of a clause.
use Rattle.std.specs.Prelude.{ℕ, Bool, false, ◌||◌, ◌==◌, ◌≡◌, ◌⊎◌, List}
use Rattle.std.specs.List.{All as Each, list_any}
use Rattle.fof_terms.specs.declared.term.Term.{Term, App}
use Rattle.fof_terms.specs.Occurs.{occurs_in_term}
use Rattle.clause_form.specs.declared.clause.AtomOf.{AtomOf}
use Rattle.clause_form.specs.declared.clause.AtomOf.TheVariants.{Pred, Eq, True, False}
use Rattle.clause_form.specs.declared.clause.Lit.{Lit}
use Rattle.superpose.specs.Drafts.{Draft}

abbrev pub stands_in_atom : ℕ → AtomOf → Bool
stands_in_atom k (Pred p ts) = (p == k) || list_any (occurs_in_term k) ts
stands_in_atom k (Eq s t) = occurs_in_term k s || occurs_in_term k t
stands_in_atom k True = false
stands_in_atom k False = false

-- the symbol stands in none of the literals
abbrev pub AreWithout : ℕ → List Lit → Type 0
AreWithout k lits = Each (λ l. stands_in_atom k l.atom ≡ false) lits

-- the symbol stands in neither of two terms
abbrev pub IsInNeither : ℕ → Term → Term → Type 0
IsInNeither k one other = (occurs_in_term k one ≡ false) × (occurs_in_term k other ≡ false)

-- two terms that are no variables, as those that atoms are read as, have the symbol nowhere below their heads
pub record IsNotBelow (k : ℕ) (one other : Term) : Type 0 where
  pub head : ℕ
  pub args : List Term
  pub other_head : ℕ
  pub other_args : List Term
  pub is : one ≡ App head args
  pub other_is : other ≡ App other_head other_args
  pub absent : Each (λ t. occurs_in_term k t ≡ false) args
  pub other_absent : Each (λ t. occurs_in_term k t ≡ false) other_args

-- the symbol stands neither in what the draft leaves nor in what it makes equal, but perhaps at the heads of atoms
pub record IsNotInDraft (k : ℕ) (f : Draft) : Type 0 where
  pub pair : IsInNeither k f.one f.other ⊎ IsNotBelow k f.one f.other
  pub left : AreWithout k f.left
