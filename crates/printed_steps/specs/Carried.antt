-- Functions that have a number in another vocabulary.
use Rattle.std.specs.Prelude.{ℕ, ◌≡◌, ◌<◌, ◌==◌, Bool, true, false, List, length, Some, slice_get}
use Rattle.std.specs.List.{list_any}
use Rattle.fof_terms.specs.Occurs.{occurs_in_term}
use Rattle.fof_terms.specs.Vocabulary.{Vocabulary}
use Rattle.fof_terms.specs.declared.signature.Symbol.{Symbol}
use Rattle.clause_form.specs.declared.clause.AtomOf.{AtomOf}
use Rattle.clause_form.specs.declared.clause.AtomOf.TheVariants.{Pred, Eq, True, False}
use Rattle.clause_form.specs.declared.clause.Lit.{Lit}
use Rattle.clause_form.specs.declared.clause.Clause.{Clause}
use Rattle.clause_rules.specs.Places.{args_of_atom}
use Rattle.printed_clauses.specs.Trimmed.{occurs_in}

-- The symbol of number f has one of number g beside it in the other vocabulary, of the same kind and the same sorts.
pub record IsCarried (v w : Vocabulary) (f g : ℕ) : Type 0 where
  pub old : Symbol
  pub new : Symbol
  pub there : slice_get v.symbols f ≡ Some old
  pub new_there : slice_get w.symbols g ≡ Some new
  pub kind : old.kind ≡ new.kind
  pub args : old.args ≡ new.args
  pub result : old.result ≡ new.result

-- the function stands in a term of the literals
abbrev pub has_function : List Lit → ℕ → Bool
has_function lits f = list_any (λ (l : Lit). list_any (occurs_in_term f) (args_of_atom l.atom)) lits

-- each function of the clause is carried to its new number
abbrev pub AreCarried : Vocabulary → Vocabulary → (ℕ → ℕ) → Clause → Type 0
AreCarried v w number c = (f : ℕ) → has_function c.lits f ≡ true → IsCarried v w f (number f)

-- the predicate stands at the head of the atom
abbrev pub is_headed_by : ℕ → AtomOf → Bool
is_headed_by p (Pred q ts) = q == p
is_headed_by p (Eq l r) = false
is_headed_by p True = false
is_headed_by p False = false

-- each predicate of the clause is carried, and keeps its number
abbrev pub KeepsPredicates : Vocabulary → Vocabulary → Clause → Type 0
KeepsPredicates v w c = (p : ℕ) → list_any (λ (l : Lit). is_headed_by p l.atom) c.lits ≡ true → IsCarried v w p p

-- each variable that occurs in the clause is one of its own
abbrev pub HasItsVariables : Clause → Type 0
HasItsVariables c = (k : ℕ) → occurs_in c.lits k ≡ true → k < length c.sorts
