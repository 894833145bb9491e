-- Clauses without the sorts whose variables occur in none of their literals. The other variables keep their order.
use Rattle.std.specs.Prelude.{ℕ, zero, suc, ◌+◌, Bool, if◌then◌else◌, List, [], ◌∷◌, ◌++◌, length, map}
use Rattle.std.specs.List.{list_any}
use Rattle.fof_terms.specs.declared.term.Term.{Term, Var}
use Rattle.fof_terms.specs.Variables.{has_in_term}
use Rattle.clause_form.specs.declared.clause.AtomOf.{AtomOf}
use Rattle.clause_form.specs.declared.clause.AtomOf.TheVariants.{Pred, Eq, True, False}
use Rattle.clause_form.specs.declared.clause.Lit.{Lit}
use Rattle.clause_form.specs.declared.clause.Clause.{Clause}
use Rattle.clause_form.specs.Covers.{in_lit}
use Rattle.unify_terms.specs.Substitution.{instance}

abbrev pub has_in_atom : ℕ → AtomOf → Bool
has_in_atom k (Pred p ts) = list_any (has_in_term k) ts
has_in_atom k (Eq s t) = list_any (has_in_term k) (s ∷ t ∷ [])
has_in_atom k True = list_any (has_in_term k) []
has_in_atom k False = list_any (has_in_term k) []

-- the variable occurs in the clause
abbrev pub occurs_in : List Lit → ℕ → Bool
occurs_in lits k = list_any (λ (l : Lit). has_in_atom k l.atom) lits

-- how many of the variables below d occur
abbrev pub count_below : (ℕ → Bool) → ℕ → ℕ
count_below occurs zero = 0
count_below occurs (suc d) = count_below occurs d + (if occurs d then 1 else 0)

-- the variables below d, each with its new number: that of the variables below it that occur
abbrev pub new_variables : (ℕ → Bool) → ℕ → List Term
new_variables occurs zero = []
new_variables occurs (suc d) = new_variables occurs d ++ Var (count_below occurs d) ∷ []

-- the sorts of the variables that occur; the last sort is that of variable 0
abbrev pub kept_sorts : (ℕ → Bool) → List ℕ → List ℕ
kept_sorts occurs [] = []
kept_sorts occurs (s ∷ inner) = if occurs (length inner) then s ∷ kept_sorts occurs inner else kept_sorts occurs inner

-- the clause without the other sorts
abbrev pub trimmed : Clause → Clause
trimmed c = record { sorts = kept_sorts (occurs_in c.lits) c.sorts; lits = map (in_lit (instance (new_variables (occurs_in c.lits) (length c.sorts)))) c.lits }
