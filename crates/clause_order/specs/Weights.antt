-- Weights of terms, literals and clauses: how many symbols and variables stand in them, as in the Knuth-Bendix order
-- with all weights 1. They stop at the greatest number of a counter.
use Rattle.std.specs.Prelude.{ℕ, ◌+◌, ◌-◌, ◌^◌, List, [], ◌∷◌, map, sum, min}
use Rattle.fof_terms.specs.declared.term.Term.{Term, App}
use Rattle.fof_terms.specs.Count.{symbol_count}
use Rattle.clause_form.specs.declared.clause.AtomOf.{AtomOf}
use Rattle.clause_form.specs.declared.clause.AtomOf.TheVariants.{Pred, Eq, True, False}
use Rattle.clause_form.specs.declared.clause.Lit.{Lit}
use Rattle.clause_form.specs.declared.clause.Clause.{Clause}

-- the atom as a term: falsehood, truth and equality are heads below every predicate, in this order
abbrev pub as_term : AtomOf → Term
as_term False = App 0 []
as_term True = App 1 []
as_term (Eq s t) = App 2 (s ∷ t ∷ [])
as_term (Pred p ts) = App (p + 3) ts

abbrev pub stopped : ℕ → ℕ
stopped n = min n (2 ^ 64 - 1)

abbrev pub term_weight : Term → ℕ
term_weight t = stopped (symbol_count t)

-- the number of symbols and variables of the literal's atom; an equation has one more than its sides
abbrev pub lit_count : Lit → ℕ
lit_count l = symbol_count (as_term l.atom)

abbrev pub lit_weight : Lit → ℕ
lit_weight l = stopped (lit_count l)

abbrev pub lits_count : List Lit → ℕ
lits_count lits = sum (map lit_count lits)

abbrev pub clause_weight : Clause → ℕ
clause_weight c = stopped (lits_count c.lits)
