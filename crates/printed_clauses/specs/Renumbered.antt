-- Clauses over functions that have other numbers.
use Rattle.std.specs.Prelude.{ℕ, nat_lt, ◌-◌, if◌then◌else◌, List, get_or, map}
use Rattle.fof_terms.specs.declared.term.Term.{Term, Var, App}
use Rattle.fof_terms.specs.declared.term.Term.TheFolds.{fold-Term}
use Rattle.fof_terms.specs.declared.term.Term.TheOpen as term
use Rattle.clause_form.specs.declared.clause.Clause.{Clause}
use Rattle.clause_form.specs.Covers.{in_lit}

-- the symbols from the first on have these numbers, and the others keep theirs
abbrev pub new_number : ℕ → List ℕ → ℕ → ℕ
new_number first numbers k = if nat_lt k first then k else get_or numbers (k - first) k

abbrev pub renumbered_step : (ℕ → ℕ) → term.Term-F Term → Term
renumbered_step number (term.Var k) = Var k
renumbered_step number (term.App f args) = App (number f) args

-- the term with a new number for each function
unfoldable pub renumbered : (ℕ → ℕ) → Term → Term
renumbered number = fold-Term Term (renumbered_step number)

-- the same of each term of a clause
abbrev pub renumbered_clause : (ℕ → ℕ) → Clause → Clause
renumbered_clause number c = record { sorts = c.sorts; lits = map (in_lit (renumbered number)) c.lits }
