-- The same as specs/Inputs, of normal forms.
use Rattle.std.specs.Prelude.{ℕ, ◌+◌, ◌≤◌, ◌≡◌, List, [], ◌∷◌, ◌++◌, length, Option, Some, None, true, false}
use Rattle.fof_terms.specs.declared.form.Form.{Form}
use Rattle.fof_terms.specs.Sorts.{is_sorted}
use Rattle.fof_terms.specs.Vocabulary.{Vocabulary}
use Rattle.clause_form.specs.declared.clause.Clause.{Clause}
use Rattle.clause_form.specs.Clauses.{skolemized, clauses_in}
use Rattle.clause_form.specs.Sizes.{norm_size_of}
use Rattle.step_clauses.specs.declared.skolems.Skolem.{Skolem}
use Rattle.step_clauses.specs.declared.clausal.Clausal.{Clausal}
use Rattle.step_clauses.specs.Existentials.{ex_count}
use Rattle.step_clauses.specs.Inputs.{search_input, search_symbols}
use Rattle.step_clauses.specs.Skolems.{skolems_of}
use Rattle.step_clauses.specs.Wide.{is_wide}

-- the clauses of a normal form
abbrev pub norm_clauses : Form → ℕ → List Clause
norm_clauses norm next = clauses_in (skolemized norm next)

abbrev pub clauses_in_turn : ℕ → List Form → List Clause
clauses_in_turn next [] = []
clauses_in_turn next (a ∷ norms) = norm_clauses a next ++ clauses_in_turn (next + ex_count a) norms

abbrev pub symbols_in_turn : ℕ → List Form → List Skolem
symbols_in_turn next [] = []
symbols_in_turn next (a ∷ norms) = skolems_of a next ++ symbols_in_turn (next + ex_count a) norms

-- The normal form may be taken apart, with new symbols from that number on.
pub record IsClausable (next : ℕ) (norm : Form) : Type 0 where
  pub vocabulary : Vocabulary
  pub new : length vocabulary.symbols ≤ next
  pub sorted : is_sorted vocabulary [] norm ≡ true
  pub small : norm_size_of norm ≤ 100000
  pub numbers : next + ex_count norm ≤ 16777216

-- the same of each of some normal forms, the numbers of whose symbols go on
abbrev pub AreClausable : ℕ → List Form → Type 0
AreClausable next [] = Unit {0}
AreClausable next (a ∷ norms) = IsClausable next a × AreClausable (next + ex_count a) norms

-- the clauses of a step that is not wide
abbrev pub IsInput : ℕ → List Form → Form → Option Clausal → Type 0
IsInput next parents line None = is_wide next parents line ≡ true
IsInput next parents line (Some made) =
    (is_wide next parents line ≡ false) × (made.clauses ≡ search_input next parents line) × (made.skolems ≡ search_symbols next parents line)
