-- The clauses of a step: those of its parents, in order, and then those of the negation of its line. The numbers of new
-- symbols go on from each formula to the next.
use Rattle.std.specs.Prelude.{ℕ, ◌+◌, List, [], ◌∷◌, ◌++◌, true}
use Rattle.fof_terms.specs.declared.form.Form.{Form, Not}
use Rattle.clause_form.specs.declared.clause.Clause.{Clause}
use Rattle.clause_form.specs.Clauses.{clauses_of}
use Rattle.clause_form.specs.Norm.{norm_of}
use Rattle.step_clauses.specs.declared.skolems.Skolem.{Skolem}
use Rattle.step_clauses.specs.Existentials.{ex_count}
use Rattle.step_clauses.specs.Skolems.{skolems_of}

-- the first number behind those of the formula's new symbols
abbrev pub next_behind : ℕ → Form → ℕ
next_behind next a = next + ex_count (norm_of true a)

abbrev pub clauses_from : ℕ → List Form → List Clause
clauses_from next [] = []
clauses_from next (a ∷ forms) = clauses_of a next ++ clauses_from (next_behind next a) forms

abbrev pub new_symbols_from : ℕ → List Form → List Skolem
new_symbols_from next [] = []
new_symbols_from next (a ∷ forms) = skolems_of (norm_of true a) next ++ new_symbols_from (next_behind next a) forms

-- the parents, and the negation of the line
abbrev pub step_forms : List Form → Form → List Form
step_forms parents line = parents ++ Not line ∷ []

-- the clauses of the step, with new symbols from that number on
abbrev pub search_input : ℕ → List Form → Form → List Clause
search_input next parents line = clauses_from next (step_forms parents line)

abbrev pub search_symbols : ℕ → List Form → Form → List Skolem
search_symbols next parents line = new_symbols_from next (step_forms parents line)
