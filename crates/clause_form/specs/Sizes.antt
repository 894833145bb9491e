-- How large a normal form can be, and how many clauses it stands for.
use Rattle.std.specs.Prelude.{ℕ, ◌+◌, ◌*◌, List, [], ◌∷◌, sum}
use Rattle.fof_terms.specs.declared.form.Form.{Form, Atom, Eq, Not, And, Or, Imp, Iff, All, Ex}
use Rattle.fof_terms.specs.declared.form.Form.TheFolds.{fold-Form}
use Rattle.fof_terms.specs.declared.form.Form.TheOpen as form

-- a literal is one node; an equivalence has both signs of both sides, in three nodes
abbrev pub norm_size_step : form.Form-F ℕ → ℕ
norm_size_step (form.Atom p ts) = 1
norm_size_step (form.Eq l r) = 1
norm_size_step (form.Not a) = a
norm_size_step (form.And sizes) = 1 + sum sizes
norm_size_step (form.Or sizes) = 1 + sum sizes
norm_size_step (form.Imp a b) = 1 + (a + b)
norm_size_step (form.Iff a b) = 3 + 2 * (a + b)
norm_size_step (form.All s a) = 1 + a
norm_size_step (form.Ex s a) = 1 + a

-- the greatest number of nodes that the normal form can have; it is the same for the negation
unfoldable pub norm_size_of : Form → ℕ
norm_size_of = fold-Form ℕ norm_size_step

-- the product of numbers
abbrev pub product : List ℕ → ℕ
product [] = 1
product (n ∷ ns) = n * product ns

-- a literal is one clause; a conjunction has the clauses of its members, a disjunction one for each choice of them
abbrev pub clause_count_step : form.Form-F ℕ → ℕ
clause_count_step (form.Atom p ts) = 1
clause_count_step (form.Eq l r) = 1
clause_count_step (form.Not a) = 1
clause_count_step (form.And counts) = sum counts
clause_count_step (form.Or counts) = product counts
clause_count_step (form.Imp a b) = 1
clause_count_step (form.Iff a b) = 1
clause_count_step (form.All s a) = a
clause_count_step (form.Ex s a) = a

-- the number of clauses of a normal form
unfoldable pub clause_count_of : Form → ℕ
clause_count_of = fold-Form ℕ clause_count_step
