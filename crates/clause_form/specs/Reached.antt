-- What a path reaches, kind by kind, and what the clause that it reaches has of the formula.
use Rattle.std.specs.Prelude.{ℕ, ◌+◌, ◌≡◌, ◌<◌, ◌≤◌, true, List, [], ◌∷◌, length}
use Rattle.std.specs.List.{AllByRecursion}
use Rattle.fof_terms.specs.Vocabulary.{Vocabulary}
use Rattle.fof_terms.specs.Sorts.{is_sorted}
use Rattle.fof_terms.specs.declared.form.Form.{Form}
use Rattle.clause_form.specs.declared.clause.Clause.{Clause}
use Rattle.clause_form.specs.ClauseView.{form_of_lits}
use Rattle.clause_form.specs.Sizes.{norm_size_of}

-- the scope within quantifiers of these sorts, the first outermost
abbrev pub around : List ℕ → List ℕ → List ℕ
around [] scope = scope
around (s ∷ sorts) scope = around sorts (s ∷ scope)

-- Each clause is well-sorted over its variables and then those of the scope.
abbrev pub FitOver : Vocabulary → List ℕ → List Clause → Type 0
FitOver w scope = AllByRecursion (λ (c : Clause). is_sorted w (around c.sorts scope) (form_of_lits c.lits) ≡ true)

-- what the clause that is reached in a formula has of the formula
pub record Suits (a : Form) (c : Clause) : Type 0 where
  pub small : length c.sorts + length c.lits ≤ norm_size_of a
  pub sorts : (w : Vocabulary) (v : List ℕ) → is_sorted w v a ≡ true → AllByRecursion (λ s. s < length w.sorts) c.sorts
  pub fits : (w : Vocabulary) (v : List ℕ) → is_sorted w v a ≡ true → is_sorted w (around c.sorts v) (form_of_lits c.lits) ≡ true

-- each of the clauses of the formula at its place
abbrev pub EachSuits : List Form → List Clause → Type 0
EachSuits [] [] = Unit {0}
EachSuits [] (c ∷ cs) = ⊥
EachSuits (a ∷ as_) [] = ⊥
EachSuits (a ∷ as_) (c ∷ cs) = Suits a c × EachSuits as_ cs
