-- Finite interpretations, and truth in them (first-order logic over sorts, each with a finite domain). An element is
-- named by its place in the domain of its sort.
use Rattle.std.specs.Prelude.{ℕ, zero, suc, ◌==◌, ◌&&◌, ◌||◌, not, Bool, true, false, List, [], ◌∷◌, length, map, get_or, IsTrue}
use Rattle.std.specs.List.{list_all, list_any}
use Rattle.fof_terms.specs.declared.term.Term.{Term}
use Rattle.fof_terms.specs.declared.term.Term.TheFolds.{fold-Term}
use Rattle.fof_terms.specs.declared.form.Form.{Form}
use Rattle.fof_terms.specs.declared.form.Form.TheFolds.{fold-Form}
use Rattle.fi_model.specs.Sentences.{Text}
use Rattle.fof_terms.specs.declared.term.Term.TheOpen as term
use Rattle.fof_terms.specs.declared.form.Form.TheOpen as form

-- The names of the elements of each sort, and what each symbol gives at elements: a function an element, and a
-- predicate 1 where it holds, and 0 where not.
pub record Interpretation : Type 0 where
  pub domains : List (List Text)
  pub value : ℕ → List ℕ → ℕ

-- how many elements a sort has
abbrev pub size : List (List Text) → ℕ → ℕ
size domains sort = length (get_or domains sort [])

abbrev pub value_step : Interpretation → List ℕ → term.Term-F ℕ → ℕ
value_step m scope (term.Var k) = get_or scope k 0
value_step m scope (term.App f args) = m.value f args

-- the element that a term is, where the variables are these elements, variable 0 first
unfoldable pub value_of : Interpretation → List ℕ → Term → ℕ
value_of m scope = fold-Term ℕ (value_step m scope)

-- each number below n passes the test
abbrev pub all_below : ℕ → (ℕ → Bool) → Bool
all_below zero p = true
all_below (suc n) p = all_below n p && p n

-- some number below n passes the test
abbrev pub some_below : ℕ → (ℕ → Bool) → Bool
some_below zero p = false
some_below (suc n) p = some_below n p || p n

-- both are true, or both are false
abbrev pub is_same : Bool → Bool → Bool
is_same true b = b
is_same false b = not b

abbrev pub truth_step : Interpretation → form.Form-F (List ℕ → Bool) → List ℕ → Bool
truth_step m (form.Atom p args) scope = m.value p (map (value_of m scope) args) == 1
truth_step m (form.Eq l r) scope = value_of m scope l == value_of m scope r
truth_step m (form.Not a) scope = not (a scope)
truth_step m (form.And as_) scope = list_all (λ a. a scope) as_
truth_step m (form.Or as_) scope = list_any (λ a. a scope) as_
truth_step m (form.Imp a b) scope = not (a scope) || b scope
truth_step m (form.Iff a b) scope = is_same (a scope) (b scope)
truth_step m (form.All s a) scope = all_below (size m.domains s) (λ x. a (x ∷ scope))
truth_step m (form.Ex s a) scope = some_below (size m.domains s) (λ x. a (x ∷ scope))

-- the formula is true, where its free variables are these elements, variable 0 first
unfoldable pub is_true : Interpretation → List ℕ → Form → Bool
is_true m scope a = fold-Form (List ℕ → Bool) (truth_step m) a scope

-- the formula is true
abbrev pub True : Interpretation → Form → Type 0
True m a = IsTrue (is_true m [] a)
