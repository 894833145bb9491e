-- Sorts of terms, and well-sorted formulas. A scope has the sorts of the variables, that of variable 0 first.
use Rattle.std.specs.Prelude.{ℕ, ◌≡◌, ◌+◌, ◌<◌, ◌≤◌, ◌==◌, nat_lt, max, Bool, true, false, ◌&&◌, List, [], ◌∷◌, length}
use Rattle.std.specs.Prelude.{map, slice_get, Option, Some, None}
use Rattle.std.specs.List.{list_all, AllByRecursion}
use Rattle.fof_terms.specs.Lift.{greatest}
use Rattle.fof_terms.specs.Vocabulary.{Vocabulary}
use Rattle.fof_terms.specs.declared.signature.Symbol.{Symbol}
use Rattle.fof_terms.specs.declared.signature.Kind.{Kind}
use Rattle.fof_terms.specs.declared.signature.Kind.TheVariants.{Function, Predicate}
use Rattle.fof_terms.specs.declared.term.Term.{Term, Var, App}
use Rattle.fof_terms.specs.declared.term.Term.TheFolds.{fold-Term}
use Rattle.fof_terms.specs.declared.form.Form.{Form, Atom, Eq, Not, And, Or, Imp, Iff, All, Ex}
use Rattle.fof_terms.specs.declared.form.Form.TheFolds.{fold-Form}
use Rattle.fof_terms.specs.declared.term.Term.TheOpen as term
use Rattle.fof_terms.specs.declared.form.Form.TheOpen as form

-- the answer is this sort
abbrev pub is_sort : Option ℕ → ℕ → Bool
is_sort None s = false
is_sort (Some r) s = r == s

-- each answer is the sort at its place
abbrev pub are_sorts : List (Option ℕ) → List ℕ → Bool
are_sorts [] [] = true
are_sorts [] (s ∷ sorts) = false
are_sorts (r ∷ found) [] = false
are_sorts (r ∷ found) (s ∷ sorts) = is_sort r s && are_sorts found sorts

-- both answers are one sort
abbrev pub one_sort : Option ℕ → Option ℕ → Bool
one_sort r None = false
one_sort r (Some s) = is_sort r s

-- what a symbol of that kind makes of arguments that fit or not: a function its result
abbrev pub made_by : Kind → Bool → ℕ → Option ℕ
made_by Function true result = Some result
made_by Function false result = None
made_by Predicate fits result = None

-- the result of a function at arguments of these sorts
abbrev pub applied : Option Symbol → List (Option ℕ) → Option ℕ
applied None found = None
applied (Some s) found = made_by s.kind (are_sorts found s.args) s.result

-- the symbol is a predicate and the arguments fit
abbrev pub stated_by : Kind → Bool → Bool
stated_by Function fits = false
stated_by Predicate fits = fits

-- the symbol is a predicate over arguments of these sorts
abbrev pub holds_of : Option Symbol → List (Option ℕ) → Bool
holds_of None found = false
holds_of (Some s) found = stated_by s.kind (are_sorts found s.args)

abbrev pub sort_step : Vocabulary → List ℕ → term.Term-F (Option ℕ) → Option ℕ
sort_step v scope (term.Var k) = slice_get scope k
sort_step v scope (term.App f found) = applied (slice_get v.symbols f) found

-- the sort of a term, if it is well-sorted
unfoldable pub sort_of_term : Vocabulary → List ℕ → Term → Option ℕ
sort_of_term v scope = fold-Term (Option ℕ) (sort_step v scope)

abbrev pub sorted_step : Vocabulary → form.Form-F (List ℕ → Bool) → List ℕ → Bool
sorted_step v (form.Atom p args) scope = holds_of (slice_get v.symbols p) (map (sort_of_term v scope) args)
sorted_step v (form.Eq l r) scope = one_sort (sort_of_term v scope l) (sort_of_term v scope r)
sorted_step v (form.Not a) scope = a scope
sorted_step v (form.And as_) scope = list_all (λ a. a scope) as_
sorted_step v (form.Or as_) scope = list_all (λ a. a scope) as_
sorted_step v (form.Imp a b) scope = a scope && b scope
sorted_step v (form.Iff a b) scope = a scope && b scope
sorted_step v (form.All s a) scope = nat_lt s (length v.sorts) && a (s ∷ scope)
sorted_step v (form.Ex s a) scope = nat_lt s (length v.sorts) && a (s ∷ scope)

-- the symbols, the sorts and the variables of the formula fit
unfoldable pub is_sorted : Vocabulary → List ℕ → Form → Bool
is_sorted v scope a = fold-Form (List ℕ → Bool) (sorted_step v) a scope

abbrev pub depth_step : form.Form-F ℕ → ℕ
depth_step (form.Atom p args) = 0
depth_step (form.Eq l r) = 0
depth_step (form.Not a) = a
depth_step (form.And as_) = greatest as_
depth_step (form.Or as_) = greatest as_
depth_step (form.Imp a b) = max a b
depth_step (form.Iff a b) = max a b
depth_step (form.All s a) = a + 1
depth_step (form.Ex s a) = a + 1

-- how many binders stand inside each other
unfoldable pub binder_depth : Form → ℕ
binder_depth = fold-Form ℕ depth_step

-- the sorts of a scope are there, and they are not too many
pub record IsScope (v : Vocabulary) (scope : List ℕ) : Type 0 where
  pub few_variables : length scope ≤ 2147483647
  pub sorts_exist : AllByRecursion (λ s. s < length v.sorts) scope

-- the formula is well-sorted over the scope, with at most so many binders inside each other
pub record SortedTo (depth : ℕ) (v : Vocabulary) (scope : List ℕ) (a : Form) : Type 0 where
  pub scope_fits : IsScope v scope
  pub few_binders : binder_depth a ≤ depth
  pub fits : is_sorted v scope a ≡ true

-- the formula is well-sorted over the scope
abbrev pub Sorted : Vocabulary → List ℕ → Form → Type 0
Sorted = SortedTo 2147483647
