-- Formulas over the arguments of a function: the variables that it is applied to become the last of its arguments' own.
use Rattle.std.specs.Prelude.{ℕ, ◌+◌, ◌-◌, ◌==◌, nat_lt, if◌then◌else◌, List, [], ◌∷◌, length, map}
use Rattle.fof_terms.specs.declared.term.Term.{Term, Var, App}
use Rattle.fof_terms.specs.declared.term.Term.TheFolds.{fold-Term}
use Rattle.fof_terms.specs.declared.form.Form.{Form, Atom, Eq, Not, And, Or, Imp, Iff, All, Ex}
use Rattle.fof_terms.specs.declared.form.Form.TheFolds.{fold-Form}
use Rattle.fof_terms.specs.declared.term.Term.TheOpen as term
use Rattle.fof_terms.specs.declared.form.Form.TheOpen as form

-- the number of the variable among the arguments, the last of which is variable 0
abbrev pub place_of : List ℕ → ℕ → ℕ
place_of [] k = 0
place_of (x ∷ xs) k = if x == k then length xs else place_of xs k

abbrev pub renamed_term_step : List ℕ → ℕ → term.Term-F Term → Term
renamed_term_step xs depth (term.Var k) = if nat_lt k depth then Var k else Var (place_of xs (k - depth) + depth)
renamed_term_step xs depth (term.App f args) = App f args

-- the term, under so many quantifiers, with the arguments' own variables
unfoldable pub renamed_term : List ℕ → ℕ → Term → Term
renamed_term xs depth = fold-Term Term (renamed_term_step xs depth)

abbrev pub renamed_step : List ℕ → form.Form-F (ℕ → Form) → ℕ → Form
renamed_step xs (form.Atom p args) depth = Atom p (map (renamed_term xs depth) args)
renamed_step xs (form.Eq a b) depth = Eq (renamed_term xs depth a) (renamed_term xs depth b)
renamed_step xs (form.Not a) depth = Not (a depth)
renamed_step xs (form.And as_) depth = And (map (λ a. a depth) as_)
renamed_step xs (form.Or as_) depth = Or (map (λ a. a depth) as_)
renamed_step xs (form.Imp a b) depth = Imp (a depth) (b depth)
renamed_step xs (form.Iff a b) depth = Iff (a depth) (b depth)
renamed_step xs (form.All s a) depth = All s (a (depth + 1))
renamed_step xs (form.Ex s a) depth = Ex s (a (depth + 1))

-- the formula, under so many quantifiers, with the arguments' own variables
unfoldable pub renamed : List ℕ → ℕ → Form → Form
renamed xs depth a = fold-Form (ℕ → Form) (renamed_step xs) a depth
