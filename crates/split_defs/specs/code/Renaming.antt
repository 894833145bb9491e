-- Formulas whose variables get other names.
use Rattle.std.specs.Prelude.{ℕ, ◌+◌, ◌-◌, ◌||◌, ◌&&◌, Bool, nat_lt, nat_eq, if◌then◌else◌, List, map, length, Option}
use Rattle.std.specs.Prelude.{Some, None, position}
use Rattle.std.specs.List.{list_any, list_all}
use Rattle.fof_terms.specs.declared.term.Term.{Term, Var, App}
use Rattle.fof_terms.specs.declared.term.Term.TheFolds.{fold-Term}
use Rattle.fof_terms.specs.declared.form.Form.{Form, Atom, Eq, Not, And, Or, Imp, Iff, All, Ex}
use Rattle.fof_terms.specs.declared.form.Form.TheFolds.{fold-Form}
use Rattle.fof_terms.specs.declared.term.Term.TheOpen as term
use Rattle.fof_terms.specs.declared.form.Form.TheOpen as form

-- the place of an argument, counted from the last
abbrev pub place_in : ℕ → ℕ → Option ℕ → ℕ
place_in n k None = n + k
place_in n k (Some i) = n - 1 - i

-- The new number of a variable: the variables x are the arguments, the last of which is number 0; all others follow.
abbrev pub argument : List ℕ → ℕ → ℕ
argument xs k = place_in (length xs) k (position (nat_eq k) xs)

abbrev pub rename_term_step : List ℕ → ℕ → term.Term-F Term → Term
rename_term_step xs d (term.Var k) = if nat_lt k d then Var k else Var (argument xs (k - d) + d)
rename_term_step xs d (term.App f ts) = App f ts

-- the term with new numbers for its variables, d binders within
unfoldable pub renamed_term : List ℕ → ℕ → Term → Term
renamed_term xs d = fold-Term Term (rename_term_step xs d)

abbrev pub rename_step : List ℕ → form.Form-F (ℕ → Form) → ℕ → Form
rename_step xs (form.Atom p ts) d = Atom p (map (renamed_term xs d) ts)
rename_step xs (form.Eq l r) d = Eq (renamed_term xs d l) (renamed_term xs d r)
rename_step xs (form.Not a) d = Not (a d)
rename_step xs (form.And as_) d = And (map (λ a. a d) as_)
rename_step xs (form.Or as_) d = Or (map (λ a. a d) as_)
rename_step xs (form.Imp a b) d = Imp (a d) (b d)
rename_step xs (form.Iff a b) d = Iff (a d) (b d)
rename_step xs (form.All s a) d = All s (a (d + 1))
rename_step xs (form.Ex s a) d = Ex s (a (d + 1))

-- the formula with new numbers for its variables, d binders within
unfoldable pub renamed : List ℕ → ℕ → Form → Form
renamed xs d a = fold-Form (ℕ → Form) (rename_step xs) a d

abbrev pub speaks_term_step : List ℕ → ℕ → term.Term-F Bool → Bool
speaks_term_step xs d (term.Var k) = nat_lt k d || list_any (nat_eq (k - d)) xs
speaks_term_step xs d (term.App f ts) = list_all (λ b. b) ts

-- the free variables of the term are among these, d binders within
unfoldable pub speaks_in_term : List ℕ → ℕ → Term → Bool
speaks_in_term xs d = fold-Term Bool (speaks_term_step xs d)

abbrev pub speaks_step : List ℕ → form.Form-F (ℕ → Bool) → ℕ → Bool
speaks_step xs (form.Atom p ts) d = list_all (speaks_in_term xs d) ts
speaks_step xs (form.Eq l r) d = speaks_in_term xs d l && speaks_in_term xs d r
speaks_step xs (form.Not a) d = a d
speaks_step xs (form.And as_) d = list_all (λ a. a d) as_
speaks_step xs (form.Or as_) d = list_all (λ a. a d) as_
speaks_step xs (form.Imp a b) d = a d && b d
speaks_step xs (form.Iff a b) d = a d && b d
speaks_step xs (form.All s a) d = a (d + 1)
speaks_step xs (form.Ex s a) d = a (d + 1)

-- the free variables of the formula are among these, d binders within
unfoldable pub speaks : List ℕ → ℕ → Form → Bool
speaks xs d a = fold-Form (ℕ → Bool) (speaks_step xs) a d
