-- Formulas whose free variables get new numbers. Bound ones keep theirs.
use Rattle.std.specs.Prelude.{ℕ, ◌+◌, ◌-◌, nat_lt, if◌then◌else◌, map}
use Rattle.fof_terms.specs.declared.term.Term.{Term, Var, App}
use Rattle.fof_terms.specs.declared.term.Term.TheFolds.{fold-Term}
use Rattle.fof_terms.specs.declared.form.Form.{Form, Atom, Eq, Not, And, Or, Imp, Iff, All, Ex}
use Rattle.fof_terms.specs.declared.form.Form.TheFolds.{fold-Form}
use Rattle.fof_terms.specs.declared.term.Term.TheOpen as term
use Rattle.fof_terms.specs.declared.form.Form.TheOpen as form

abbrev pub renumber_term_step : (ℕ → ℕ) → ℕ → term.Term-F Term → Term
renumber_term_step new d (term.Var k) = if nat_lt k d then Var k else Var (new (k - d) + d)
renumber_term_step new d (term.App f ts) = App f ts

-- the term with its free variables renumbered, d binders within
unfoldable pub renumbered_term : (ℕ → ℕ) → ℕ → Term → Term
renumbered_term new d = fold-Term Term (renumber_term_step new d)

abbrev pub renumber_step : (ℕ → ℕ) → form.Form-F (ℕ → Form) → ℕ → Form
renumber_step new (form.Atom p ts) d = Atom p (map (renumbered_term new d) ts)
renumber_step new (form.Eq l r) d = Eq (renumbered_term new d l) (renumbered_term new d r)
renumber_step new (form.Not a) d = Not (a d)
renumber_step new (form.And as_) d = And (map (λ a. a d) as_)
renumber_step new (form.Or as_) d = Or (map (λ a. a d) as_)
renumber_step new (form.Imp a b) d = Imp (a d) (b d)
renumber_step new (form.Iff a b) d = Iff (a d) (b d)
renumber_step new (form.All s a) d = All s (a (d + 1))
renumber_step new (form.Ex s a) d = Ex s (a (d + 1))

-- the formula with its free variables renumbered, d binders within
unfoldable pub renumbered : (ℕ → ℕ) → ℕ → Form → Form
renumbered new d a = fold-Form (ℕ → Form) (renumber_step new) a d
