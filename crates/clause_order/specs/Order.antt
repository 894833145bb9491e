-- The Knuth-Bendix order of terms, with all weights 1 and symbols ordered by their numbers (Knuth and Bendix, Simple
-- word problems in universal algebras, 1970), and the order of literals by it.
use Rattle.std.specs.Prelude.{ℕ, ◌<◌, ◌≤◌, ◌==◌, if◌then◌else◌, List, ◌∷◌, ◌++◌, ◌≡◌, sum}
use Rattle.fof_terms.specs.declared.term.Term.{Term, App}
use Rattle.fof_terms.specs.declared.term.Term.TheFolds.{fold-Term}
use Rattle.clause_form.specs.declared.clause.Lit.{Lit}
use Rattle.clause_order.specs.Weights.{as_term, stopped, term_weight}
use Rattle.fof_terms.specs.declared.term.Term.TheOpen as term

abbrev pub occurrences_step : ℕ → term.Term-F ℕ → ℕ
occurrences_step x (term.Var k) = if k == x then 1 else 0
occurrences_step x (term.App f counts) = sum counts

-- how often the variable occurs in the term
unfoldable pub occurrences : ℕ → Term → ℕ
occurrences x = fold-Term ℕ (occurrences_step x)

-- every variable occurs in s at least as often as in t, as far as a counter counts
abbrev pub HasVariablesOf : Term → Term → Type 0
HasVariablesOf s t = (x : ℕ) → stopped (occurrences x t) ≤ stopped (occurrences x s)

-- the first term has the variables of the second and the same weight
pub record IsLevel (s t : Term) : Type 0 where
  pub variables : HasVariablesOf s t
  pub weight : term_weight s ≡ term_weight t

-- The first term is greater: it has the variables of the second and is heavier, or it is as heavy and has the greater
-- head, or the same head and at the first argument that differs the greater one.
pub data IsGreater : Term → Term → Type 0 where
  by_weight : (s t : Term) → HasVariablesOf s t → term_weight t < term_weight s → IsGreater s t
  by_head : (f g : ℕ) (ss ts : List Term) → IsLevel (App f ss) (App g ts) → g < f
      → IsGreater (App f ss) (App g ts)
  by_argument : (f : ℕ) (same : List Term) (s t : Term) (ss ts : List Term)
      → IsLevel (App f (same ++ s ∷ ss)) (App f (same ++ t ∷ ts)) → IsGreater s t
      → IsGreater (App f (same ++ s ∷ ss)) (App f (same ++ t ∷ ts))

-- a literal exceeds another where its atom is the greater term
abbrev pub Exceeds : Lit → Lit → Type 0
Exceeds k l = IsGreater (as_term k.atom) (as_term l.atom)
