-- Which term stands in one formula where a variable stands in another of the same build.
use Rattle.std.specs.Prelude.{ℕ, ◌==◌, ◌-◌, nat_lt, if◌then◌else◌, List, [], ◌∷◌, map, Option, Some, None}
use Rattle.std.specs.Option.{option_map}
use Rattle.fof_terms.specs.declared.term.Term.{Term, Var, App}
use Rattle.fof_terms.specs.declared.term.Term.TheViews.{out-Term}
use Rattle.fof_terms.specs.declared.term.Term.TheFolds.{fold-Term}
use Rattle.clause_form.specs.ClauseView.{all_there}
use Rattle.skolem_fresh.specs.declared.just.Use.{Use}
use Rattle.skolem_fresh.specs.declared.leaves.Leaf.{Leaf}
use Rattle.skolem_fresh.specs.code.Leaves.{leaf}
use Rattle.fof_terms.specs.declared.term.Term.TheOpen as term

abbrev pub args_in : term.Term-F Term → List Term
args_in (term.Var k) = []
args_in (term.App f ts) = ts

-- the first one that is there
abbrev pub or_else : {X : Type 0} → Option X → Option X → Option X
or_else None r = r
or_else (Some x) r = Some x

-- what the first of the searches finds that finds something in the term at its place
abbrev pub found_in : List (Term → Option Term) → List Term → Option Term
found_in [] us = None
found_in (f ∷ fs) [] = None
found_in (f ∷ fs) (u ∷ us) = or_else (f u) (found_in fs us)

abbrev pub found_step : ℕ → term.Term-F (Term → Option Term) → Term → Option Term
found_step n (term.Var k) u = if k == n then Some u else None
found_step n (term.App f finds) u = found_in finds (args_in (out-Term u))

-- the term that stands in the second where the variable stands first in the first
unfoldable pub found_term : ℕ → Term → Term → Option Term
found_term n t u = fold-Term (Term → Option Term) (found_step n) t u

abbrev pub variable_in : ℕ → term.Term-F Term → Option ℕ
variable_in depth (term.Var k) = if nat_lt k depth then None else Some (k - depth)
variable_in depth (term.App f ts) = None

-- the variable that the term is, so many quantifiers further out
unfoldable pub variable_of : ℕ → Term → Option ℕ
variable_of depth t = variable_in depth (out-Term t)

abbrev pub used : ℕ → ℕ → List ℕ → Use
used f s xs = record { function = f; variables = xs; sort = s }

abbrev pub use_in : ℕ → ℕ → term.Term-F Term → Option Use
use_in depth s (term.Var k) = None
use_in depth s (term.App f ts) = option_map (used f s) (all_there (map (variable_of depth) ts))

-- the function and the variables of which the term is the value, so many quantifiers further out
unfoldable pub use_of : ℕ → ℕ → Term → Option Use
use_of depth s t = use_in depth s (out-Term t)

abbrev pub read_or : Option Use → Option Term → ℕ → ℕ → Option Use
read_or rest None depth s = rest
read_or rest (Some u) depth s = use_of depth s u

-- The value that stands in the second list of terms where variable 0 outside of the first stands first.
abbrev pub read : ℕ → List Leaf → List Leaf → Option Use
read s [] ms = None
read s (l ∷ ls) [] = None
read s (l ∷ ls) (m ∷ ms) = read_or (read s ls ms) (found_term l.depth l.term m.term) m.depth s

-- the term, so many quantifiers further out
abbrev pub outward : ℕ → Leaf → Leaf
outward e l = leaf (l.depth - e) l.term

-- The same where the second stands under so many quantifiers, which are outside of it.
abbrev pub read_from : ℕ → ℕ → List Leaf → List Leaf → Option Use
read_from e s ls ms = read s ls (map (outward e) ms)
