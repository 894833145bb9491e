-- Where a function may stand for a variable: an atom is alike to another, if that is the first with a term of the
-- function wherever the variable stands, and with any terms wherever other variables stand.
use Rattle.std.specs.Prelude.{ℕ, ◌==◌, ◌||◌, ◌&&◌, not, Bool, true, false, List, [], ◌∷◌, map}
use Rattle.std.specs.List.{list_any, list_all}
use Rattle.fof_terms.specs.declared.term.Term.{Term}
use Rattle.fof_terms.specs.declared.term.Term.TheFolds.{fold-Term}
use Rattle.fof_terms.specs.declared.term.Term.TheViews.{out-Term}
use Rattle.clause_form.specs.declared.clause.AtomOf.{AtomOf}
use Rattle.clause_form.specs.declared.clause.AtomOf.TheVariants.{Pred, Eq as Equation}
use Rattle.function_choices.specs.declared.atoms.Placed.{Placed}
use Rattle.fof_terms.specs.declared.term.Term.TheOpen as term

abbrev pub head_is : ℕ → term.Term-F Term → Bool
head_is f (term.Var k) = false
head_is f (term.App g ts) = g == f

-- the term is one of the function
unfoldable pub has_head : ℕ → Term → Bool
has_head f t = head_is f (out-Term t)

-- as many terms as tests, each of which passes its test
abbrev pub pass : List (Term → Bool) → List Term → Bool
pass [] [] = true
pass [] (t ∷ ts) = false
pass (p ∷ ps) [] = false
pass (p ∷ ps) (t ∷ ts) = p t && pass ps ts

abbrev pub args_pass : ℕ → List (Term → Bool) → term.Term-F Term → Bool
args_pass g ps (term.Var j) = false
args_pass g ps (term.App h ts) = (g == h) && pass ps ts

abbrev pub alike_step : ℕ → ℕ → term.Term-F (Term → Bool) → Term → Bool
alike_step f k (term.Var j) t = not (j == k) || has_head f t
alike_step f k (term.App g ps) t = args_pass g ps (out-Term t)

-- the second term is the first, with a term of the function wherever variable k stands, and with any terms wherever
-- other variables stand
unfoldable pub is_alike : ℕ → ℕ → Term → Term → Bool
is_alike f k = fold-Term (Term → Bool) (alike_step f k)

-- the same of two atoms, the sides of an equation in either order
abbrev pub atoms_alike : ℕ → ℕ → AtomOf → AtomOf → Bool
atoms_alike f k (Pred p ps) (Pred q ts) = (p == q) && pass (map (is_alike f k) ps) ts
atoms_alike f k (Equation a b) (Equation l r) = (is_alike f k a l && is_alike f k b r) || (is_alike f k a r && is_alike f k b l)
atoms_alike f k _ _ = false

-- each of the atoms is alike to one of the others, for the variable that has the number of the quantifiers around it
abbrev pub each_alike : ℕ → List Placed → List Placed → Bool
each_alike f patterns atoms = list_all (λ (p : Placed). list_any (λ (a : Placed). atoms_alike f p.depth p.atom a.atom) atoms) patterns
