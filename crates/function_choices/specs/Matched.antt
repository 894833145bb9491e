-- What is matched with the variables of a term, as in matching of terms: where a second term has the build of the first,
-- it has some term in the place of each variable.
use Rattle.std.specs.Prelude.{ℕ, List, [], ◌∷◌, ◌++◌}
use Rattle.fof_terms.specs.declared.term.Term.{Term}
use Rattle.fof_terms.specs.declared.term.Term.TheFolds.{fold-Term}
use Rattle.fof_terms.specs.declared.term.Term.TheViews.{out-Term}
use Rattle.function_choices.specs.declared.matched.Matched.{Matched}
use Rattle.fof_terms.specs.declared.term.Term.TheOpen as term

abbrev pub args_in : term.Term-F Term → List Term
args_in (term.Var k) = []
args_in (term.App f ts) = ts

-- the arguments of the term
unfoldable pub args_of : Term → List Term
args_of t = args_in (out-Term t)

abbrev pub matched : ℕ → Term → Matched
matched k t = record { variable = k; term = t }

-- what each gives of the term at its place, one after the other
abbrev pub at_each : List (Term → List Matched) → List Term → List Matched
at_each [] ts = []
at_each (f ∷ fs) [] = []
at_each (f ∷ fs) (t ∷ ts) = f t ++ at_each fs ts

abbrev pub matches_step : term.Term-F (Term → List Matched) → Term → List Matched
matches_step (term.Var k) t = matched k t ∷ []
matches_step (term.App g fs) t = at_each fs (args_of t)

-- each variable of the first term, from the left, with the term in its place in the second
unfoldable pub matches : Term → Term → List Matched
matches p t = fold-Term (Term → List Matched) matches_step p t
