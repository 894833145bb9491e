-- All places of a literal, in order, and terms below other ones.
use Rattle.std.specs.Prelude.{ℕ, suc, List, [], ◌∷◌, ◌++◌, map}
use Rattle.fof_terms.specs.declared.term.Term.{Term, Var, App}
use Rattle.fof_terms.specs.declared.term.Term.TheFolds.{fold-Term}
use Rattle.clause_form.specs.declared.clause.Lit.{Lit}
use Rattle.clause_rules.specs.Places.{args_of_atom}
use Rattle.fof_terms.specs.declared.term.Term.TheOpen as term

-- the places in each of the terms, which are numbered from n on below these steps
abbrev pub numbered : List (List ℕ → List (List ℕ)) → List ℕ → ℕ → List (List ℕ)
numbered [] steps n = []
numbered (g ∷ gs) steps n = g (steps ++ n ∷ []) ++ numbered gs steps (suc n)

abbrev pub place_step : term.Term-F (List ℕ → List (List ℕ)) → List ℕ → List (List ℕ)
place_step (term.Var k) steps = steps ∷ []
place_step (term.App f gs) steps = steps ∷ numbered gs steps 0

-- the places of a term and within it, below these steps
unfoldable pub places_within : Term → List ℕ → List (List ℕ)
places_within = fold-Term (List ℕ → List (List ℕ)) place_step

abbrev pub places_of : Lit → List (List ℕ)
places_of k = numbered (map places_within (args_of_atom k.atom)) [] 0
