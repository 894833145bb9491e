-- Lemmas on what specs/code/PlaceSearch defines.
use Rattle.std.specs.Prelude.{ℕ, ◌≡◌, List, [], ◌∷◌, ◌++◌, map, slice_get, slice_set, Option, Some, None}
use Rattle.std.proofs.Common.{suc, ap}
use Rattle.fof_terms.proofs.Trees.{fold-Var, fold-App}
use Rattle.fof_terms.specs.declared.term.Term.{Term, Var, App}
use Rattle.fof_terms.specs.declared.term.Term.TheFolds.{fold-Term}
use Rattle.clause_form.specs.declared.clause.Lit.{Lit}
use Rattle.clause_rules.specs.Places.{args_of, with_args, args_of_atom}
use Rattle.clause_rules.specs.PlaceSearch.{numbered, place_step, places_within}
use Rattle.fof_terms.specs.declared.term.Term.TheOpen as term

-- The equations of this word.
pub places_within-Var : (k : ℕ) (steps : List ℕ) → places_within (Var k) steps ≡ steps ∷ []
unfolding places_within
places_within-Var k steps = ap (λ (f : List ℕ → List (List ℕ)). f steps) (fold-Var (List ℕ → List (List ℕ)) place_step k)

pub places_within-App : (f : ℕ) (ts : List Term) (steps : List ℕ) → places_within (App f ts) steps ≡ steps ∷ numbered (map places_within ts) steps 0
unfolding places_within
places_within-App f ts steps = ap (λ (g : List ℕ → List (List ℕ)). g steps) (fold-App (List ℕ → List (List ℕ)) place_step f ts)

pub ruleset place_equations = (places_within-Var, places_within-App)
