-- Lemmas on what specs/Substitution defines.
use Rattle.std.specs.Prelude.{ℕ, ◌≡◌, ◌<◌, List, length, map, get_or, slice_get}
use Rattle.fof_terms.specs.Vocabulary.{Vocabulary}
use Rattle.fof_terms.specs.Sorts.{sort_of_term}
use Rattle.fof_terms.proofs.Trees.{fold-Var, fold-App}
use Rattle.fof_terms.specs.declared.term.Term.{Term, Var, App}
use Rattle.fof_terms.specs.declared.term.Term.TheFolds.{fold-Term}
use Rattle.unify_terms.specs.Substitution.{applied_step, applied}
use Rattle.fof_terms.specs.declared.term.Term.TheOpen as term

-- The equations of these words.
pub applied-Var : (image : ℕ → Term) (k : ℕ) → applied image (Var k) ≡ image k
unfolding applied
applied-Var image k = fold-Var Term (applied_step image) k

pub applied-App : (image : ℕ → Term) (f : ℕ) (ts : List Term) → applied image (App f ts) ≡ App f (map (applied image) ts)
unfolding applied
applied-App image f ts = fold-App Term (applied_step image) f ts

pub ruleset applied_equations = (applied-Var, applied-App)
