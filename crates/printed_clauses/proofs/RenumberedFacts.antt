-- The equations of terms with new numbers.
use Rattle.std.specs.Prelude.{ℕ, ◌≡◌, List, map}
use Rattle.fof_terms.proofs.Trees.{fold-Var, fold-App}
use Rattle.fof_terms.specs.declared.term.Term.{Term, Var, App}
use Rattle.printed_clauses.specs.Renumbered.{renumbered_step, renumbered}

pub renumbered-Var : (number : ℕ → ℕ) (k : ℕ) → renumbered number (Var k) ≡ Var k
unfolding renumbered
renumbered-Var number k = fold-Var Term (renumbered_step number) k

pub renumbered-App : (number : ℕ → ℕ) (f : ℕ) (ts : List Term) → renumbered number (App f ts) ≡ App (number f) (map (renumbered number) ts)
unfolding renumbered
renumbered-App number f ts = fold-App Term (renumbered_step number) f ts

pub ruleset renumbered_equations = (renumbered-Var, renumbered-App)
