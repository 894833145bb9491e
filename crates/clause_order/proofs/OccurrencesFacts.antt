-- Lemmas on occurrences of variables.
use Rattle.std.specs.Prelude.{ℕ, ◌==◌, if◌then◌else◌, List, ◌≡◌, map, sum}
use Rattle.fof_terms.specs.declared.term.Term.{Term, Var, App}
use Rattle.fof_terms.proofs.Trees.{fold-Var, fold-App}
use Rattle.clause_order.specs.Order.{occurrences, occurrences_step}

pub occurrences-Var : (x k : ℕ) → occurrences x (Var k) ≡ (if k == x then 1 else 0)
unfolding occurrences
occurrences-Var x k = fold-Var ℕ (occurrences_step x) k

pub occurrences-App : (x f : ℕ) (ts : List Term) → occurrences x (App f ts) ≡ sum (map (occurrences x) ts)
unfolding occurrences
occurrences-App x f ts = fold-App ℕ (occurrences_step x) f ts

pub ruleset occurrences_equations = (occurrences-Var, occurrences-App)
