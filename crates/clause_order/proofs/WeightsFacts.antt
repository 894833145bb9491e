-- Lemmas on numbers of symbols.
use Rattle.std.specs.Prelude.{ℕ, ◌+◌, List, ◌≡◌, map, sum}
use Rattle.fof_terms.specs.declared.term.Term.{Term, Var, App}
use Rattle.fof_terms.specs.Count.{symbol_count, count_step}
use Rattle.fof_terms.proofs.Trees.{fold-Var, fold-App}

pub count-Var : (k : ℕ) → symbol_count (Var k) ≡ 1
count-Var k = fold-Var ℕ count_step k

pub count-App : (f : ℕ) (ts : List Term) → symbol_count (App f ts) ≡ 1 + sum (map symbol_count ts)
count-App f ts = fold-App ℕ count_step f ts

pub ruleset weight_equations = (count-Var, count-App)
