-- Lemmas on what specs/code/Reading defines.
use Rattle.std.specs.Prelude.{ℕ, ◌==◌, ◌-◌, ◌≡◌, nat_lt, if◌then◌else◌, List, [], ◌∷◌, map, Option, Some, None}
use Rattle.std.specs.Option.{option_map}
use Rattle.std.proofs.Common.{ap, ◌∙◌}
use Rattle.fof_terms.proofs.Trees.{fold-Var, fold-App}
use Rattle.fof_terms.specs.declared.term.Term.{Term, Var, App}
use Rattle.fof_terms.specs.declared.term.Term.TheViews.{out-Term, outs-Var, outs-App}
use Rattle.fof_terms.specs.declared.term.Term.TheFolds.{fold-Term}
use Rattle.skolem_fresh.specs.declared.just.Use.{Use}
use Rattle.skolem_fresh.specs.declared.leaves.Leaf.{Leaf}
use Rattle.skolem_fresh.specs.code.Leaves.{leaf}
use Rattle.clause_form.specs.ClauseView.{all_there}
use Rattle.skolem_fresh.specs.code.Reading.{args_in, found_in, found_step, found_term, variable_in, variable_of, used, use_in, use_of}
use Rattle.fof_terms.specs.declared.term.Term.TheOpen as term

-- The equations of these words.
pub found_term-Var : (n k : ℕ) (u : Term) → found_term n (Var k) u ≡ (if k == n then Some u else None)
unfolding found_term
found_term-Var n k u = ap (λ g. g u) (fold-Var (Term → Option Term) (found_step n) k)

pub found_term-App : (n f : ℕ) (ts : List Term) (u : Term) → found_term n (App f ts) u ≡ found_in (map (found_term n) ts) (args_in (out-Term u))
unfolding found_term
found_term-App n f ts u = ap (λ g. g u) (fold-App (Term → Option Term) (found_step n) f ts)

pub found_term-App-Var : (n f : ℕ) (ts : List Term) (k : ℕ) → found_term n (App f ts) (Var k) ≡ found_in (map (found_term n) ts) []
found_term-App-Var n f ts k = found_term-App n f ts (Var k) ∙ ap (λ y. found_in (map (found_term n) ts) (args_in y)) (outs-Var k)

pub found_term-App-App : (n f g : ℕ) (ts us : List Term) → found_term n (App f ts) (App g us) ≡ found_in (map (found_term n) ts) us
found_term-App-App n f g ts us = found_term-App n f ts (App g us) ∙ ap (λ y. found_in (map (found_term n) ts) (args_in y)) (outs-App g us)

pub variable_of-Var : (depth k : ℕ) → variable_of depth (Var k) ≡ (if nat_lt k depth then None else Some (k - depth))
unfolding variable_of
variable_of-Var depth k = ap (variable_in depth) (outs-Var k)

pub variable_of-App : (depth f : ℕ) (ts : List Term) → variable_of depth (App f ts) ≡ None
unfolding variable_of
variable_of-App depth f ts = ap (variable_in depth) (outs-App f ts)

pub use_of-Var : (depth s k : ℕ) → use_of depth s (Var k) ≡ None
unfolding use_of
use_of-Var depth s k = ap (use_in depth s) (outs-Var k)

pub use_of-App : (depth s f : ℕ) (ts : List Term) → use_of depth s (App f ts) ≡ option_map (used f s) (all_there (map (variable_of depth) ts))
unfolding use_of
use_of-App depth s f ts = ap (use_in depth s) (outs-App f ts)

pub ruleset reading_equations = (found_term-Var, found_term-App-Var, found_term-App-App, variable_of-Var, variable_of-App, use_of-Var, use_of-App)
