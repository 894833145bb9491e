-- The rules that go by clauses alone.
use Rattle.std.specs.Prelude.{ℕ, ◌≡◌, List, refl}
use Rattle.fof_terms.specs.declared.term.Term.{Term}
use Rattle.clause_form.specs.declared.path.Path.{Path}
use Rattle.clause_rules.specs.Answers.{rule_of}
use Rattle.clause_rules.specs.declared.just.Just.{Just}
use Rattle.clause_rules.specs.declared.just.Just.TheVariants.{Norm, Cover, Tautology, Resolution, Paramodulation}
use Rattle.clause_rules.specs.declared.just.Just.TheVariants.{EqFactor, Rewrite}
use Rattle.rule_proofs.specs.ByRule.{GoesByClauses}

pub goes_by_clauses : (just : Just) → ((a : ℕ) → just ≡ Norm a → ⊥) → ((a : ℕ) (path : Path) (images : List Term) → just ≡ Cover a path images → ⊥) → GoesByClauses (rule_of just)
goes_by_clauses (Norm a) other others = other a refl
goes_by_clauses (Cover a path images) other others = others a path images refl
goes_by_clauses Tautology other others = tt
goes_by_clauses (Resolution a b i j images) other others = tt
goes_by_clauses (Paramodulation a b i place j flipped images) other others = tt
goes_by_clauses (EqFactor a i first_flipped j second_flipped images) other others = tt
goes_by_clauses (Rewrite a b target flipped by_images images) other others = tt
