use Rattle.std.proofs.Common.{sym, ◌∙◌, subst, eqb}
use Rattle.std.specs.Prelude.{Contains, ℕ, List, ◌≡◌}
use Rattle.std.specs.List.{dedup}
use Rattle.std.specs.List.Sorted.{IsStrictlyIncreasing}
use Rattle.std.proofs.lemmas.List.Filters.{dedup_is}
use Rattle.std.proofs.lemmas.List.Kept.{Contains-dedup_nat, Contains-from_dedup}
use Rattle.std.proofs.lemmas.List.Sorted.{Contains-permutation, IsPermutation-sym}
use Rattle.std.proofs.lemmas.Map.Keys.{IsStrictlyIncreasing-dedup}
use Rattle.clause_index.proofs.places.once_each.Goals as goal

pub returns-clause-ascending : goal.returns-clause-ascending
returns-clause-ascending c =
    let is : c.from_vec.result ≡ dedup eqb c.sort_unstable.new.self.items = c.from_vec.ensures
    ∙ dedup_is eqb _ _ c.dedup.ensures.filtered in
    subst IsStrictlyIncreasing (sym is) (IsStrictlyIncreasing-dedup _ c.sort_unstable.ensures.sorted)

pub returns-clause-same : goal.returns-clause-same
returns-clause-same c =
    let is : c.from_vec.result ≡ dedup eqb c.sort_unstable.new.self.items = c.from_vec.ensures
    ∙ dedup_is eqb _ _ c.dedup.ensures.filtered in
    λ place. (
      λ h. Contains-permutation _ _ place (IsPermutation-sym _ _ c.sort_unstable.ensures.permutation)
          (Contains-from_dedup eqb _ place (subst (λ (xs : List ℕ). Contains xs place) is h)),
      λ h. subst (λ (xs : List ℕ). Contains xs place) (sym is)
          (Contains-dedup_nat _ place (Contains-permutation _ _ place c.sort_unstable.ensures.permutation h)),
    )
