-- The needs of a resolution are met exactly by the substitutions that show it.
use Rattle.std.specs.Prelude.{ℕ, ◌≡◌, not, List, [], ◌∷◌, ◌++◌, map, Some, slice_get}
use Rattle.std.proofs.Common.{sym, subst}
use Rattle.std.proofs.lemmas.List.{map-append}
use Rattle.fof_terms.specs.declared.term.Term.{Term}
use Rattle.clause_form.specs.declared.clause.Lit.{Lit}
use Rattle.clause_form.proofs.ClauseLaws.{get_image}
use Rattle.clause_form.specs.Covers.{lit_image, AreComplementary}
use Rattle.unify_terms.specs.Substitution.{image_at}
use Rattle.clause_rules.specs.ResolutionRule.{IsResolvent}
use Rattle.rule_steps.specs.code.ResolutionSearch.{resolution_needs}
use Rattle.clause_rules.specs.Steps.{AreCovered}
use Rattle.substitution_search.proofs.WaysFacts.{MeetsNeeds}
use Rattle.clause_rules.specs.Ways.{cover_needs}
use Rattle.substitution_search.proofs.Covering.{lit_forth, lit_back, covers_forth, covers_back, needs_parts, needs_both}
use Rattle.clause_rules.proofs.Firsts.{one_at}

module _ (images : List Term) (line left right : List Lit) (i j : ℕ) (pivot opposite : Lit) (at : slice_get left i ≡ Some pivot) (over : slice_get right j ≡ Some opposite) where
  abbrev L : Lit → Lit
  L = lit_image (image_at images)

  with_image : (k : Lit) → map L (line ++ k ∷ []) ≡ map L line ++ L k ∷ []
  with_image k = map-append L line (k ∷ [])

  pub resolvent_forth : MeetsNeeds images (resolution_needs line left right pivot opposite) → IsResolvent (map L line) (map L left) (map L right) i j
  resolvent_forth h =
      let parts = needs_parts images (cover_needs (line ++ pivot ∷ []) left) (cover_needs (line ++ opposite ∷ []) right) h.1 in
      record {
        pivot = L pivot;
        opposite = L opposite;
        in_left = get_image (image_at images) left i pivot at;
        in_right = get_image (image_at images) right j opposite over;
        complementary = lit_forth images (not pivot.positive) pivot.atom opposite h.0;
        left_covered = subst (λ ls. AreCovered ls (map L left)) (with_image pivot) (covers_forth images (line ++ pivot ∷ []) left parts.0);
        right_covered = subst (λ ls. AreCovered ls (map L right)) (with_image opposite) (covers_forth images (line ++ opposite ∷ []) right parts.1);
      }

  pub resolvent_back : IsResolvent (map L line) (map L left) (map L right) i j → MeetsNeeds images (resolution_needs line left right pivot opposite)
  resolvent_back h =
      let same : h.pivot ≡ L pivot = one_at (map L left) i h.pivot (L pivot) h.in_left (get_image (image_at images) left i pivot at) in
      let like : h.opposite ≡ L opposite = one_at (map L right) j h.opposite (L opposite) h.in_right (get_image (image_at images) right j opposite over) in
      let clash : AreComplementary (L pivot) (L opposite) = subst (λ k. AreComplementary k (L opposite)) same (subst (λ l. AreComplementary h.pivot l) like h.complementary) in
      let first : AreCovered (map L (line ++ pivot ∷ [])) (map L left) = subst (λ ls. AreCovered ls (map L left)) (sym (with_image pivot)) (subst (λ k. AreCovered (map L line ++ k ∷ []) (map L left)) same h.left_covered) in
      let second : AreCovered (map L (line ++ opposite ∷ [])) (map L right) = subst (λ ls. AreCovered ls (map L right)) (sym (with_image opposite)) (subst (λ k. AreCovered (map L line ++ k ∷ []) (map L right)) like h.right_covered) in (
        lit_back images (not pivot.positive) pivot.atom opposite clash,
        needs_both images (cover_needs (line ++ pivot ∷ []) left) (cover_needs (line ++ opposite ∷ []) right) (covers_back images (line ++ pivot ∷ []) left first) (covers_back images (line ++ opposite ∷ []) right second),
      )
