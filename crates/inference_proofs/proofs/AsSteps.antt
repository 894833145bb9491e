-- Each inference is a step by a rule: resolution, paramodulation, equality factoring, or a covering of a parent's clause.
use Rattle.std.specs.Prelude.{ℕ, ◌+◌, ◌-◌, ◌<◌, ◌≡◌, nat_lt, if◌then◌else◌, Bool, List, [], ◌∷◌, ◌++◌, length, map, remove, Option, Some, None, slice_get, slice_set, refl}
use Rattle.std.proofs.Common.{ap, sym, subst, ◌∙◌, arith, append-nil, zero, suc, inl, inr}
use Rattle.std.proofs.lemmas.Bool.{lt-ltb, le-ltb}
use Rattle.std.proofs.lemmas.List.{length-reverse}
use Rattle.fof_terms.specs.declared.term.Term.{Term, App}
use Rattle.fof_terms.specs.Vocabulary.{Vocabulary}
use Rattle.fof_terms.specs.Lift.{lifted_term}
use Rattle.fof_terms.proofs.Induction.{term_induction}
use Rattle.fof_terms.proofs.LiftFacts.{lifted_term-App}
use Rattle.fof_terms.proofs.LiftingLaws.{moves, below_or_above}
use Rattle.fof_terms.specs.Sorts.{sort_of_term}
use Rattle.clause_form.specs.declared.clause.AtomOf.{AtomOf}
use Rattle.clause_form.specs.declared.clause.AtomOf.TheVariants.{Pred, Eq, True, False}
use Rattle.clause_form.specs.declared.clause.Lit.{Lit}
use Rattle.clause_form.specs.declared.clause.Clause.{Clause}
use Rattle.clause_form.specs.ClauseView.{stated, denied}
use Rattle.clause_form.specs.Covers.{at_terms, lit_image, lit_apart, scope_of, AreSorted, IsCovered, CoversBy}
use Rattle.clause_form.specs.Images.{image, IsImages}
use Rattle.clause_form.proofs.ImagesFacts.{image-App}
use Rattle.clause_form.proofs.ClauseLaws.{get_image, lits_agree}
use Rattle.clause_rules.specs.Places.{args_of, term_at, down_into, args_of_atom, lit_term_at, lit_put_at}
use Rattle.clause_rules.proofs.PlaceLaws.{args_of-Var, args_of-App, lit_at_walk, lit_put_walk}
use Rattle.clause_rules.proofs.LitImages.{imaging, images_apart}
use Rattle.clause_rules.proofs.Equations.{equation_image, map_set}
use Rattle.clause_rules.specs.Steps.{instances, scope_of_both, apart_from, equation, unequal, AreCovered}
use Rattle.clause_rules.specs.ResolutionRule.{ResolvesTo}
use Rattle.clause_rules.specs.ParamodulationRule.{Paramodulates, HasPlace}
use Rattle.clause_rules.specs.EqFactorRule.{Factors}
use Rattle.superpose.specs.Drafts.{Draft, IsMadeBy}
use Rattle.superpose.specs.Inferences.{ResolvesAt, SuperposesAt, FactorsAt, ResolvesEquationAt, FactorsEquationsAt}
use Rattle.superpose.proofs.PairFacts.{same_args, image_as_term, as_term_injective}
use Rattle.inference_proofs.proofs.Kept.{Has, has_before, has_behind, has_split, has_image, image_from, kept_or, kept_other, changed_or, get_first, get_second, get_below}

-- what stands in the line is covered
stands : (line : List Lit) (k : Lit) → Has line k → IsCovered line k
stands line k h = inl (h.0, k, h.1, inl refl)

-- a place of a literal that is moved is a place of the literal
module _ (n : ℕ) where
  abbrev moved : Term → Term
  moved = lifted_term n 0

  args_moved : (t : Term) → args_of (moved t) ≡ map moved (args_of t)
  args_moved = term_induction _ (record {
    var = λ k. ap args_of (moves n 0 k (omega arith)) ∙ args_of-Var (k + n) ∙ ap (map moved) (sym (args_of-Var k));
    app = λ f ts all. ap args_of (lifted_term-App n 0 f ts) ∙ args_of-App f (map moved ts) ∙ ap (map moved) (sym (args_of-App f ts));
  })

  found_before : (place : List ℕ) (ts : List Term) (u : Term) → term_at place (map moved ts) ≡ Some u → (t : Term) × (term_at place ts ≡ Some t)
  found_before [] ts u e = cc
  found_before (k ∷ []) ts u e = let from = image_from moved ts u k e in (from.0, from.1)
  found_before (k ∷ m ∷ place) ts u e = go (λ us. found_before (m ∷ place) us u) (slice_get (map moved ts) k) refl e where
    go : ((us : List Term) → term_at (m ∷ place) (map moved us) ≡ Some u → (t : Term) × (term_at (m ∷ place) us ≡ Some t)) → (o : Option Term) → slice_get (map moved ts) k ≡ o → down_into (term_at (m ∷ place)) o ≡ Some u
        → (t : Term) × (term_at (k ∷ m ∷ place) ts ≡ Some t)
    go below None is f = cc
    go below (Some x) is f =
        let from = image_from moved ts x k is in
        let args : map moved (args_of from.0) ≡ args_of x = sym (args_moved from.0) ∙ ap args_of from.2 in
        let deeper = below (args_of from.0) (ap (term_at (m ∷ place)) args ∙ f) in
        (deeper.0, ap (down_into (term_at (m ∷ place))) from.1 ∙ deeper.1)

  atom_args_moved : (a : AtomOf) → args_of_atom (at_terms moved a) ≡ map moved (args_of_atom a)
  atom_args_moved (Pred p ts) = refl
  atom_args_moved (Eq l r) = refl
  atom_args_moved True = refl
  atom_args_moved False = refl

  place_before : (place : List ℕ) (k : Lit) (u : Term) → lit_term_at place (lit_apart n k) ≡ Some u → (t : Term) × (lit_term_at place k ≡ Some t)
  place_before place k u e = found_before place (args_of_atom k.atom) u (ap (term_at place) (sym (atom_args_moved k.atom)) ∙ e)

-- what a draft leaves stands in the clause that it makes
module _ (v : Vocabulary) (scope : List ℕ) (f : Draft) (e : Clause) (s : ℕ → Term) (made : IsMadeBy v scope f e s) where
  left_in : (l : Lit) → Has f.left l → Has e.lits (lit_image s l)
  left_in l h = subst (λ (ls : List Lit). Has ls (lit_image s l)) (sym made.same) (has_image (lit_image s) f.left l h)

  images_there : IsImages v scope (scope_of e ++ []) s
  images_there = subst (λ (ss : List ℕ). IsImages v scope ss s) (sym (append-nil (scope_of e))) made.images

-- resolution
module _ (v : Vocabulary) (c d e : Clause) (f : Draft) (s : ℕ → Term) (made : IsMadeBy v (scope_of_both c d) f e s) (i j : ℕ) (r : ResolvesAt c d i j f) where
  abbrev pivot : Lit
  pivot = lit_image s (stated (Pred r.p r.ts))

  abbrev opposite : Lit
  opposite = lit_image s (denied (Pred r.p r.us))

  same_arguments : map (image s) r.ts ≡ map (image s) r.us
  same_arguments =
      same_args r.p r.p (map (image s) r.ts) (map (image s) r.us)
      (sym (image-App s r.p r.ts) ∙ ap (image s) (sym r.one) ∙ made.unified ∙ ap (image s) r.other ∙ image-App s r.p r.us)

  kept_first : (l : Lit) → Has (remove c.lits i) l → Has e.lits (lit_image s l)
  kept_first l h = left_in v (scope_of_both c d) f e s made l (subst (λ (ls : List Lit). Has ls l) (sym r.left) (has_before (remove c.lits i) (remove (apart_from c d.lits) j) l h))

  kept_second : (l : Lit) → Has (remove (apart_from c d.lits) j) l → Has e.lits (lit_image s l)
  kept_second l h = left_in v (scope_of_both c d) f e s made l (subst (λ (ls : List Lit). Has ls l) (sym r.left) (has_behind (remove c.lits i) (remove (apart_from c d.lits) j) l h))

  covered_but : (lits : List Lit) (at : ℕ) (p : Lit) → slice_get lits at ≡ Some p → ((l : Lit) → Has (remove lits at) l → Has e.lits (lit_image s l)) → AreCovered (e.lits ++ lit_image s p ∷ []) (instances s lits)
  covered_but lits at p here kept n k there =
      let from = image_from (lit_image s) lits k n there in
      elim (kept_or lits at p here n from.0 from.1) [
        | inl same ↦ stands (e.lits ++ lit_image s p ∷ []) k (subst (Has (e.lits ++ lit_image s p ∷ [])) (ap (lit_image s) (sym same) ∙ from.2) (has_behind e.lits (lit_image s p ∷ []) (lit_image s p) (0, refl)))
        | inr h ↦ stands (e.lits ++ lit_image s p ∷ []) k (subst (Has (e.lits ++ lit_image s p ∷ [])) from.2 (has_before e.lits (lit_image s p ∷ []) (lit_image s from.0) (kept from.0 h)))
      ]

  pub resolution_is_step : ResolvesTo v c d e i j [] s
  resolution_is_step = record {
    images = images_there v (scope_of_both c d) f e s made;
    resolvent = record {
      pivot = pivot;
      opposite = opposite;
      in_left = get_image s c.lits i (stated (Pred r.p r.ts)) r.here;
      in_right = get_image s (apart_from c d.lits) j (denied (Pred r.p r.us)) r.there;
      complementary = inl (ap (λ (ts : List Term). denied (Pred r.p ts)) same_arguments);
      left_covered = covered_but c.lits i (stated (Pred r.p r.ts)) r.here kept_first;
      right_covered = covered_but (apart_from c d.lits) j (denied (Pred r.p r.us)) r.there kept_second;
    };
  }

-- the variables of two clauses, those of the second first
abbrev exchanged : ℕ → ℕ → (ℕ → Term) → ℕ → Term
exchanged nc nd s k = if nat_lt k nd then s (k + nc) else s (k - nd)

exchanged_below : (nc nd : ℕ) (s : ℕ → Term) (k : ℕ) → k < nd → exchanged nc nd s k ≡ s (k + nc)
exchanged_below nc nd s k h = rw (lt-ltb k nd h) refl

exchanged_above : (nc nd : ℕ) (s : ℕ → Term) (k : ℕ) → exchanged nc nd s (k + nd) ≡ s k
exchanged_above nc nd s k = rw (le-ltb (k + nd) nd (omega arith)) (ap s (omega arith))

module _ (v : Vocabulary) (c d e : Clause) (s : ℕ → Term) (to : List ℕ) where
  abbrev pub other_way : ℕ → Term
  other_way = exchanged (length c.sorts) (length d.sorts) s

  length_of : (x : Clause) → length (scope_of x) ≡ length x.sorts
  length_of x = length-reverse x.sorts

  within_second : (k r : ℕ) → slice_get (scope_of d) k ≡ Some r → k < length d.sorts
  within_second k r at = omega (arith, length_of d, within (scope_of d) k r at) where
    within : (xs : List ℕ) (k r : ℕ) → slice_get xs k ≡ Some r → k < length xs
    within [] k r e = cc
    within (x ∷ xs) zero r e = omega arith
    within (x ∷ xs) (suc k) r e = omega (arith, within xs k r e)

  other_images : IsImages v (scope_of_both c d) to s → IsImages v (scope_of_both d c) to other_way
  other_images h = record {
    sorted = λ k r at. elim (below_or_above k (length d.sorts)) [
      | inl lt ↦
          let there : slice_get (scope_of d) k ≡ Some r = get_below (scope_of d) (scope_of c) k r (omega (arith, lt, length_of d)) at in
          let moved_there : slice_get (scope_of_both c d) (k + length c.sorts) ≡ Some r =
          ap (λ n. slice_get (scope_of_both c d) (k + n)) (sym (length_of c)) ∙ get_second (scope_of c) (scope_of d) k ∙ there in
          ap (sort_of_term v to) (exchanged_below (length c.sorts) (length d.sorts) s k lt) ∙ h.sorted (k + length c.sorts) r moved_there
      | inr ge ↦
          let back : (k - length d.sorts) + length d.sorts ≡ k = omega arith in
          let there : slice_get (scope_of c) (k - length d.sorts) ≡ Some r =
          sym (ap (λ n. slice_get (scope_of_both d c) ((k - length d.sorts) + n)) (sym (length_of d)) ∙ get_second (scope_of d) (scope_of c) (k - length d.sorts)) ∙ ap (slice_get (scope_of_both d c)) back ∙ at in
          ap (sort_of_term v to) (ap other_way (sym back) ∙ exchanged_above (length c.sorts) (length d.sorts) s (k - length d.sorts)) ∙ h.sorted (k - length d.sorts) r (get_first (scope_of c) (scope_of d) (k - length d.sorts) r there)
    ];
  }

  second_instances : AreSorted v (scope_of d) d.lits → instances other_way d.lits ≡ instances s (apart_from c d.lits)
  second_instances sorted =
      lits_agree v (scope_of d) other_way (λ k. s (k + length c.sorts)) (record { same = λ k r at. exchanged_below (length c.sorts) (length d.sorts) s k (within_second k r at) }) d.lits sorted
      ∙ sym (images_apart s (length c.sorts) d.lits)

  first_instances : AreSorted v (scope_of c) c.lits → instances other_way (apart_from d c.lits) ≡ instances s c.lits
  first_instances sorted =
      images_apart other_way (length d.sorts) c.lits
      ∙ lits_agree v (scope_of c) (λ k. other_way (k + length d.sorts)) s (record { same = λ k r at. exchanged_above (length c.sorts) (length d.sorts) s k }) c.lits sorted

-- superposition
module _ (v : Vocabulary) (c d e : Clause) (f : Draft) (s : ℕ → Term) (made : IsMadeBy v (scope_of_both c d) f e s) (i : ℕ) (flipped : Bool) (j : ℕ) (place : List ℕ) (p : SuperposesAt c d i flipped j place f) where
  abbrev apart : List Lit
  apart = apart_from c d.lits

  abbrev changed : Lit
  changed = lit_image s p.target

  same_term : image s p.l ≡ image s (App p.g p.args)
  same_term = ap (image s) (sym p.one) ∙ made.unified ∙ ap (image s) p.other

  kept_equation : (l : Lit) → Has (remove c.lits i) l → Has e.lits (lit_image s l)
  kept_equation l h = left_in v (scope_of_both c d) f e s made l (subst (λ (ls : List Lit). Has ls l) (sym p.left) (has_before (remove c.lits i) (slice_set apart j (lit_put_at place p.r p.target)) l h))

  kept_target : (l : Lit) → Has (slice_set apart j (lit_put_at place p.r p.target)) l → Has e.lits (lit_image s l)
  kept_target l h = left_in v (scope_of_both c d) f e s made l (subst (λ (ls : List Lit). Has ls l) (sym p.left) (has_behind (remove c.lits i) (slice_set apart j (lit_put_at place p.r p.target)) l h))

  changed_there : slice_set (instances s apart) j (lit_put_at place (image s p.r) changed) ≡ instances s (slice_set apart j (lit_put_at place p.r p.target))
  changed_there =
      ap (slice_set (instances s apart) j) (sym (lit_put_walk (image s) (imaging s) place p.target (App p.g p.args) p.r p.stands))
      ∙ sym (map_set (lit_image s) apart j (lit_put_at place p.r p.target))

  -- members of the instances without one are instances of what is left
  rest_there : (xs : List Lit) (at : ℕ) (k : Lit) (q : Lit) → slice_get xs at ≡ Some q → Has (remove (instances s xs) at) k → (l : Lit) × Has (remove xs at) l × (lit_image s l ≡ k)
  rest_there [] at k q e h = cc
  rest_there (x ∷ xs) zero k q e h = let from = image_from (lit_image s) xs k h.0 h.1 in (from.0, (h.0, from.1), from.2)
  rest_there (x ∷ xs) (suc at) k q e (zero, g) = (x, (0, refl), cc)
  rest_there (x ∷ xs) (suc at) k q e (suc n, g) = let rest = rest_there xs at k q e (n, g) in (rest.0, (suc rest.1.0, rest.1.1), rest.2)

  all_covered : AreCovered e.lits (slice_set (instances s apart) j (lit_put_at place (image s p.r) changed) ++ remove (instances s c.lits) i)
  all_covered n k at = elim (has_split (slice_set (instances s apart) j (lit_put_at place (image s p.r) changed)) (remove (instances s c.lits) i) k n at) [
    | inl h ↦
        let there = subst (λ (ls : List Lit). Has ls k) changed_there h in
        let from = image_from (lit_image s) (slice_set apart j (lit_put_at place p.r p.target)) k there.0 there.1 in
        stands e.lits k (subst (Has e.lits) from.2 (kept_target from.0 (there.0, from.1)))
    | inr h ↦
        let rest = rest_there c.lits i k (equation flipped p.l p.r) p.here h in
        stands e.lits k (subst (Has e.lits) rest.2 (kept_equation rest.0 rest.1))
  ]

  target_from : (l : Lit) × (slice_get d.lits j ≡ Some l) × (lit_apart (length c.sorts) l ≡ p.target)
  target_from = image_from (lit_apart (length c.sorts)) d.lits p.target j p.there

  place_there : HasPlace d.lits j place
  place_there =
      let before = place_before (length c.sorts) place target_from.0 (App p.g p.args) (ap (lit_term_at place) target_from.2 ∙ p.stands) in
      record { lit = target_from.0; term = before.0; there = target_from.1; stands = before.1 }

  pub superposition_is_step : AreSorted v (scope_of c) c.lits → AreSorted v (scope_of d) d.lits → Paramodulates v d c e j place i flipped [] (other_way v c d e s [])
  superposition_is_step hc hd =
      let second = second_instances v c d e s [] hd in
      let first = first_instances v c d e s [] hc in
      record {
        images = other_images v c d e s (scope_of e ++ []) (images_there v (scope_of_both c d) f e s made);
        place_of = place_there;
        paramodulant = record {
          changed = changed;
          left = image s p.l;
          right = image s p.r;
          in_into = ap (λ (ls : List Lit). slice_get ls j) second ∙ get_image s apart j p.target p.there;
          in_from = ap (λ (ls : List Lit). slice_get ls i) first ∙ get_image s c.lits i (equation flipped p.l p.r) p.here ∙ ap Some (equation_image (image s) flipped p.l p.r);
          stands = lit_at_walk (image s) (imaging s) place p.target (App p.g p.args) p.stands ∙ ap Some (sym same_term);
          covered =
              subst (λ (ls : List Lit). AreCovered e.lits (slice_set ls j (lit_put_at place (image s p.r) changed) ++ remove (instances (other_way v c d e s []) (apart_from d c.lits)) i)) (sym second)
              (subst (λ (ls : List Lit). AreCovered e.lits (slice_set (instances s apart) j (lit_put_at place (image s p.r) changed) ++ remove ls i)) (sym first) all_covered);
        };
      }

-- inferences from one clause
module _ (v : Vocabulary) (c e : Clause) (f : Draft) (s : ℕ → Term) (made : IsMadeBy v (scope_of c) f e s) where
  covers_by : ((l : Lit) → (n : ℕ) → slice_get c.lits n ≡ Some l → IsCovered e.lits (lit_image s l)) → CoversBy v (scope_of c) c.lits e [] s
  covers_by h = record { images = images_there v (scope_of c) f e s made; covered = λ n l at. h l n at }

  pub factoring_covers : (i j : ℕ) → FactorsAt c i j f → CoversBy v (scope_of c) c.lits e [] s
  factoring_covers i j p =
      let left : (l : Lit) → Has (remove c.lits j) l → Has e.lits (lit_image s l) = λ l h. left_in v (scope_of c) f e s made l (subst (λ (ls : List Lit). Has ls l) (sym p.left) h) in
      let atoms : at_terms (image s) p.a ≡ at_terms (image s) p.b =
      as_term_injective (at_terms (image s) p.a) (at_terms (image s) p.b) (sym (image_as_term s p.a) ∙ ap (image s) (sym p.one) ∙ made.unified ∙ ap (image s) p.other ∙ image_as_term s p.b) in
      let first : Has e.lits (lit_image s (stated p.a)) = left (stated p.a) (kept_other c.lits j i (stated p.a) (λ same. p.apart (sym same)) p.here) in
      covers_by (λ l n at. elim (kept_or c.lits j (stated p.b) p.there n l at) [
        | inl same ↦ stands e.lits (lit_image s l) (subst (Has e.lits) (ap stated atoms ∙ ap (lit_image s) (sym same)) first)
        | inr h ↦ stands e.lits (lit_image s l) (left l h)
      ])

  pub equation_covers : (i : ℕ) → ResolvesEquationAt c i f → CoversBy v (scope_of c) c.lits e [] s
  equation_covers i p =
      let left : (l : Lit) → Has (remove c.lits i) l → Has e.lits (lit_image s l) = λ l h. left_in v (scope_of c) f e s made l (subst (λ (ls : List Lit). Has ls l) (sym p.left) h) in
      let same_sides : image s p.s ≡ image s p.t = ap (image s) (sym p.one) ∙ made.unified ∙ ap (image s) p.other in
      let gone : IsCovered e.lits (lit_image s (unequal p.s p.t)) = inr (refl, same_sides) in
      covers_by (λ l n at. elim (kept_or c.lits i (unequal p.s p.t) p.here n l at) [
        | inl same ↦ subst (λ (k : Lit). IsCovered e.lits (lit_image s k)) (sym same) gone
        | inr h ↦ stands e.lits (lit_image s l) (left l h)
      ])

  pub equations_factor : (i : ℕ) (first_flipped : Bool) (j : ℕ) (second_flipped : Bool) → FactorsEquationsAt c i first_flipped j second_flipped f → Factors v c e i first_flipped j second_flipped [] s
  equations_factor i first_flipped j second_flipped p =
      let left : (l : Lit) → Has f.left l → Has e.lits (lit_image s l) = left_in v (scope_of c) f e s made in
      let side : image s p.s ≡ image s p.u = ap (image s) (sym p.one) ∙ made.unified ∙ ap (image s) p.other in
      let denial : Lit = unequal p.t p.w in
      let denied_there : Has e.lits (lit_image s denial) = left denial (subst (λ (ls : List Lit). Has ls denial) (sym p.left) (has_behind (remove c.lits i) (denial ∷ []) denial (0, refl))) in
      record {
        images = images_there v (scope_of c) f e s made;
        factored = record {
          side = image s p.s;
          first = image s p.t;
          second = image s p.w;
          apart = p.apart;
          first_there = get_image s c.lits i (equation first_flipped p.s p.t) p.here ∙ ap Some (equation_image (image s) first_flipped p.s p.t);
          second_there = get_image s c.lits j (equation second_flipped p.u p.w) p.there ∙ ap Some (equation_image (image s) second_flipped p.u p.w) ∙ ap (λ (t : Term). Some (equation second_flipped t (image s p.w))) (sym side);
          covered = λ n k at.
              let there : slice_get (instances s (slice_set c.lits i denial)) n ≡ Some k = ap (λ (ls : List Lit). slice_get ls n) (map_set (lit_image s) c.lits i denial) ∙ at in
              let from = image_from (lit_image s) (slice_set c.lits i denial) k n there in
              elim (changed_or c.lits i denial n from.0 from.1) [
                | inl same ↦ stands e.lits k (subst (Has e.lits) (ap (lit_image s) (sym same) ∙ from.2) denied_there)
                | inr h ↦ stands e.lits k (subst (Has e.lits) from.2 (left from.0 (subst (λ (ls : List Lit). Has ls from.0) (sym p.left) (has_before (remove c.lits i) (denial ∷ []) from.0 h))))
              ];
        };
      }
