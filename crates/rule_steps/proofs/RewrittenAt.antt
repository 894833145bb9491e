-- The search for a rewriting of one term with one equation.
use Rattle.std.specs.Prelude.{ℕ, Bool, true, ◌≡◌, ◌≤◌, ◌^◌, List, [], ◌∷◌, ◌++◌, length, map, Option, Some, None, slice_get, refl}
use Rattle.std.specs.Option.{option_map}
use Rattle.std.proofs.Common.{ap, sym, subst, ◌∙◌, arith, length-append}
use Rattle.std.proofs.lemmas.List.{length-reverse}
use Rattle.std.proofs.lemmas.List.Elements.{recursion_from_All, All-from_recursion}
use Rattle.std.proofs.lemmas.Option.{slice_get_within}
use Rattle.fof_terms.specs.Vocabulary.{Vocabulary}
use Rattle.fof_terms.specs.declared.term.Term.{Term, Var}
use Rattle.fof_terms.specs.Lift.{lifted_term}
use Rattle.fof_terms.specs.Sorts.{sort_of_term}
use Rattle.fof_terms.proofs.Walks.{lifted_sort}
use Rattle.clause_form.specs.declared.clause.Lit.{Lit}
use Rattle.clause_form.specs.declared.clause.Clause.{Clause}
use Rattle.clause_form.proofs.ClauseLaws.{get_image, images_then, sorted_more}
use Rattle.clause_form.specs.Covers.{lit_apart, lit_image, scope_of, is_sorted_atom, AreSorted, CoversBy, IsCovered}
use Rattle.clause_form.specs.Images.{image, IsImages}
use Rattle.clause_form.proofs.ImagesFacts.{image-Var, image_image, image_of_lifted, image_agrees, image_sorted, AgreeOn}
use Rattle.unify_terms.specs.declared.pair.Pair.{Pair}
use Rattle.unify_terms.specs.Substitution.{image_at, instance, IsSubstitution}
use Rattle.unify_terms.specs.Unifiers.{Unified, Unifies, IsMostGeneral, AreSorted as ArePairsSorted}
use Rattle.clause_rules.specs.declared.joint.Joint.{Joint}
use Rattle.clause_rules.specs.JointClauses.{IsJoinedOne}
use Rattle.clause_rules.specs.RewriteRule.{AreLitsRewritten, Rewrites, StandsIn}
use Rattle.rule_steps.specs.code.RewriteSearch.{IsRewriting, SettlesRewriting}
use Rattle.clause_rules.specs.Settled.{IsFit, Settles}
use Rattle.clause_rules.specs.Steps.{equation, images_of_parents, IsJoint}
use Rattle.clause_rules.specs.Ways.{pair_of}
use Rattle.clause_rules.proofs.Equations.{equation_parts, same_sides}
use Rattle.rule_steps.proofs.Factoring.{equation_fits}
use Rattle.clause_rules.proofs.JointImages.{made, made_joint, made_agrees, parents_images, sorted_further}
use Rattle.clause_rules.proofs.LitImages.{imaging, instance_is, image_itself}
use Rattle.rule_steps.proofs.Named.{named_image}
use Rattle.clause_rules.proofs.NeedSorts.{Found, sorted_fits}
use Rattle.rule_steps.proofs.ParamodulatedAt.{sorted_at, equation_sort}
use Rattle.clause_rules.proofs.PlaceSorts.{term_found}
use Rattle.rule_steps.proofs.RewrittenTerms.{lits_kept, lits_same}

only : {X : Type 0} (xs : List X) → length xs ≡ 1 → (x : X) × (xs ≡ x ∷ [])
only [] e = absurd (omega (arith, e))
only (x ∷ []) e = (x, refl)
only (x ∷ y ∷ xs) e = absurd (omega (arith, e))

module _ (v : Vocabulary) (into by line : Clause) (into_fit : IsFit v into) (by_fit : IsFit v by) (target : Term) (stands : StandsIn target into.lits) (flipped : Bool) (joint : Joint) (joined : IsJoinedOne into by joint) (single : length by.lits ≡ 1) (l' r' : Term) (over : slice_get joint.left 0 ≡ Some (equation flipped l' r')) where
  abbrev n : ℕ
  n = length into.sorts

  abbrev lift : Term → Term
  lift = lifted_term n 0

  abbrev sorts : List ℕ
  sorts = scope_of into ++ scope_of by

  abbrev pairs : List Pair
  pairs = pair_of l' target ∷ []

  -- the equation as it stands in its clause
  record Shape : Type 0 where
    l : Term
    r : Term
    is : by.lits ≡ equation flipped l r ∷ []
    left : lift l ≡ l'
    right : lift r ≡ r'

  shape : Shape
  shape =
      let o = only by.lits single in
      let there : Some (lit_apart n o.0) ≡ Some (equation flipped l' r') = sym (ap (λ (ks : List Lit). slice_get ks 0) joined.lits ∙ ap (λ (ks : List Lit). slice_get (map (lit_apart n) ks) 0) o.1) ∙ over in
      let e : lit_apart n o.0 ≡ equation flipped l' r' = cc in
      let p = equation_parts lift o.0 flipped l' r' e in
      record { l = p.0; r = p.1; is = o.1 ∙ ap (λ (k : Lit). k ∷ []) p.2; left = p.3; right = p.4 }

  equation_sorted : is_sorted_atom v (scope_of by) (equation flipped shape.l shape.r).atom ≡ true
  equation_sorted = sorted_at v (scope_of by) by.lits 0 (equation flipped shape.l shape.r) by_fit.sorted (ap (λ (ks : List Lit). slice_get ks 0) shape.is)

  l_found : Found v (scope_of by) shape.l
  l_found = (equation_fits v (scope_of by) flipped shape.l shape.r (sorted_fits v (scope_of by) (equation flipped shape.l shape.r).atom equation_sorted)).0

  r_sort : sort_of_term v (scope_of by) shape.r ≡ Some l_found.0
  r_sort = equation_sort v (scope_of by) flipped shape.l shape.r equation_sorted ∙ l_found.1

  lifted_found : (t : Term) → sort_of_term v sorts (lift t) ≡ sort_of_term v (scope_of by) t
  lifted_found t = ap (λ m. sort_of_term v sorts (lifted_term m 0 t)) (sym (length-reverse into.sorts)) ∙ lifted_sort v (scope_of into) (scope_of by) [] t

  left_sort : sort_of_term v sorts l' ≡ Some l_found.0
  left_sort = ap (sort_of_term v sorts) (sym shape.left) ∙ lifted_found shape.l ∙ l_found.1

  right_sort : sort_of_term v sorts r' ≡ Some l_found.0
  right_sort = ap (sort_of_term v sorts) (sym shape.right) ∙ lifted_found shape.r ∙ r_sort

  target_found : Found v (scope_of into) target
  target_found = term_found v (scope_of into) stands.2 stands.1 target stands.4 (sorted_at v (scope_of into) into.lits stands.0 stands.2 into_fit.sorted stands.3)

  target_sort : sort_of_term v sorts target ≡ Some target_found.0
  target_sort = sorted_more v (scope_of into) (scope_of by) target target_found.0 target_found.1

  pub few_in_match : length joint.scope.sorts ≤ 2 ^ 32
  few_in_match =
      let one = length-append (scope_of into) (scope_of by) in
      let a = length-reverse into.sorts in
      let b = length-reverse by.sorts in
      let e = into_fit.few in
      let f = by_fit.few in
      rw joined.sorts (omega arith)

  pub pairs_sorted : ArePairsSorted v joint.scope.sorts pairs
  pairs_sorted =
      let go : ArePairsSorted v sorts pairs = (((λ e. let f : None ≡ Some l_found.0 = sym e ∙ left_sort in cc), (λ e. let f : None ≡ Some target_found.0 = sym e ∙ target_sort in cc)), tt) in
      subst (λ ss. ArePairsSorted v ss pairs) (sym joined.sorts) go

  -- variables of the clause stand for themselves in each substitution over it and the equation
  module _ (to : List ℕ) (images : List Term) (sub : IsSubstitution v sorts n to images) where
    fixed : (k r : ℕ) → slice_get (scope_of into) k ≡ Some r → image_at images k ≡ Var k
    fixed k r e =
        let within = slice_get_within (scope_of into) k r e in
        let all = length-append (scope_of into) (scope_of by) in
        let size = length-reverse into.sorts in
        sub.rigids k (omega arith) (omega arith)

    target_stays : image (image_at images) target ≡ target
    target_stays = image_agrees v (scope_of into) (image_at images) Var (record { same = fixed }) target target_found.0 target_found.1 ∙ image_itself target

    sub_images : IsImages v sorts to (image_at images)
    sub_images = record { sorted = λ k q e. sub.sorted k (slice_get_within sorts k q e) ∙ e }

  by_parent : (images : List Term) (t : Term) → image (image_at images) (lift t) ≡ image (images_of_parents into images) t
  by_parent images t = image_of_lifted (image_at images) n t

  -- what a rewriting by any substitutions is
  module _ (further : List ℕ) (r : ℕ → Term) (more : List ℕ) (s : ℕ → Term) (h : Rewrites v into by line target flipped further r more s) where
    abbrev other : List Term
    other = made v into (scope_of by) further r h.by_images

    other_sub : IsSubstitution v sorts n (scope_of into ++ further) other
    other_sub = made_joint v into (scope_of by) further r h.by_images

    sides : (h.left ≡ shape.l) × (h.right ≡ shape.r)
    sides =
        let e : equation flipped h.left h.right ∷ [] ≡ equation flipped shape.l shape.r ∷ [] = sym h.is_equation ∙ shape.is in
        let f : equation flipped h.left h.right ≡ equation flipped shape.l shape.r = cc in
        same_sides flipped h.left h.right shape.l shape.r f

    agrees : (t : Term) (q : ℕ) → sort_of_term v (scope_of by) t ≡ Some q → image (image_at other) (lift t) ≡ image r t
    agrees t q e = by_parent other t ∙ sym (image_agrees v (scope_of by) r (images_of_parents into other) (made_agrees v into (scope_of by) further r h.by_images) t q e)

    other_unifies : Unifies other pairs
    other_unifies =
        let left : image (image_at other) l' ≡ target = ap (image (image_at other)) (sym shape.left) ∙ agrees shape.l l_found.0 l_found.1 ∙ ap (image r) (sym sides.0) ∙ h.matched in
        (instance_is other l' ∙ left ∙ sym (target_stays (scope_of into ++ further) other other_sub) ∙ sym (instance_is other target), tt)

    pub not_matched : Unified v joint.scope.sorts joint.scope.rigid pairs None → ⊥
    not_matched none = none (scope_of into ++ further) other (rw (joined.sorts, joined.rigid) other_sub) other_unifies

    module _ (images : List Term) (most : IsMostGeneral v sorts n pairs images) (lits : List Lit) (replaced : AreLitsRewritten target (instance images r') into.lits lits) where
      pub not_covered : ((more : List ℕ) (x : ℕ → Term) → CoversBy v sorts lits line more x → ⊥) → ⊥
      not_covered none =
          let g = most.general (scope_of into ++ further) other other_sub other_unifies in
          let f = image (image_at g.by) in
          let agree : AgreeOn sorts (image_at other) (λ k. image (image_at g.by) (image_at images k)) = record {
            same = λ k q e. g.instances k (slice_get_within sorts k q e) ∙ instance_is g.by (image_at images k);
          } in
          let right : image r h.right ≡ f (instance images r') =
          ap (image r) sides.1 ∙ sym (agrees shape.r l_found.0 r_sort) ∙ ap (image (image_at other)) shape.right
          ∙ image_agrees v sorts (image_at other) (λ k. image (image_at g.by) (image_at images k)) agree r' l_found.0 right_sort ∙ sym (image_image (image_at g.by) (image_at images) r') ∙ ap f (sym (instance_is images r')) in
          let fixes : (k q : ℕ) → slice_get (scope_of into) k ≡ Some q → f (Var k) ≡ Var k = λ k q e. image-Var (image_at g.by) k ∙ fixed (scope_of into ++ further) g.by g.is_substitution k q e in
          let same : h.rewritten ≡ map (lit_image (image_at g.by)) lits =
          lits_same v (scope_of into) target (instance images r') (image r h.right) f (imaging (image_at g.by)) right fixes into.lits lits h.rewritten (recursion_from_All (λ (k : Lit). is_sorted_atom v (scope_of into) k.atom ≡ true) into.lits into_fit.sorted.fits) replaced h.all_rewritten in
          none more (λ k. image s (image_at g.by k)) (record {
            images = images_then v sorts (scope_of into ++ further) (scope_of line ++ more) (image_at g.by) s (sub_images (scope_of into ++ further) g.by g.is_substitution) h.covers.images;
            covered = λ i k e. subst (IsCovered line.lits) (named_image s (image_at g.by) k) (h.covers.covered i (lit_image (image_at g.by) k) (ap (λ (ks : List Lit). slice_get ks i) same ∙ get_image (image_at g.by) lits i k e));
          })

  -- what was matched
  module _ (images : List Term) (most : IsMostGeneral v sorts n pairs images) (lits : List Lit) (replaced : AreLitsRewritten target (instance images r') into.lits lits) where
    abbrev sub : IsSubstitution v sorts n sorts images
    sub = most.is_substitution

    matched_is : image (images_of_parents into images) shape.l ≡ target
    matched_is = sym (by_parent images shape.l) ∙ ap (image (image_at images)) shape.left ∙ sym (instance_is images l') ∙ most.unifies.0 ∙ instance_is images target ∙ target_stays sorts images sub

    new_is : instance images r' ≡ image (images_of_parents into images) shape.r
    new_is = instance_is images r' ∙ ap (image (image_at images)) (sym shape.right) ∙ by_parent images shape.r

    new_sort : sort_of_term v sorts (instance images r') ≡ sort_of_term v sorts target
    new_sort =
        let keeps = sub_images sorts images sub in
        let a : sort_of_term v sorts (image (image_at images) r') ≡ Some l_found.0 = image_sorted v sorts sorts (image_at images) keeps r' l_found.0 right_sort in
        let b : sort_of_term v sorts (image (image_at images) l') ≡ Some l_found.0 = image_sorted v sorts sorts (image_at images) keeps l' l_found.0 left_sort in
        let c : image (image_at images) l' ≡ target = sym (instance_is images l') ∙ most.unifies.0 ∙ instance_is images target ∙ target_stays sorts images sub in
        ap (sort_of_term v sorts) (instance_is images r') ∙ a ∙ sym b ∙ ap (sort_of_term v sorts) c

    pub replaced_sorted : AreSorted v sorts lits
    replaced_sorted = record {
      fits = All-from_recursion (λ (k : Lit). is_sorted_atom v sorts k.atom ≡ true) lits
          (lits_kept v sorts target (instance images r') new_sort into.lits lits replaced (recursion_from_All (λ (k : Lit). is_sorted_atom v sorts k.atom ≡ true) into.lits (sorted_further v (scope_of into) (scope_of by) into.lits into_fit.sorted).fits));
    }

    pub covered_is : (found : List Term) → IsJoint v line sorts found → CoversBy v sorts lits line sorts (images_of_parents line found) → IsRewriting v into by line target flipped images found
    covered_is found joint_ covers = record {
      matched = sub;
      joint = joint_;
      rewrites = record {
        left = shape.l;
        right = shape.r;
        is_equation = shape.is;
        by_images = parents_images v into (scope_of by) images sub;
        matched = matched_is;
        stands = stands;
        rewritten = lits;
        all_rewritten = subst (λ x. AreLitsRewritten target x into.lits lits) new_is replaced;
        covers = covers;
      };
    }

    pub settled_rewriting : (found : Option (List Term)) → Settles v line sorts (CoversBy v sorts lits line) found → SettlesRewriting v into by line target flipped (option_map (λ (x : List Term). record { target = target; by_subst = images; subst = x }) found)
    settled_rewriting None none = λ further r more s h. not_covered further r more s h images most lits replaced none
    settled_rewriting (Some found) some = (refl, covered_is found some.0 some.1)
