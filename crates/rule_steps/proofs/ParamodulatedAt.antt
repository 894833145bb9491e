-- The search for a paramodulation at one place with one equation.
use Rattle.std.specs.Prelude.{ℕ, Bool, true, false, ◌≡◌, List, [], ◌∷◌, ◌++◌, length, map, remove, take, drop, Option, Some, None, slice_get, slice_set, refl}
use Rattle.std.proofs.Common.{ap, sym, subst, ◌∙◌, arith, zero, suc, inl, inr}
use Rattle.std.proofs.lemmas.Bool.Decides.{nat_tests}
use Rattle.std.proofs.lemmas.Option.{slice_get_within}
use Rattle.std.proofs.lemmas.List.Elements.{recursion_from_All}
use Rattle.fof_terms.specs.Vocabulary.{Vocabulary}
use Rattle.fof_terms.specs.declared.term.Term.{Term}
use Rattle.fof_terms.proofs.Scoped.{member_of}
use Rattle.fof_terms.specs.Sorts.{sort_of_term, one_sort}
use Rattle.clause_form.specs.declared.clause.Lit.{Lit}
use Rattle.clause_form.specs.declared.clause.Clause.{Clause}
use Rattle.clause_form.proofs.ClauseLaws.{get_image}
use Rattle.clause_form.specs.Covers.{lit_apart, lit_image, scope_of, is_sorted_atom, AreSorted}
use Rattle.clause_form.specs.Images.{image, IsImages}
use Rattle.clause_form.proofs.ImagesFacts.{image_sorted}
use Rattle.unify_terms.specs.declared.goal.Goal.{Goal}
use Rattle.unify_terms.specs.declared.pair.Pair.{Pair}
use Rattle.unify_terms.specs.Goals.{goal_sorted}
use Rattle.unify_terms.specs.Substitution.{image_at}
use Rattle.clause_rules.specs.declared.joint.Joint.{Joint}
use Rattle.clause_rules.specs.JointClauses.{IsJoined}
use Rattle.clause_rules.specs.ParamodulationRule.{IsParamodulant, HasPlace, Paramodulates}
use Rattle.rule_steps.proofs.ParamodulationSearchFacts.{paramodulation_needs}
use Rattle.clause_rules.specs.Places.{lit_term_at, lit_put_at}
use Rattle.clause_rules.specs.Settled.{IsFit, Settles}
use Rattle.substitution_search.specs.Settled.{IsSolution}
use Rattle.clause_rules.specs.Steps.{AreCovered, equation, instances, scope_of_both, apart_from}
use Rattle.substitution_search.proofs.WaysFacts.{MeetsNeeds}
use Rattle.clause_rules.specs.Ways.{goal_of_needs}
use Rattle.substitution_search.proofs.Covering.{pair_forth, pair_back, covers_forth, covers_back}
use Rattle.clause_rules.proofs.Equations.{equation_image, same_sides, map_set}
use Rattle.rule_steps.proofs.Factoring.{set_fits, equation_fits}
use Rattle.clause_rules.proofs.Firsts.{one_at}
use Rattle.clause_rules.proofs.JointImages.{made, made_joint, sorted_further}
use Rattle.clause_rules.proofs.LitImages.{imaging}
use Rattle.clause_rules.proofs.NeedSorts.{Found, AllFit, NeedsFit, sorted_fits, alone_fits, covers_fit, all_sorted_fit, goal_fits}
use Rattle.clause_rules.proofs.PlaceLaws.{lit_at_walk, lit_put_walk}
use Rattle.clause_rules.proofs.PlaceSorts.{replaced_fits, term_found}
use Rattle.rule_steps.proofs.ResolvedAt.{parents_fit, left_fits, right_fits}
use Rattle.rule_steps.proofs.Settling.{settled_by, settles_like, held_by_made}

map_take : {X Y : Type 0} (f : X → Y) (i : ℕ) (xs : List X) → map f (take i xs) ≡ take i (map f xs)
map_take f zero xs = refl
map_take f (suc i) [] = refl
map_take f (suc i) (x ∷ xs) = ap (λ ys. f x ∷ ys) (map_take f i xs)

map_drop : {X Y : Type 0} (f : X → Y) (i : ℕ) (xs : List X) → map f (drop i xs) ≡ drop i (map f xs)
map_drop f zero xs = refl
map_drop f (suc i) [] = refl
map_drop f (suc i) (x ∷ xs) = map_drop f i xs

map_both : {X Y : Type 0} (f : X → Y) (xs ys : List X) → map f (xs ++ ys) ≡ map f xs ++ map f ys
map_both f [] ys = refl
map_both f (x ∷ xs) ys = ap (λ zs. f x ∷ zs) (map_both f xs ys)

map_remove : {X Y : Type 0} (f : X → Y) (xs : List X) (i : ℕ) → map f (remove xs i) ≡ remove (map f xs) i
map_remove f xs i = map_both f (take i xs) (drop (suc i) xs) ∙ ap (λ ys. ys ++ map f (drop (suc i) xs)) (map_take f i xs) ∙ ap (λ ys. take i (map f xs) ++ ys) (map_drop f (suc i) xs)

-- the needs are met exactly where the instances are a paramodulant
module _ (images : List Term) (line into from : List Lit) (i : ℕ) (place : List ℕ) (j : ℕ) (flipped : Bool) (k : Lit) (u l r : Term) (at : slice_get into i ≡ Some k) (there : lit_term_at place k ≡ Some u) (over : slice_get from j ≡ Some (equation flipped l r)) where
  abbrev I : Term → Term
  I = image (image_at images)

  abbrev L : Lit → Lit
  L = lit_image (image_at images)

  changed_at : slice_get (map L into) i ≡ Some (L k)
  changed_at = get_image (image_at images) into i k at

  equation_at : slice_get (map L from) j ≡ Some (equation flipped (I l) (I r))
  equation_at = get_image (image_at images) from j (equation flipped l r) over ∙ ap Some (equation_image I flipped l r)

  term_there : lit_term_at place (L k) ≡ Some (I u)
  term_there = lit_at_walk I (imaging (image_at images)) place k u there

  others_are : map L (slice_set into i (lit_put_at place r k) ++ remove from j) ≡ slice_set (map L into) i (lit_put_at place (I r) (L k)) ++ remove (map L from) j
  others_are =
      map_both L (slice_set into i (lit_put_at place r k)) (remove from j)
      ∙ ap (λ ks. ks ++ map L (remove from j)) (map_set L into i (lit_put_at place r k) ∙ ap (slice_set (map L into) i) (lit_put_walk I (imaging (image_at images)) place k u r there))
      ∙ ap (λ ks. slice_set (map L into) i (lit_put_at place (I r) (L k)) ++ ks) (map_remove L from j)

  pub paramodulant_forth : MeetsNeeds images (paramodulation_needs line into from i place k u l r j) → IsParamodulant (map L line) (map L into) (map L from) i place j flipped
  paramodulant_forth h =
      let same : I u ≡ I l = elim h.0 [
        | inl p ↦ pair_forth images u l p.0
        | inr none ↦ absurd none
      ] in
      record {
        changed = L k;
        left = I l;
        right = I r;
        in_into = changed_at;
        in_from = equation_at;
        stands = term_there ∙ ap Some same;
        covered = subst (AreCovered (map L line)) others_are (covers_forth images line (slice_set into i (lit_put_at place r k) ++ remove from j) h.1);
      }

  -- the sides of a paramodulant are the instances of the sides
  parts_of : (h : IsParamodulant (map L line) (map L into) (map L from) i place j flipped) → (h.changed ≡ L k) × (h.left ≡ I l) × (h.right ≡ I r)
  parts_of h =
      let both = same_sides flipped h.left h.right (I l) (I r) (one_at (map L from) j (equation flipped h.left h.right) (equation flipped (I l) (I r)) h.in_from equation_at) in
      (one_at (map L into) i h.changed (L k) h.in_into changed_at, both.0, both.1)

  pub sides_meet : IsParamodulant (map L line) (map L into) (map L from) i place j flipped → I u ≡ I l
  sides_meet h =
      let parts = parts_of h in
      let e : Some (I u) ≡ Some h.left = sym term_there ∙ ap (lit_term_at place) (sym parts.0) ∙ h.stands in
      let f : I u ≡ h.left = cc in
      f ∙ parts.1

  pub paramodulant_back : IsParamodulant (map L line) (map L into) (map L from) i place j flipped → MeetsNeeds images (paramodulation_needs line into from i place k u l r j)
  paramodulant_back h =
      let parts = parts_of h in
      let same : slice_set (map L into) i (lit_put_at place h.right h.changed) ++ remove (map L from) j ≡ map L (slice_set into i (lit_put_at place r k) ++ remove from j) =
      ap (λ x. slice_set (map L into) i (lit_put_at place x h.changed) ++ remove (map L from) j) parts.2 ∙ ap (λ (x : Lit). slice_set (map L into) i (lit_put_at place (I r) x) ++ remove (map L from) j) parts.0 ∙ sym others_are in
      (inl (pair_back images u l (sides_meet h), tt), covers_back images line (slice_set into i (lit_put_at place r k) ++ remove from j) (subst (AreCovered (map L line)) same h.covered))

take_fits : (v : Vocabulary) (scope : List ℕ) (i : ℕ) (lits : List Lit) → AllFit v scope lits → AllFit v scope (take i lits)
take_fits v scope zero lits h = tt
take_fits v scope (suc i) [] h = tt
take_fits v scope (suc i) (k ∷ lits) h = (h.0, take_fits v scope i lits h.1)

drop_fits : (v : Vocabulary) (scope : List ℕ) (i : ℕ) (lits : List Lit) → AllFit v scope lits → AllFit v scope (drop i lits)
drop_fits v scope zero lits h = h
drop_fits v scope (suc i) [] h = tt
drop_fits v scope (suc i) (k ∷ lits) h = drop_fits v scope i lits h.1

both_fit : (v : Vocabulary) (scope : List ℕ) (first second : List Lit) → AllFit v scope first → AllFit v scope second → AllFit v scope (first ++ second)
both_fit v scope [] second h g = g
both_fit v scope (k ∷ first) second h g = (h.0, both_fit v scope first second h.1 g)

-- both sides of a well-sorted equation have one sort
one_sort_both : (l r : Option ℕ) → one_sort l r ≡ true → l ≡ r
one_sort_both l None e = cc
one_sort_both None (Some y) e = cc
one_sort_both (Some x) (Some y) e = let same : x ≡ y = grind (arith, nat_tests) in ap Some same

pub equation_sort : (v : Vocabulary) (scope : List ℕ) (flipped : Bool) (l r : Term) → is_sorted_atom v scope (equation flipped l r).atom ≡ true → sort_of_term v scope r ≡ sort_of_term v scope l
equation_sort v scope false l r e = sym (one_sort_both (sort_of_term v scope l) (sort_of_term v scope r) e)
equation_sort v scope true l r e = one_sort_both (sort_of_term v scope r) (sort_of_term v scope l) e

pub sorted_at : (v : Vocabulary) (scope : List ℕ) (lits : List Lit) (i : ℕ) (k : Lit) → AreSorted v scope lits → slice_get lits i ≡ Some k → is_sorted_atom v scope k.atom ≡ true
sorted_at v scope lits i k h at = member_of (λ (l : Lit). is_sorted_atom v scope l.atom ≡ true) lits i k (recursion_from_All (λ (l : Lit). is_sorted_atom v scope l.atom ≡ true) lits h.fits) at

module _ (v : Vocabulary) (into from line : Clause) (into_fit : IsFit v into) (from_fit : IsFit v from) (line_fit : IsFit v line) (joint : Joint) (joined : IsJoined line into from joint) (i j : ℕ) (place : List ℕ) (flipped : Bool) (k : Lit) (u l r : Term) (at : slice_get joint.left i ≡ Some k) (there : lit_term_at place k ≡ Some u) (over : slice_get joint.right j ≡ Some (equation flipped l r)) where
  abbrev parents : List ℕ
  parents = scope_of_both into from

  abbrev sorts : List ℕ
  sorts = scope_of line ++ parents

  abbrev pub needs : List (List (List Pair))
  needs = paramodulation_needs line.lits joint.left joint.right i place k u l r j

  line_over : AreSorted v sorts line.lits
  line_over = sorted_further v (scope_of line) parents line.lits line_fit.sorted

  into_over : AreSorted v sorts joint.left
  into_over = subst (AreSorted v sorts) (sym joined.left_lits) (parents_fit v line parents into.lits (left_fits v into from into_fit))

  from_over : AreSorted v sorts joint.right
  from_over = subst (AreSorted v sorts) (sym joined.right_lits) (parents_fit v line parents (apart_from into from.lits) (right_fits v into from from_fit))

  abbrev Q : List Lit → List Lit → List Lit → Type 0
  Q ls ks ms = IsParamodulant ls ks ms i place j flipped

  abbrev Over : List Term → List Lit → List Lit → Type 0
  Over images ks ms = Q (map (lit_image (image_at images)) line.lits) (map (lit_image (image_at images)) ks) (map (lit_image (image_at images)) ms)

  to_joint : (images : List Term) → Over images (map (lit_apart (length line.sorts)) into.lits) (map (lit_apart (length line.sorts)) (apart_from into from.lits)) → Over images joint.left joint.right
  to_joint images h = subst (λ ms. Over images joint.left ms) (sym joined.right_lits) (subst (λ ks. Over images ks (map (lit_apart (length line.sorts)) (apart_from into from.lits))) (sym joined.left_lits) h)

  from_joint : (images : List Term) → Over images joint.left joint.right → Over images (map (lit_apart (length line.sorts)) into.lits) (map (lit_apart (length line.sorts)) (apart_from into from.lits))
  from_joint images h = subst (λ ks. Over images ks (map (lit_apart (length line.sorts)) (apart_from into from.lits))) joined.left_lits (subst (λ ms. Over images joint.left ms) joined.right_lits h)

  u_found : Found v sorts u
  u_found = term_found v sorts k place u there (sorted_at v sorts joint.left i k into_over at)

  l_found : Found v sorts l
  l_found = (equation_fits v sorts flipped l r (sorted_fits v sorts (equation flipped l r).atom (sorted_at v sorts joint.right j (equation flipped l r) from_over over))).0

  -- the term and the left side have one sort wherever a substitution makes them the same
  pub sorts_meet : (more : List ℕ) (s : ℕ → Term) → Paramodulates v into from line i place j flipped more s → sort_of_term v joint.scope.sorts u ≡ sort_of_term v joint.scope.sorts l
  sorts_meet more s h =
      let images = made v line parents more s h.images in
      let sub = made_joint v line parents more s h.images in
      let held = to_joint images (held_by_made v line parents line_fit.sorted into.lits (apart_from into from.lits) Q (left_fits v into from into_fit) (right_fits v into from from_fit) more s h.images h.paramodulant) in
      let same = sides_meet images line.lits joint.left joint.right i place j flipped k u l r at there over held in
      let keeps : IsImages v sorts (scope_of line ++ more) (image_at images) = record { sorted = λ n q e. sub.sorted n (slice_get_within sorts n q e) ∙ e } in
      let one = image_sorted v sorts (scope_of line ++ more) (image_at images) keeps u u_found.0 u_found.1 in
      let two = image_sorted v sorts (scope_of line ++ more) (image_at images) keeps l l_found.0 l_found.1 in
      let is : sort_of_term v sorts u ≡ sort_of_term v sorts l = u_found.1 ∙ sym one ∙ ap (sort_of_term v (scope_of line ++ more)) same ∙ two ∙ sym l_found.1 in
      rw joined.sorts is

  module _ (one : sort_of_term v joint.scope.sorts u ≡ sort_of_term v joint.scope.sorts l) (goal : Goal) (asks : goal ≡ goal_of_needs needs) where
    same_sort : sort_of_term v sorts r ≡ sort_of_term v sorts u
    same_sort =
        let here : sort_of_term v sorts u ≡ sort_of_term v sorts l = rw joined.sorts at one in
        equation_sort v sorts flipped l r (sorted_at v sorts joint.right j (equation flipped l r) from_over over) ∙ sym here

    needs_fit : NeedsFit v sorts needs
    needs_fit =
        let changed = sorted_fits v sorts (lit_put_at place r k).atom (replaced_fits v sorts u r same_sort k place there (sorted_at v sorts joint.left i k into_over at)) in
        let first = set_fits v sorts joint.left i (lit_put_at place r k) changed (all_sorted_fit v sorts joint.left into_over) in
        let right_all = all_sorted_fit v sorts joint.right from_over in
        let second = both_fit v sorts (take j joint.right) (drop (suc j) joint.right) (take_fits v sorts j joint.right right_all) (drop_fits v sorts (suc j) joint.right right_all) in
        rw (alone_fits v sorts u l u_found l_found, covers_fit v sorts line.lits (slice_set joint.left i (lit_put_at place r k) ++ remove joint.right j) (all_sorted_fit v sorts line.lits line_over) (both_fit v sorts (slice_set joint.left i (lit_put_at place r k)) (remove joint.right j) first second)) refl

    pub paramodulation_sorted : goal_sorted v joint.scope.sorts goal ≡ true
    paramodulation_sorted = rw (joined.sorts, asks) (goal_fits v sorts needs needs_fit)

    pub paramodulation_settled : HasPlace into.lits i place → (found : Option (List Term)) → IsSolution v joint.scope goal found → Settles v line parents (Paramodulates v into from line i place j flipped) found
    paramodulation_settled has found solution =
        settles_like v line parents (λ more s. IsImages v parents (scope_of line ++ more) s × Q line.lits (instances s into.lits) (instances s (apart_from into from.lits))) (Paramodulates v into from line i place j flipped)
        (λ more s h. record { images = h.0; place_of = has; paramodulant = h.1 }) (λ more s h. (h.images, h.paramodulant)) found
        (settled_by v line parents line_fit.sorted into.lits (apart_from into from.lits) (left_fits v into from into_fit) (right_fits v into from from_fit) Q joint.scope joined.sorts joined.rigid goal needs asks
        (λ images h. from_joint images (paramodulant_forth images line.lits joint.left joint.right i place j flipped k u l r at there over h))
        (λ images h. paramodulant_back images line.lits joint.left joint.right i place j flipped k u l r at there over (to_joint images h))
        found solution)
