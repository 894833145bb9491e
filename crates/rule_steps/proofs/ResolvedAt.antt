-- The search at two literals: its goal is well-sorted, and what solves it shows the resolution.
use Rattle.std.specs.Prelude.{ℕ, ◌≡◌, ◌+◌, ◌<◌, ◌≤◌, ◌^◌, not, true, List, [], ◌∷◌, ◌++◌, length, map, Option, Some, None, slice_get, get_or, refl}
use Rattle.std.proofs.Common.{ap, sym, subst, arith, length-append, zero, suc}
use Rattle.std.proofs.lemmas.List.{length-reverse}
use Rattle.std.proofs.lemmas.List.Elements.{All-append, All-cons, All-nil, All-get_or}
use Rattle.std.proofs.lemmas.Option.{slice_get-get_or, slice_get_within}
use Rattle.fof_terms.specs.Vocabulary.{Vocabulary}
use Rattle.fof_terms.specs.declared.term.Term.{Term}
use Rattle.clause_form.specs.declared.clause.Lit.{Lit}
use Rattle.clause_form.specs.declared.clause.Clause.{Clause}
use Rattle.clause_form.proofs.ClauseLaws.{get_image}
use Rattle.clause_form.specs.Covers.{lit_apart, lit_image, scope_of, is_sorted_atom, AreSorted, AreComplementary}
use Rattle.unify_terms.specs.declared.goal.Goal.{Goal}
use Rattle.unify_terms.specs.Goals.{goal_sorted}
use Rattle.unify_terms.specs.Substitution.{image_at}
use Rattle.clause_rules.specs.declared.joint.Joint.{Joint}
use Rattle.rule_steps.specs.declared.resolution_rule.Found.{Found}
use Rattle.clause_rules.specs.JointClauses.{IsJoined}
use Rattle.clause_rules.specs.ResolutionRule.{IsResolvent, ResolvesTo}
use Rattle.rule_steps.specs.code.ResolutionSearch.{resolution_needs, NeverResolves, AsksAt, FoundAt}
use Rattle.substitution_search.specs.Screens.{NeverClash, NeverPivot}
use Rattle.clause_rules.specs.Settled.{IsFit, Settles}
use Rattle.substitution_search.specs.Settled.{IsSolution}
use Rattle.clause_rules.specs.Steps.{scope_of_both, apart_from, instances, IsJoint}
use Rattle.substitution_search.proofs.WaysFacts.{MeetsNeeds}
use Rattle.clause_rules.specs.Ways.{cover_needs}
use Rattle.clause_rules.proofs.Firsts.{one_at}
use Rattle.clause_rules.proofs.JointImages.{sorted_further, sorted_apart, made, made_joint, parents_images}
use Rattle.clause_rules.proofs.LitImages.{images_apart}
use Rattle.substitution_search.proofs.Meeting.{solved_needs, unsolved_needs}
use Rattle.clause_rules.proofs.NeedSorts.{NeedsFit, sorted_fits, lit_fits, all_cover_fits, more_fit, goal_fits}
use Rattle.rule_steps.proofs.Resolving.{resolvent_forth, resolvent_back}
use Rattle.rule_steps.proofs.Settling.{wanted_of_held, held_by_made}

-- literals of two clauses over the scope of both
pub left_fits : (v : Vocabulary) (left right : Clause) → IsFit v left → AreSorted v (scope_of_both left right) left.lits
left_fits v left right fit = sorted_further v (scope_of left) (scope_of right) left.lits fit.sorted

pub right_fits : (v : Vocabulary) (left right : Clause) → IsFit v right → AreSorted v (scope_of_both left right) (apart_from left right.lits)
right_fits v left right fit = sorted_apart v (scope_of left) (scope_of right) (length left.sorts) right.lits (sym (length-reverse left.sorts)) fit.sorted

-- literals over the parents' scope, over the scope with the line
pub parents_fit : (v : Vocabulary) (line : Clause) (scope : List ℕ) (lits : List Lit) → AreSorted v scope lits → AreSorted v (scope_of line ++ scope) (map (lit_apart (length line.sorts)) lits)
parents_fit v line scope lits h = sorted_apart v (scope_of line) scope (length line.sorts) lits (sym (length-reverse line.sorts)) h

-- one literal more
pub one_more_fits : (v : Vocabulary) (scope : List ℕ) (lits others : List Lit) (i : ℕ) (k : Lit) → AreSorted v scope lits → AreSorted v scope others → slice_get others i ≡ Some k → AreSorted v scope (lits ++ k ∷ [])
one_more_fits v scope lits others i k h g e =
    let P : Lit → Type 0 = λ (l : Lit). is_sorted_atom v scope l.atom ≡ true in
    let within = slice_get_within others i k e in
    let same : get_or others i k ≡ k = let f = slice_get-get_or others i k within in cc in
    record { fits = All-append P lits (k ∷ []) h.fits (All-cons P k [] (subst P same (All-get_or P others i k within g.fits)) (All-nil P)) }

pub one_fits : (v : Vocabulary) (scope : List ℕ) (others : List Lit) (i : ℕ) (k : Lit) → AreSorted v scope others → slice_get others i ≡ Some k → is_sorted_atom v scope k.atom ≡ true
one_fits v scope others i k g e =
    let P : Lit → Type 0 = λ (l : Lit). is_sorted_atom v scope l.atom ≡ true in
    let within = slice_get_within others i k e in
    let same : get_or others i k ≡ k = let f = slice_get-get_or others i k within in cc in
    subst P same (All-get_or P others i k within g.fits)

module _ (v : Vocabulary) (left right line : Clause) (left_fit : IsFit v left) (right_fit : IsFit v right) (line_fit : IsFit v line) (joint : Joint) (joined : IsJoined line left right joint) (i j : ℕ) (goal : Goal) (asks : AsksAt line joint i j goal) where
  abbrev parents : List ℕ
  parents = scope_of_both left right

  abbrev sorts : List ℕ
  sorts = scope_of line ++ parents

  pub few_variables : length joint.scope.sorts ≤ 2 ^ 32
  few_variables =
      let one = length-append (scope_of line) parents in
      let two = length-append (scope_of left) (scope_of right) in
      let a = length-reverse line.sorts in
      let b = length-reverse left.sorts in
      let d = length-reverse right.sorts in
      let e = line_fit.few in
      let f = left_fit.few in
      let g = right_fit.few in
      rw joined.sorts (omega arith)

  line_over : AreSorted v sorts line.lits
  line_over = sorted_further v (scope_of line) parents line.lits line_fit.sorted

  left_over : AreSorted v sorts joint.left
  left_over = subst (AreSorted v sorts) (sym joined.left_lits) (parents_fit v line parents left.lits (left_fits v left right left_fit))

  right_over : AreSorted v sorts joint.right
  right_over = subst (AreSorted v sorts) (sym joined.right_lits) (parents_fit v line parents (apart_from left right.lits) (right_fits v left right right_fit))

  module _ (pivot opposite : Lit) (at : slice_get joint.left i ≡ Some pivot) (over : slice_get joint.right j ≡ Some opposite) where
    needs_fit : NeedsFit v sorts (resolution_needs line.lits joint.left joint.right pivot opposite)
    needs_fit =
        let first = lit_fits v sorts (not pivot.positive) pivot.atom opposite (sorted_fits v sorts pivot.atom (one_fits v sorts joint.left i pivot left_over at)) (sorted_fits v sorts opposite.atom (one_fits v sorts joint.right j opposite right_over over)) in
        let second = all_cover_fits v sorts (line.lits ++ pivot ∷ []) joint.left (one_more_fits v sorts line.lits joint.left i pivot line_over left_over at) left_over in
        let third = all_cover_fits v sorts (line.lits ++ opposite ∷ []) joint.right (one_more_fits v sorts line.lits joint.right j opposite line_over right_over over) right_over in
        rw (first, more_fit v sorts (cover_needs (line.lits ++ pivot ∷ []) joint.left) (cover_needs (line.lits ++ opposite ∷ []) joint.right) second third) refl

    pub goal_is_sorted : goal_sorted v joint.scope.sorts goal ≡ true
    goal_is_sorted = rw (joined.sorts, asks pivot opposite at over) (goal_fits v sorts (resolution_needs line.lits joint.left joint.right pivot opposite) needs_fit)

    abbrev Q : List Lit → List Lit → List Lit → Type 0
    Q ls ks ms = IsResolvent ls ks ms i j

    held : (images : List Term) → MeetsNeeds images (resolution_needs line.lits joint.left joint.right pivot opposite)
        → Q (map (lit_image (image_at images)) line.lits) (map (lit_image (image_at images)) (map (lit_apart (length line.sorts)) left.lits)) (map (lit_image (image_at images)) (map (lit_apart (length line.sorts)) (apart_from left right.lits)))
    held images h =
        subst (λ ks. Q (map (lit_image (image_at images)) line.lits) (map (lit_image (image_at images)) ks) (map (lit_image (image_at images)) (map (lit_apart (length line.sorts)) (apart_from left right.lits)))) joined.left_lits
        (subst (λ ms. Q (map (lit_image (image_at images)) line.lits) (map (lit_image (image_at images)) joint.left) (map (lit_image (image_at images)) ms)) joined.right_lits (resolvent_forth images line.lits joint.left joint.right i j pivot opposite at over h))

    met : (images : List Term) → Q (map (lit_image (image_at images)) line.lits) (map (lit_image (image_at images)) (map (lit_apart (length line.sorts)) left.lits)) (map (lit_image (image_at images)) (map (lit_apart (length line.sorts)) (apart_from left right.lits)))
        → MeetsNeeds images (resolution_needs line.lits joint.left joint.right pivot opposite)
    met images h =
        resolvent_back images line.lits joint.left joint.right i j pivot opposite at over
        (subst (λ ms. Q (map (lit_image (image_at images)) line.lits) (map (lit_image (image_at images)) joint.left) (map (lit_image (image_at images)) ms)) (sym joined.right_lits)
        (subst (λ ks. Q (map (lit_image (image_at images)) line.lits) (map (lit_image (image_at images)) ks) (map (lit_image (image_at images)) (map (lit_apart (length line.sorts)) (apart_from left right.lits)))) (sym joined.left_lits) h))

    pub settled : (found : Option (List Term)) → IsSolution v joint.scope goal found → Settles v line parents (ResolvesTo v left right line i j) found
    settled None none = λ more s r.
        let images = made v line parents more s r.images in
        let h = held_by_made v line parents line_fit.sorted left.lits (apart_from left right.lits) Q (left_fits v left right left_fit) (right_fits v left right right_fit) more s r.images r.resolvent in
        unsolved_needs v joint.scope (resolution_needs line.lits joint.left joint.right pivot opposite) goal (asks pivot opposite at over) none (scope_of line ++ more) images
        (rw (joined.sorts, joined.rigid) (made_joint v line parents more s r.images)) (met images h)
    settled (Some images) some =
        let meets : MeetsNeeds images (resolution_needs line.lits joint.left joint.right pivot opposite) = subst (λ is. MeetsNeeds is (resolution_needs line.lits joint.left joint.right pivot opposite)) some.1 (solved_needs v joint.scope (resolution_needs line.lits joint.left joint.right pivot opposite) goal some.0 (asks pivot opposite at over) some.2) in
        let sub : IsJoint v line parents images = subst (IsJoint v line parents) some.1 (rw (joined.sorts, joined.rigid) at some.2.0) in (
          sub,
          record {
            images = parents_images v line parents images sub;
            resolvent = wanted_of_held v line parents line_fit.sorted left.lits (apart_from left right.lits) Q sorts images sub (held images meets);
          },
        )

get_of_map : {X Y : Type 0} (f : X → Y) (xs : List X) (i : ℕ) (y : Y) → slice_get (map f xs) i ≡ Some y → (x : X) × (slice_get xs i ≡ Some x) × (f x ≡ y)
get_of_map f [] i y e = cc
get_of_map f (x ∷ xs) zero y e = (x, refl, cc)
get_of_map f (x ∷ xs) (suc i) y e = get_of_map f xs i y e

map_length : {X Y : Type 0} (f : X → Y) (xs : List X) → length (map f xs) ≡ length xs
map_length f [] = refl
map_length f (x ∷ xs) = ap (λ n. suc n) (map_length f xs)

some_at : {X : Type 0} (xs : List X) (i : ℕ) → i < length xs → (x : X) × (slice_get xs i ≡ Some x)
some_at [] i h = absurd (omega arith)
some_at (x ∷ xs) zero h = (x, refl)
some_at (x ∷ xs) (suc i) h = some_at xs i (omega arith)

-- tests that come before
module _ (line left right : List Lit) (i j : ℕ) (k l : Lit) (at : slice_get left i ≡ Some k) (over : slice_get right j ≡ Some l) where
  pub never_clashing : NeverClash k l → NeverResolves line left right i j
  never_clashing never = λ s r h.
      let one : lit_image s k ≡ h.pivot = one_at (instances s left) i (lit_image s k) h.pivot (get_image s left i k at) h.in_left in
      let two : lit_image r l ≡ h.opposite = one_at (instances r right) j (lit_image r l) h.opposite (get_image r right j l over) h.in_right in
      never s r (subst (λ (x : Lit). AreComplementary x (lit_image r l)) (sym one) (subst (λ (y : Lit). AreComplementary h.pivot y) (sym two) h.complementary))

pub never_left : (line left right : List Lit) (i j : ℕ) → NeverPivot line left i → NeverResolves line left right i j
never_left line left right i j never = λ s r h. never s h.pivot h.in_left h.left_covered

pub never_right : (line left right : List Lit) (i j : ℕ) → NeverPivot line right j → NeverResolves line left right i j
never_right line left right i j never = λ s r h. never r h.opposite h.in_right h.right_covered

pub no_resolution : (v : Vocabulary) (left right line : Clause) (i j : ℕ) → NeverResolves line.lits left.lits right.lits i j → (more : List ℕ) (s : ℕ → Term) → ResolvesTo v left right line i j more s → ⊥
no_resolution v left right line i j never more s r =
    never s (λ k. s (k + length left.sorts)) (subst (λ ks. IsResolvent line.lits (instances s left.lits) ks i j) (images_apart s (length left.sorts) right.lits) r.resolvent)

module _ (v : Vocabulary) (left right line : Clause) (left_fit : IsFit v left) (right_fit : IsFit v right) (line_fit : IsFit v line) (joint : Joint) (joined : IsJoined line left right joint) (i j : ℕ) (goal : Goal) (asks : AsksAt line joint i j goal) (in_left : i < length left.lits) (in_right : j < length right.lits) where
  pivot_at : (k : Lit) × (slice_get joint.left i ≡ Some k)
  pivot_at = some_at joint.left i (rw joined.left_lits (omega (arith, map_length (lit_apart (length line.sorts)) left.lits)))

  opposite_at : (k : Lit) × (slice_get joint.right j ≡ Some k)
  opposite_at =
      let one = map_length (lit_apart (length line.sorts)) (apart_from left right.lits) in
      let two = map_length (lit_apart (length left.sorts)) right.lits in
      some_at joint.right j (rw joined.right_lits (omega arith))

  pub asked_sorted : goal_sorted v joint.scope.sorts goal ≡ true
  asked_sorted = goal_is_sorted v left right line left_fit right_fit line_fit joint joined i j goal asks pivot_at.0 opposite_at.0 pivot_at.1 opposite_at.1

  pub asked_settled : (found : Option (List Term)) → IsSolution v joint.scope goal found → Settles v line (scope_of_both left right) (ResolvesTo v left right line i j) found
  asked_settled = settled v left right line left_fit right_fit line_fit joint joined i j goal asks pivot_at.0 opposite_at.0 pivot_at.1 opposite_at.1

-- literals of a resolution are literals of the clauses
pub left_within : (v : Vocabulary) (left right line : Clause) (i j : ℕ) (more : List ℕ) (s : ℕ → Term) → ResolvesTo v left right line i j more s → i < length left.lits
left_within v left right line i j more s r = let k = get_of_map (lit_image s) left.lits i r.resolvent.pivot r.resolvent.in_left in slice_get_within left.lits i k.0 k.1

pub right_within : (v : Vocabulary) (left right line : Clause) (i j : ℕ) (more : List ℕ) (s : ℕ → Term) → ResolvesTo v left right line i j more s → j < length right.lits
right_within v left right line i j more s r =
    let m = get_of_map (lit_image s) (apart_from left right.lits) j r.resolvent.opposite r.resolvent.in_right in
    let l = get_of_map (lit_apart (length left.sorts)) right.lits j m.0 m.1 in
    slice_get_within right.lits j l.0 l.1

-- nothing was found at a literal
pub not_at : (v : Vocabulary) (left right line : Clause) (i : ℕ) (found : Option Found) → found ≡ None → FoundAt v left right line i found → (j : ℕ) (more : List ℕ) (s : ℕ → Term) → ResolvesTo v left right line i j more s → ⊥
not_at v left right line i None e none = none
not_at v left right line i (Some found) e none = λ j more s r. cc
