-- A goal of needs is met exactly where each need has a way that is met.
use Rattle.std.specs.Prelude.{ℕ, ◌≡◌, List, [], ◌∷◌, ◌++◌, map, Option, Some, None, slice_get, refl}
use Rattle.std.proofs.Common.{ap, sym, subst, ◌∙◌, zero, suc, inl, inr}
use Rattle.std.proofs.lemmas.Option.{some_pair_parts}
use Rattle.fof_terms.specs.Vocabulary.{Vocabulary}
use Rattle.fof_terms.specs.declared.term.Term.{Term}
use Rattle.unify_terms.specs.declared.pair.Pair.{Pair}
use Rattle.unify_terms.specs.declared.goal.Goal.{Goal, Same}
use Rattle.unify_terms.specs.declared.scope.Scope.{Scope}
use Rattle.unify_terms.specs.declared.solving.Solution.{Solution}
use Rattle.unify_terms.specs.Unifiers.{Unifies}
use Rattle.unify_terms.specs.Goals.{Ways, with_pairs, and_then, each_of, chosen_way, one_of, asked, SolvesGoal}
use Rattle.unify_terms.proofs.GoalsFacts.{asked-All, asked-Any, asked-Same}
use Rattle.unify_terms.specs.Substitution.{IsSubstitution}
use Rattle.substitution_search.specs.code.Ways.{HasWay}
use Rattle.clause_rules.specs.Ways.{goal_of_need, goal_of_needs}
use Rattle.substitution_search.proofs.WaysFacts.{MeetsNeeds}

pub unifies_both : (images : List Term) (ps qs : List Pair) → Unifies images ps → Unifies images qs → Unifies images (ps ++ qs)
unifies_both images [] qs h g = g
unifies_both images (p ∷ ps) qs h g = (h.0, unifies_both images ps qs h.1 g)

pub unifies_parts : (images : List Term) (ps qs : List Pair) → Unifies images (ps ++ qs) → Unifies images ps × Unifies images qs
unifies_parts images [] qs h = (tt, h)
unifies_parts images (p ∷ ps) qs h = let rest = unifies_parts images ps qs h.1 in ((h.0, rest.0), rest.1)

-- which way a choice takes
pub chosen_is : (need : List (List Pair)) (k : ℕ) (cs : List ℕ) (ps : List Pair) (left : List ℕ) → chosen_way (slice_get (map asked (map Same need)) k) cs ≡ Some (ps, left)
    → (way : List Pair) × (slice_get need k ≡ Some way) × (ps ≡ way) × (cs ≡ left)
chosen_is [] k cs ps left e = cc
chosen_is (way ∷ need) zero cs ps left e =
    let parts = some_pair_parts way ps cs left (sym (asked-Same way cs) ∙ e) in
    (way, refl, sym parts.0, parts.1)
chosen_is (way ∷ need) (suc k) cs ps left e = chosen_is need k cs ps left e

pub need_is : (need : List (List Pair)) (choices : List ℕ) (ps : List Pair) (left : List ℕ) → one_of (map asked (map Same need)) choices ≡ Some (ps, left) → (k : ℕ) × (slice_get need k ≡ Some ps)
need_is need [] ps left e = cc
need_is need (k ∷ cs) ps left e =
    let found = chosen_is need k cs ps left e in
    (k, subst (λ way. slice_get need k ≡ Some way) (sym found.2) found.1)

pub has_way : (images : List Term) (need : List (List Pair)) (k : ℕ) (way : List Pair) → slice_get need k ≡ Some way → Unifies images way → HasWay images need
has_way images [] k way e u = cc
has_way images (w ∷ need) zero way e u = inl (let same : way ≡ w = cc in subst (Unifies images) same u)
has_way images (w ∷ need) (suc k) way e u = inr (has_way images need k way e u)

with_is : (ps : List Pair) (o : Option (List Pair × List ℕ)) (pairs : List Pair) (rest : List ℕ) → with_pairs ps o ≡ Some (pairs, rest) → (qs : List Pair) × (o ≡ Some (qs, rest)) × (pairs ≡ ps ++ qs)
with_is ps None pairs rest e = cc
with_is ps (Some r) pairs rest e =
    let parts = some_pair_parts (ps ++ r.0) pairs r.1 rest e in
    (r.0, ap (λ c. Some (r.0, c)) parts.1, sym parts.0)

pub then_is : (o : Option (List Pair × List ℕ)) (next : Ways) (pairs : List Pair) (rest : List ℕ) → and_then o next ≡ Some (pairs, rest)
    → (ps : List Pair) × (left : List ℕ) × (qs : List Pair) × (o ≡ Some (ps, left)) × (next left ≡ Some (qs, rest)) × (pairs ≡ ps ++ qs)
then_is None next pairs rest e = cc
then_is (Some r) next pairs rest e =
    let found = with_is r.0 (next r.1) pairs rest e in
    (r.0, r.1, found.0, refl, found.1, found.2)

pub meets_each : (images : List Term) (needs : List (List (List Pair))) (choices : List ℕ) (pairs : List Pair) (rest : List ℕ) → each_of (map asked (map goal_of_need needs)) choices ≡ Some (pairs, rest) → Unifies images pairs → MeetsNeeds images needs
meets_each images [] choices pairs rest e u = tt
meets_each images (need ∷ needs) choices pairs rest e u =
    let parts = then_is (asked (goal_of_need need) choices) (each_of (map asked (map goal_of_need needs))) pairs rest e in
    let both = unifies_parts images parts.0 parts.2 (subst (Unifies images) parts.5 u) in
    let here = need_is need choices parts.0 parts.1 (sym (ap (λ w. w choices) (asked-Any (map Same need))) ∙ parts.3) in
    (has_way images need here.0 parts.0 here.1 both.0, meets_each images needs parts.1 parts.2 rest parts.4 both.1)

pub way_of : (images : List Term) (need : List (List Pair)) → HasWay images need → (k : ℕ) × (way : List Pair) × (slice_get need k ≡ Some way) × Unifies images way
way_of images [] h = absurd h
way_of images (way ∷ need) (inl u) = (0, way, refl, u)
way_of images (way ∷ need) (inr h) = let rest = way_of images need h in (suc rest.0, rest.1, rest.2, rest.3)

pub chosen_there : (need : List (List Pair)) (k : ℕ) (cs : List ℕ) (way : List Pair) → slice_get need k ≡ Some way → chosen_way (slice_get (map asked (map Same need)) k) cs ≡ Some (way, cs)
chosen_there [] k cs way e = cc
chosen_there (w ∷ need) zero cs way e = let same : w ≡ way = cc in asked-Same w cs ∙ ap (λ x. Some (x, cs)) same
chosen_there (w ∷ need) (suc k) cs way e = chosen_there need k cs way e

pub met_each : (images : List Term) (needs : List (List (List Pair))) → MeetsNeeds images needs → (choices : List ℕ) × (pairs : List Pair) × (each_of (map asked (map goal_of_need needs)) choices ≡ Some (pairs, [])) × Unifies images pairs
met_each images [] h = ([], [], refl, tt)
met_each images (need ∷ needs) h =
    let here = way_of images need h.0 in
    let rest = met_each images needs h.1 in
    let first : asked (goal_of_need need) (here.0 ∷ rest.0) ≡ Some (here.1, rest.0) = ap (λ w. w (here.0 ∷ rest.0)) (asked-Any (map Same need)) ∙ chosen_there need here.0 rest.0 here.1 here.2 in (
      here.0 ∷ rest.0,
      here.1 ++ rest.1,
      ap (λ o. and_then o (each_of (map asked (map goal_of_need needs)))) first ∙ ap (with_pairs here.1) rest.2,
      unifies_both images here.1 rest.1 here.3 rest.3,
    )

module _ (v : Vocabulary) (scope : Scope) (needs : List (List (List Pair))) where
  -- a solution meets the needs
  pub solved_needs : (goal : Goal) (solution : Solution) → goal ≡ goal_of_needs needs → SolvesGoal v scope goal (Some solution) → MeetsNeeds solution.subst needs
  solved_needs goal solution is s =
      let all : each_of (map asked (map goal_of_need needs)) solution.choices ≡ Some (s.1.pairs, []) = sym (ap (λ w. w solution.choices) (ap asked is ∙ asked-All (map goal_of_need needs))) ∙ s.1.all in
      meets_each solution.subst needs solution.choices s.1.pairs [] all s.1.unifies

  -- where there is none, nothing meets them
  pub unsolved_needs : (goal : Goal) → goal ≡ goal_of_needs needs → SolvesGoal v scope goal None → (target : List ℕ) (images : List Term) → IsSubstitution v scope.sorts scope.rigid target images → MeetsNeeds images needs → ⊥
  unsolved_needs goal is s target images sub h =
      let found = met_each images needs h in
      s target images sub found.0 (record {
        pairs = found.1;
        all = ap (λ w. w found.0) (ap asked is ∙ asked-All (map goal_of_need needs)) ∙ found.2;
        unifies = found.3;
      })
