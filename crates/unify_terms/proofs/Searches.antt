-- Steps of the search.
use Rattle.std.proofs.Common.{ℕ, ◌+◌, ◌≡◌, ◌≢◌, ◌<◌, ◌≤◌, ◌++◌, List, [], ◌∷◌, length, map, sum, reverse, drop, add-one, refl, sym, ap, subst, ◌∙◌, arith, zero, suc, append_assoc, append-nil, true, false, Bool, Option, Some, None, ◌⊎◌, inl, inr}
use Rattle.std.specs.Prelude.{slice_get, ◌&&◌, ◌↔◌, IsTrue, Result, Ok, Err, IfOk}
use Rattle.std.proofs.lemmas.List.Sums.{sum-map, sum_by-cons}
use Rattle.std.specs.List.{list_all}
use Rattle.std.proofs.lemmas.List.{reverse-append}
use Rattle.std.proofs.lemmas.Option.{slice_get_within, some_pair_parts}
use Rattle.fof_terms.specs.Vocabulary.{Vocabulary}
use Rattle.fof_terms.specs.Sorts.{sort_of_term}
use Rattle.fof_terms.specs.declared.term.Term.{Term}
use Rattle.unify_terms.specs.declared.pair.Pair.{Pair}
use Rattle.unify_terms.specs.declared.scope.Scope.{Scope}
use Rattle.unify_terms.specs.Substitution.{IsSubstitution}
use Rattle.unify_terms.specs.Unifiers.{Unifies, AreSorted, Unified}
use Rattle.unify_terms.specs.declared.goal.Goal.{Goal}
use Rattle.unify_terms.specs.declared.solving.Solution.{Solution}
use Rattle.unify_terms.specs.Goals.{Ways, with_pairs, and_then, before, nothing, chosen_way, asked, has_sort, pair_sorted, goal_sorted, SolvesGoal}
use Rattle.unify_terms.specs.code.Pending.{one_before}
use Rattle.unify_terms.proofs.PendingFacts.{goal_size}
use Rattle.unify_terms.specs.code.Searched.{Meets, Searched}
use Rattle.unify_terms.proofs.SearchedFacts.{NoneOf}

pub split_tests : (a b : Bool) → a && b ≡ true → (a ≡ true) × (b ≡ true)
split_tests true b e = (refl, e)
split_tests false b e = (cc, cc)

some_sort : (o : Option ℕ) → has_sort o ≡ true → o ≢ None
some_sort None e none = cc
some_sort (Some s) e none = cc

abbrev option_asked : Option Goal → Option Ways
option_asked None = None
option_asked (Some g) = Some (asked g)

slice_asked : (goals : List Goal) (k : ℕ) → slice_get (map asked goals) k ≡ option_asked (slice_get goals k)
slice_asked [] k = refl
slice_asked (x ∷ goals) zero = refl
slice_asked (x ∷ goals) (suc k) = slice_asked goals k

-- what is asked is met at a list of choices where it is met at an equal one
same_meets : (images : List Term) (given : List Pair) (w u : Ways) (c : List ℕ) → w c ≡ u c → Meets images given u c → Meets images given w c
same_meets images given w u c e m = record { asked = m.asked; all = e ∙ m.all; unifies = m.unifies }

pub same_ways : (v : Vocabulary) (scope : Scope) (given : List Pair) (w u : Ways) → ((c : List ℕ) → w c ≡ u c) → (r : Option Solution) → Searched v scope given u r → Searched v scope given w r
same_ways v scope given w u e None s = λ target other sub c m. s target other sub c (same_meets other given u w c (sym (e c)) m)
same_ways v scope given w u e (Some solution) s = (s.0, same_meets solution.subst given w u (reverse solution.choices) (e (reverse solution.choices)) s.1)

with_pairs-append : (ps qs : List Pair) (o : Option (List Pair × List ℕ)) → with_pairs (ps ++ qs) o ≡ with_pairs ps (with_pairs qs o)
with_pairs-append ps qs None = refl
with_pairs-append ps qs (Some r) = ap (λ xs. Some (xs, r.1)) (append_assoc ps qs r.0)

pub with_nothing : (o : Option (List Pair × List ℕ)) → with_pairs [] o ≡ o
with_nothing None = refl
with_nothing (Some r) = refl

then_with : (ps : List Pair) (o : Option (List Pair × List ℕ)) (next : Ways) → and_then (with_pairs ps o) next ≡ with_pairs ps (and_then o next)
then_with ps None next = refl
then_with ps (Some q) next = with_pairs-append ps q.0 (next q.1)

then_then : (o : Option (List Pair × List ℕ)) (next last : Ways) → and_then (and_then o next) last ≡ and_then o (before next last)
then_then None next last = refl
then_then (Some r) next last = then_with r.0 (next r.1) last

pub before_assoc : (first next last : Ways) (c : List ℕ) → before (before first next) last c ≡ before first (before next last) c
before_assoc first next last c = then_then (first c) next last

pub unifies_nil : (images : List Term) (given : List Pair) → Unifies images given → Unifies images (given ++ [])
unifies_nil images given u = subst (Unifies images) (sym (append-nil given)) u

-- where nothing is asked
pub searched_end : (v : Vocabulary) (scope : Scope) (given : List Pair) (solution : Solution) → solution.choices ≡ [] → Unified v scope.sorts scope.rigid given (Some solution.subst) → Searched v scope given nothing (Some solution)
searched_end v scope given solution e u =
    (u.is_substitution, record { asked = []; all = ap (λ c. Some ([], reverse c)) e; unifies = unifies_nil solution.subst given u.unifies })

pub searched_none : (v : Vocabulary) (scope : Scope) (given : List Pair) → Unified v scope.sorts scope.rigid given None → Searched v scope given nothing None
searched_none v scope given u target other sub c m =
    let is = (some_pair_parts [] m.asked c [] m.all).0 in
    u target other sub (subst (Unifies other) (append-nil given) (subst (λ ps. Unifies other (given ++ ps)) (sym is) m.unifies))

parts_of : (ps all : List Pair) (o : Option (List Pair × List ℕ)) → with_pairs ps o ≡ Some (all, []) → (more : List Pair) × (o ≡ Some (more, [])) × (all ≡ ps ++ more)
parts_of ps all None e = cc
parts_of ps all (Some r) e =
    let parts = some_pair_parts (ps ++ r.0) all r.1 [] e in
    let first = parts.0 in
    let second = parts.1 in
    (r.0, ap (λ c. Some (r.0, c)) second, sym first)

-- pairs that are asked are given to what follows
pub searched_same : (v : Vocabulary) (scope : Scope) (given ps : List Pair) (next : Ways) (r : Option Solution) → Searched v scope (given ++ ps) next r → Searched v scope given (λ c. with_pairs ps (next c)) r
searched_same v scope given ps next None s = λ target other sub c m.
    let parts = parts_of ps m.asked (next c) m.all in
    s target other sub c (record {
      asked = parts.0;
      all = parts.1;
      unifies = subst (Unifies other) (sym (append_assoc given ps parts.0)) (subst (λ qs. Unifies other (given ++ qs)) parts.2 m.unifies);
    })
searched_same v scope given ps next (Some solution) s = (
  s.0,
  record {
    asked = ps ++ s.1.asked;
    all = ap (with_pairs ps) s.1.all;
    unifies = subst (Unifies solution.subst) (append_assoc given ps s.1.asked) s.1.unifies;
  },
)

slice_map : (goals : List Goal) (k : ℕ) (g : Goal) → slice_get goals k ≡ Some g → slice_get (map asked goals) k ≡ Some (asked g)
slice_map [] k g e = cc
slice_map (x ∷ goals) zero g e = let same : x ≡ g = cc in ap (λ y. Some (asked y)) same
slice_map (x ∷ goals) (suc k) g e = slice_map goals k g e

-- a choice that leads to a substitution
pub searched_one : (v : Vocabulary) (scope : Scope) (given : List Pair) (goals : List Goal) (next : Ways) (k : ℕ) (g : Goal) (found solution : Solution) → slice_get goals k ≡ Some g
    → Searched v scope given (before (asked g) next) (Some found) → solution.subst ≡ found.subst → solution.choices ≡ found.choices ++ k ∷ [] → Searched v scope given (one_before (map asked goals) next) (Some solution)
searched_one v scope given goals next k g found solution at s same more =
    let front : reverse solution.choices ≡ k ∷ reverse found.choices = ap reverse more ∙ reverse-append found.choices (k ∷ []) in
    let here : one_before (map asked goals) next (reverse solution.choices) ≡ before (asked g) next (reverse found.choices) =
    ap (one_before (map asked goals) next) front ∙ ap (λ o. and_then (chosen_way o (reverse found.choices)) next) (slice_map goals k g at) in (
      subst (λ b. IsSubstitution v scope.sorts scope.rigid scope.sorts b) (sym same) s.0,
      record { asked = s.1.asked; all = here ∙ s.1.all; unifies = subst (λ b. Unifies b (given ++ s.1.asked)) (sym same) s.1.unifies },
    )

none_at : (v : Vocabulary) (scope : Scope) (given : List Pair) (goals : List Goal) (next : Ways) → NoneOf v scope given goals next (length goals) → (target : List ℕ) (other : List Term) → IsSubstitution v scope.sorts scope.rigid target other
    → (k : ℕ) (c : List ℕ) (o : Option Goal) → slice_get goals k ≡ o → slice_get (map asked goals) k ≡ option_asked o → Meets other given (one_before (map asked goals) next) (k ∷ c) → ⊥
none_at v scope given goals next none target other sub k c None e d m =
    let gone : one_before (map asked goals) next (k ∷ c) ≡ None = ap (λ o. and_then (chosen_way o c) next) d in
    let all = m.all in
    cc
none_at v scope given goals next none target other sub k c (Some g) e d m =
    none k g (slice_get_within goals k g e) e target other sub c (record { asked = m.asked; all = sym (ap (λ o. and_then (chosen_way o c) next) d) ∙ m.all; unifies = m.unifies })

pub searched_nowhere : (v : Vocabulary) (scope : Scope) (given : List Pair) (goals : List Goal) (next : Ways) → NoneOf v scope given goals next (length goals) → Searched v scope given (one_before (map asked goals) next) None
searched_nowhere v scope given goals next none target other sub [] m = let all = m.all in cc
searched_nowhere v scope given goals next none target other sub (k ∷ c) m = none_at v scope given goals next none target other sub k c (slice_get goals k) refl (slice_asked goals k) m

pub sorted_pairs : (v : Vocabulary) (sorts : List ℕ) (ps : List Pair) → list_all (pair_sorted v sorts) ps ≡ true → AreSorted v sorts ps
sorted_pairs v sorts [] e = tt
sorted_pairs v sorts (p ∷ ps) e =
    let both = split_tests (pair_sorted v sorts p) (list_all (pair_sorted v sorts) ps) e in
    let sides = split_tests (has_sort (sort_of_term v sorts p.left)) (has_sort (sort_of_term v sorts p.right)) both.0 in
    ((some_sort (sort_of_term v sorts p.left) sides.0, some_sort (sort_of_term v sorts p.right) sides.1), sorted_pairs v sorts ps both.1)

has_some : (o : Option ℕ) → o ≢ None → has_sort o ≡ true
has_some None ne = absurd (ne refl)
has_some (Some s) ne = refl

pairs_sorted : (v : Vocabulary) (sorts : List ℕ) (ps : List Pair) → AreSorted v sorts ps → list_all (pair_sorted v sorts) ps ≡ true
pairs_sorted v sorts [] a = refl
pairs_sorted v sorts (p ∷ ps) a = rw (has_some (sort_of_term v sorts p.left) a.0.0, has_some (sort_of_term v sorts p.right) a.0.1) (pairs_sorted v sorts ps a.1)

-- the test of pairs
pub pairs_tested : (v : Vocabulary) (sorts : List ℕ) (ps : List Pair) (b : Bool) → b ≡ list_all (pair_sorted v sorts) ps → IsTrue b ↔ AreSorted v sorts ps
pairs_tested v sorts ps b e = (λ yes. sorted_pairs v sorts ps (sym e ∙ yes), λ a. e ∙ pairs_sorted v sorts ps a)

pub sorted_both : (v : Vocabulary) (sorts : List ℕ) (given ps : List Pair) → AreSorted v sorts given → list_all (pair_sorted v sorts) ps ≡ true → AreSorted v sorts (given ++ ps)
sorted_both v sorts [] ps a e = sorted_pairs v sorts ps e
sorted_both v sorts (p ∷ given) ps a e = (a.0, sorted_both v sorts given ps a.1 e)

-- a list from a place on
pub drop_some : {X : Type 0} (xs : List X) (i : ℕ) (x : X) → slice_get xs i ≡ Some x → drop i xs ≡ x ∷ drop (i + 1) xs
drop_some [] i x e = cc
drop_some (y ∷ xs) zero x e = let same : y ≡ x = cc in ap (λ z. z ∷ xs) same
drop_some (y ∷ xs) (suc i) x e = let rest : drop i xs ≡ x ∷ drop (i + 1) xs = drop_some xs i x e in rw add-one (rw add-one at rest)

pub drop_none : {X : Type 0} (xs : List X) (i : ℕ) → slice_get xs i ≡ None → drop i xs ≡ []
drop_none [] zero e = refl
drop_none [] (suc i) e = refl
drop_none (y ∷ xs) zero e = cc
drop_none (y ∷ xs) (suc i) e = drop_none xs i e

pub size_cons : (g : Goal) (gs : List Goal) → sum (map goal_size (g ∷ gs)) ≡ goal_size g + sum (map goal_size gs)
size_cons g gs = sum-map goal_size (g ∷ gs) ∙ sum_by-cons goal_size g gs ∙ ap (λ n. goal_size g + n) (sym (sum-map goal_size gs))

pub size_at : (gs : List Goal) (i : ℕ) (g : Goal) → slice_get gs i ≡ Some g → goal_size g ≤ sum (map goal_size gs)
size_at [] i g e = cc
size_at (x ∷ gs) zero g e =
    let same : goal_size x ≡ goal_size g = let q : x ≡ g = cc in ap goal_size q in
    let total = size_cons x gs in
    omega arith
size_at (x ∷ gs) (suc i) g e =
    let rest = size_at gs i g e in
    let total = size_cons x gs in
    omega arith

pub sorted_at : (v : Vocabulary) (sorts : List ℕ) (gs : List Goal) (i : ℕ) (g : Goal) → slice_get gs i ≡ Some g → list_all (goal_sorted v sorts) gs ≡ true → goal_sorted v sorts g ≡ true
sorted_at v sorts [] i g e all = cc
sorted_at v sorts (x ∷ gs) zero g e all =
    let both = split_tests (goal_sorted v sorts x) (list_all (goal_sorted v sorts) gs) all in
    let same : x ≡ g = cc in
    subst (λ y. goal_sorted v sorts y ≡ true) same both.0
sorted_at v sorts (x ∷ gs) (suc i) g e all = sorted_at v sorts gs i g e (split_tests (goal_sorted v sorts x) (list_all (goal_sorted v sorts) gs) all).1

pub ok_map : {X E : Type 0} {P Q : X → Type 0} (r : Result X E) → ((x : X) → P x → Q x) → IfOk r P → IfOk r Q
ok_map (Ok x) f p = f x p
ok_map (Err e) f p = p

pub both_tests : (a b : Bool) → a ≡ true → b ≡ true → a && b ≡ true
both_tests a b p q = rw (p, q) refl

below_or_at : (k n : ℕ) → k < n + 1 → (k < n) ⊎ (k ≡ n)
below_or_at k n h = grind arith

pub none_more : (v : Vocabulary) (scope : Scope) (given : List Pair) (goals : List Goal) (next : Ways) (n : ℕ) (g : Goal) → NoneOf v scope given goals next n → slice_get goals n ≡ Some g → Searched v scope given (before (asked g) next) None
    → NoneOf v scope given goals next (n + 1)
none_more v scope given goals next n g none at here k h lt e = elim (below_or_at k n lt) [
  | inl low ↦ none k h low e
  | inr same ↦
      let there : slice_get goals n ≡ Some h = subst (λ i. slice_get goals i ≡ Some h) same e in
      let equal : g ≡ h = cc in
      subst (λ x. Searched v scope given (before (asked x) next) None) equal here
]

unify_front : (images : List Term) (given more : List Pair) → Unifies images (given ++ more) → Unifies images given
unify_front images [] more u = tt
unify_front images (p ∷ given) more u = (u.0, unify_front images given more u.1)

-- where the given pairs have no unifier, nothing that is asked has one
pub searched_hopeless : (v : Vocabulary) (scope : Scope) (given : List Pair) (w : Ways) → Unified v scope.sorts scope.rigid given None → Searched v scope given w None
searched_hopeless v scope given w u target other sub c m = u target other sub (unify_front other given m.asked m.unifies)

before_nothing : (o : Option (List Pair × List ℕ)) → and_then o nothing ≡ o
before_nothing None = refl
before_nothing (Some r) = ap (λ ps. Some (ps, r.1)) (append-nil r.0)

pub solved_some : (v : Vocabulary) (scope : Scope) (goal : Goal) (found solution : Solution) → Searched v scope [] (before (asked goal) nothing) (Some found) → solution.subst ≡ found.subst → solution.choices ≡ reverse found.choices → SolvesGoal v scope goal (Some solution)
solved_some v scope goal found solution s same front = (
  subst (λ b. IsSubstitution v scope.sorts scope.rigid scope.sorts b) (sym same) s.0,
  record {
    pairs = s.1.asked;
    all = ap (asked goal) front ∙ sym (before_nothing (asked goal (reverse found.choices))) ∙ s.1.all;
    unifies = subst (λ b. Unifies b s.1.asked) (sym same) s.1.unifies;
  },
)

pub solved_none : (v : Vocabulary) (scope : Scope) (goal : Goal) → Searched v scope [] (before (asked goal) nothing) None → SolvesGoal v scope goal None
solved_none v scope goal s target other sub c m = s target other sub c (record { asked = m.pairs; all = before_nothing (asked goal c) ∙ m.all; unifies = m.unifies })
