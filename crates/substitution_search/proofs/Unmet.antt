-- Goals that no substitution meets, as code finds them.
use Rattle.std.specs.Prelude.{ℕ, ◌≡◌, ◌≢◌, ◌+◌, ◌<◌, ◌≤◌, List, [], ◌∷◌, length, map, Some, None, slice_get, get_or, refl}
use Rattle.std.proofs.Common.{ap, sym, subst, ◌∙◌, arith, zero, suc, inl, inr, below_more}
use Rattle.std.proofs.lemmas.List.{get_or_past, length-map}
use Rattle.std.proofs.lemmas.Option.{slice_get_within, some_pair_parts}
use Rattle.fof_terms.proofs.LiftingLaws.{below_or_above}
use Rattle.fof_terms.specs.Vocabulary.{Vocabulary}
use Rattle.fof_terms.specs.declared.term.Term.{Term, Var, App}
use Rattle.fof_terms.specs.declared.term.Term.TheViews.{out-Term, outs-Var, outs-App}
use Rattle.unify_terms.specs.declared.goal.Goal.{Goal, All, Any, Same}
use Rattle.unify_terms.specs.declared.pair.Pair.{Pair}
use Rattle.unify_terms.specs.declared.scope.Scope.{Scope}
use Rattle.unify_terms.specs.Goals.{each_of, chosen_way, one_of, asked, SolvesGoal}
use Rattle.unify_terms.proofs.GoalsFacts.{asked-All, asked-Any, asked-Same}
use Rattle.unify_terms.specs.Substitution.{image_at, instance, IsSubstitution}
use Rattle.unify_terms.proofs.SubstitutionFacts.{applied-Var, applied-App}
use Rattle.unify_terms.specs.Unifiers.{Unifies}
use Rattle.substitution_search.specs.code.Chances.{Leaves, NeverInstance, NeverInstances, NeverUnified, NeverBy, NeverMet, NeverEach, NeverOne}
use Rattle.clause_rules.proofs.Firsts.{one_at}
use Rattle.substitution_search.proofs.Meeting.{then_is, unifies_parts}
use Rattle.fof_terms.specs.declared.term.Term.TheOpen as term

module _ (rigid : ℕ) where
  left_at : (images : List Term) → Leaves rigid images → (k : ℕ) → k < rigid → instance images (Var k) ≡ Var k
  left_at images h k lt = applied-Var (image_at images) k ∙ h.stays k lt

  module _ (t u : Term) where
    pub never_vars : (k m : ℕ) → t ≡ Var k → u ≡ Var m → k < rigid → m < rigid → k ≢ m → NeverInstance rigid t u
    never_vars k m e f a b other = λ images h same.
        let whole : Var k ≡ Var m = sym (left_at images h k a) ∙ ap (instance images) (sym e) ∙ same ∙ ap (instance images) f ∙ left_at images h m b in
        let layers : term.Var k ≡ term.Var m = sym (outs-Var k) ∙ ap out-Term whole ∙ outs-Var m in
        other (let numbers : k ≡ m = cc in numbers)

    pub never_var_app : (k : ℕ) (f : ℕ) (ts : List Term) → t ≡ Var k → u ≡ App f ts → k < rigid → NeverInstance rigid t u
    never_var_app k f ts e g a = λ images h same.
        let whole : Var k ≡ App f (map (instance images) ts) = sym (left_at images h k a) ∙ ap (instance images) (sym e) ∙ same ∙ ap (instance images) g ∙ applied-App (image_at images) f ts in
        let layers : term.Var k ≡ term.App f (map (instance images) ts) = sym (outs-Var k) ∙ ap out-Term whole ∙ outs-App f (map (instance images) ts) in
        cc

    module _ (f g : ℕ) (ts us : List Term) (is : t ≡ App f ts) (e : u ≡ App g us) where
      both : (images : List Term) → instance images t ≡ instance images u → (f ≡ g) × (map (instance images) ts ≡ map (instance images) us)
      both images same =
          let whole : App f (map (instance images) ts) ≡ App g (map (instance images) us) = sym (applied-App (image_at images) f ts) ∙ ap (instance images) (sym is) ∙ same ∙ ap (instance images) e ∙ applied-App (image_at images) g us in
          let layers : term.App f (map (instance images) ts) ≡ term.App g (map (instance images) us) = sym (outs-App f (map (instance images) ts)) ∙ ap out-Term whole ∙ outs-App g (map (instance images) us) in
          (cc, cc)

      pub never_functions : (f ≡ g → ⊥) → NeverInstance rigid t u
      never_functions other = λ images h same. other (both images same).0

      pub never_within : (lent others : List Term) → lent ≡ ts → others ≡ us → NeverInstances rigid lent others → NeverInstance rigid t u
      never_within lent others a b never = λ images h same. subst (λ xs. NeverInstances rigid xs us) a (subst (λ ys. NeverInstances rigid lent ys) b never) images h (both images same).1

  pub never_turned : (t u : Term) → NeverInstance rigid u t → NeverInstance rigid t u
  never_turned t u never = λ images h same. never images h (sym same)

  pub never_lengths : (ts us : List Term) → (length ts ≡ length us → ⊥) → NeverInstances rigid ts us
  never_lengths ts us other = λ images h same. other (sym (length-map ts (instance images)) ∙ ap length same ∙ length-map us (instance images))

  pub never_at : (ts us : List Term) (i : ℕ) (x y : Term) → slice_get ts i ≡ Some x → slice_get us i ≡ Some y → NeverInstance rigid x y → NeverInstances rigid ts us
  never_at [] us i x y e f never = cc
  never_at (t ∷ ts) [] i x y e f never = cc
  never_at (t ∷ ts) (u ∷ us) zero x y e f never = λ images h same.
      let one : t ≡ x = cc in
      let two : u ≡ y = cc in
      let heads : instance images t ≡ instance images u = cc in
      never images h (ap (instance images) (sym one) ∙ heads ∙ ap (instance images) two)
  never_at (t ∷ ts) (u ∷ us) (suc i) x y e f never = λ images h same. never_at ts us i x y e f never images h (let tails : map (instance images) ts ≡ map (instance images) us = cc in tails)

  pub never_pair : (pairs : List Pair) (i : ℕ) (p : Pair) → slice_get pairs i ≡ Some p → NeverInstance rigid p.left p.right → NeverUnified rigid pairs
  never_pair [] i p e never = cc
  never_pair (q ∷ pairs) zero p e never = λ images h u.
      let same : q ≡ p = cc in
      never images h (subst (λ (x : Pair). instance images x.left ≡ instance images x.right) same u.0)
  never_pair (q ∷ pairs) (suc i) p e never = λ images h u. never_pair pairs i p e never images h u.1

  pub never_each_at : (goals : List Goal) (i : ℕ) (g : Goal) → slice_get goals i ≡ Some g → NeverMet rigid g → NeverEach rigid goals
  never_each_at [] i g e never = cc
  never_each_at (x ∷ goals) zero g e never = λ images h choices pairs rest is u.
      let same : x ≡ g = cc in
      let parts = then_is (asked x choices) (each_of (map asked goals)) pairs rest is in
      let halves = unifies_parts images parts.0 parts.2 (subst (Unifies images) parts.5 u) in
      never images h choices parts.0 parts.1 (ap (λ y. asked y choices) (sym same) ∙ parts.3) halves.0
  never_each_at (x ∷ goals) (suc i) g e never = λ images h choices pairs rest is u.
      let parts = then_is (asked x choices) (each_of (map asked goals)) pairs rest is in
      let halves = unifies_parts images parts.0 parts.2 (subst (Unifies images) parts.5 u) in
      never_each_at goals i g e never images h parts.1 parts.2 rest parts.4 halves.1

  -- none of the goals before that number is met
  abbrev pub NoneBefore : List Goal → ℕ → Type 0
  NoneBefore goals n = (m : ℕ) → m < n → (g : Goal) → slice_get goals m ≡ Some g → NeverMet rigid g

  pub none_before_more : (goals : List Goal) (n : ℕ) (x : Goal) → slice_get goals n ≡ Some x → NeverMet rigid x → NoneBefore goals n → NoneBefore goals (n + 1)
  none_before_more goals n x at never before = below_more _ _ before (λ g e. subst (NeverMet rigid) (one_at goals n x g at e) never)

  chosen_at : (goals : List Goal) (k : ℕ) (cs : List ℕ) (pairs : List Pair) (rest : List ℕ) → chosen_way (slice_get (map asked goals) k) cs ≡ Some (pairs, rest) → (g : Goal) × (slice_get goals k ≡ Some g) × (asked g cs ≡ Some (pairs, rest))
  chosen_at [] k cs pairs rest e = cc
  chosen_at (x ∷ goals) zero cs pairs rest e = (x, refl, e)
  chosen_at (x ∷ goals) (suc k) cs pairs rest e = chosen_at goals k cs pairs rest e

  one_chosen : (goals : List Goal) (choices : List ℕ) (pairs : List Pair) (rest : List ℕ) → one_of (map asked goals) choices ≡ Some (pairs, rest) → (k : ℕ) × (cs : List ℕ) × (g : Goal) × (slice_get goals k ≡ Some g) × (asked g cs ≡ Some (pairs, rest))
  one_chosen goals [] pairs rest e = cc
  one_chosen goals (k ∷ cs) pairs rest e = let found = chosen_at goals k cs pairs rest e in (k, cs, found.0, found.1, found.2)

  pub never_one : (goals : List Goal) (n : ℕ) → length goals ≤ n → NoneBefore goals n → NeverOne rigid goals
  never_one goals n end before = λ images h choices pairs rest is u.
      let found = one_chosen goals choices pairs rest is in
      let lt = slice_get_within goals found.0 found.2 found.3 in
      before found.0 (omega arith) found.2 found.3 images h found.1 pairs rest found.4 u

  module _ (goal : Goal) where
    pub met_all : (goals lent : List Goal) → goal ≡ All goals → lent ≡ goals → NeverEach rigid lent → NeverMet rigid goal
    met_all goals lent e same never =
        let way : asked goal ≡ each_of (map asked goals) = ap asked e ∙ asked-All goals in
        subst (NeverBy rigid) (sym way) (subst (λ gs. NeverEach rigid gs) same never)

    pub met_any : (goals lent : List Goal) → goal ≡ Any goals → lent ≡ goals → NeverOne rigid lent → NeverMet rigid goal
    met_any goals lent e same never =
        let way : asked goal ≡ one_of (map asked goals) = ap asked e ∙ asked-Any goals in
        subst (NeverBy rigid) (sym way) (subst (λ gs. NeverOne rigid gs) same never)

    pub met_same : (ps lent : List Pair) → goal ≡ Same ps → lent ≡ ps → NeverUnified rigid lent → NeverMet rigid goal
    met_same ps lent e same never = λ images h choices pairs rest is u.
        let asks : Some (ps, choices) ≡ Some (pairs, rest) = sym (ap (λ x. asked x choices) e ∙ asked-Same ps choices) ∙ is in
        let parts = some_pair_parts ps pairs choices rest asks in
        subst (λ xs. NeverUnified rigid xs) same never images h (subst (Unifies images) (sym parts.0) u)

pub leaves : (v : Vocabulary) (sorts : List ℕ) (rigid : ℕ) (target : List ℕ) (images : List Term) → IsSubstitution v sorts rigid target images → Leaves rigid images
leaves v sorts rigid target images sub = record { stays = λ k lt. at k lt } where
  past : (xs : List Term) (k : ℕ) → length xs ≤ k → get_or xs k (Var k) ≡ Var k
  past xs k h = get_or_past xs k (Var k) h

  at : (k : ℕ) → k < rigid → image_at images k ≡ Var k
  at k lt = elim (below_or_above k (length sorts)) [
    | inl a ↦ sub.rigids k a lt
    | inr b ↦ past images k (let size = sub.size in omega arith)
  ]

pub unsolved : (v : Vocabulary) (scope : Scope) (goal : Goal) → NeverMet scope.rigid goal → SolvesGoal v scope goal None
unsolved v scope goal never = λ target other sub choices m. never other (leaves v scope.sorts scope.rigid target other sub) choices m.pairs [] m.all m.unifies
