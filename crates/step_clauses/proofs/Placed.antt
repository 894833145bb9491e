-- What `skolemized` makes of a normal form is the normal form with its functions in place of its existential variables,
-- as the rule `skolem` has it.
use Rattle.std.specs.Prelude.{ℕ, ◌≡◌, ◌+◌, ◌<◌, ◌≤◌, ◌==◌, ◌||◌, nat_lt, nat_eq, Bool, true, false, List, [], ◌∷◌, ◌++◌, length, map, reverse, Some, slice_get, refl}
use Rattle.std.specs.List.{AllByRecursion, IsDistinct, list_all}
use Rattle.std.proofs.Common.{ap, sym, subst, ◌∙◌, ◌⊎◌, inl, inr, arith, zero, suc}
use Rattle.std.proofs.lemmas.Bool.Decides.{nat_tests}
use Rattle.std.proofs.lemmas.List.{length-append, length-reverse, reverse-append}
use Rattle.std.proofs.lemmas.Map.Keys.{IsDistinct-cons}
use Rattle.fof_terms.proofs.Induction.{form_induction}
use Rattle.fof_terms.proofs.LiftingLaws.{both, below_or_above}
use Rattle.fof_terms.specs.Sorts.{sort_of_term, is_sorted}
use Rattle.fof_terms.proofs.SortsFacts.{sort_of_term-Var, is_sorted-And, is_sorted-Or, is_sorted-All, is_sorted-Ex}
use Rattle.fof_terms.specs.Standing.{is_listed}
use Rattle.fof_terms.specs.Vocabulary.{Vocabulary}
use Rattle.fof_terms.specs.declared.term.Term.{Term, Var, App}
use Rattle.fof_terms.specs.declared.form.Form.{Form, Atom, Eq, Not, And, Or, Imp, Iff, All, Ex}
use Rattle.clause_form.specs.Clauses.{variables, under_all, under_ex, in_turn, skolem_made, skolemized, joined_lists}
use Rattle.clause_form.specs.Images.{image, IsImages}
use Rattle.clause_form.specs.Norm.{norm_of}
use Rattle.clause_form.proofs.NormShape.{Shape, shape, IsNormal, all_normal, and_normal, or_normal, norm_is_normal, shape-Not, shape-And, shape-Or, shape-Imp, shape-Iff, shape-All, shape-Ex}
use Rattle.skolem_fresh.specs.declared.just.Use.{Use}
use Rattle.skolem_fresh.specs.SkolemRule.{MayReplace, IsSkolemized, AreSkolemized, an_atom, an_equation, a_negation, a_conjunction, a_disjunction, for_each, for_some, none, more}
use Rattle.skolem_fresh.specs.Uses.{value_of}
use Rattle.skolem_fresh.proofs.Distinct.{among_contains, distinct_none}
use Rattle.step_clauses.specs.declared.existentials.Existential.{Existential}
use Rattle.step_clauses.specs.Existentials.{existentials, existentials_within}
use Rattle.step_clauses.specs.Skolems.{skolem_symbol, skolems_from, nearest, use_of, uses_of, KnowsFrom}
use Rattle.step_clauses.proofs.ExistentialsFacts.{existentials_within-Atom, existentials_within-Eq, existentials_within-Not, existentials_within-And, existentials_within-Or, existentials_within-All, existentials_within-Ex, counted}
use Rattle.step_clauses.proofs.SkolemizingFacts.{goes, made-Atom, made-Eq, made-Not, made-And, made-Or, made-All, made-Ex}
use Rattle.step_clauses.proofs.SkolemSorts.{knows_first, knows_others, value_sorted, images_under_all, images_under_ex}
use Rattle.step_clauses.proofs.FreeFacts.{below}
use Rattle.step_clauses.proofs.PutFacts.{put, put-Atom, put-Eq, put-Not, put-And, put-Or, put-All, put-Ex, body_put, put_fits, itself}

-- The nearest variables.
apart : (n k : ℕ) → k < n → nat_eq n k ≡ false
apart n k h = grind (arith, nat_tests)

all_apart : (n m : ℕ) → m ≤ n → AllByRecursion (λ y. nat_eq n y ≡ false) (nearest m)
all_apart n zero h = tt
all_apart n (suc m) h = (apart n m (omega arith), all_apart n m (omega arith))

distinct : (n : ℕ) → IsDistinct nat_eq (nearest n)
distinct zero = distinct_none
distinct (suc n) = IsDistinct-cons nat_eq n (nearest n) (all_apart n n (omega arith)) (distinct n)

or_right : (a b : Bool) → b ≡ true → (a || b) ≡ true
or_right true b e = refl
or_right false b e = e

or_left : (a b : Bool) → a ≡ true → (a || b) ≡ true
or_left true b e = refl
or_left false b e = cc

own_number : (k : ℕ) → (k == k) ≡ true
own_number k = grind (arith, nat_tests)

listed : (n k : ℕ) → k < n → is_listed (nearest n) k ≡ true
listed zero k h = absurd (omega arith)
listed (suc n) k h = elim (below_or_last k n (omega arith)) [
  | inl e ↦ or_right (n == k) (is_listed (nearest n) k) (listed n k e)
  | inr e ↦ or_left (n == k) (is_listed (nearest n) k) (rw e (own_number n))
] where
  below_or_last : (k n : ℕ) → k ≤ n → (k < n) ⊎ (k ≡ n)
  below_or_last k n h = elim (below_or_above k n) [
    | inl g ↦ inl g
    | inr g ↦ inr (omega arith)
  ]

their_terms : (n : ℕ) → map Var (nearest n) ≡ variables n
their_terms zero = refl
their_terms (suc n) = ap (λ (rest : List Term). Var n ∷ rest) (their_terms n)

-- The functions of some quantifiers.
abbrev uses_at : ℕ → List Existential → List Use
uses_at k es = map use_of (skolems_from k es)

uses_more : (k m : ℕ) (xs ys : List Existential) → m ≡ k + length xs → uses_at k (xs ++ ys) ≡ uses_at k xs ++ uses_at m ys
uses_more k m [] ys e = let same : k ≡ m = omega arith in ap (λ (n : ℕ). uses_at n ys) same
uses_more k m (x ∷ xs) ys e = ap (λ (rest : List Use). use_of (record { symbol = skolem_symbol k x; id = k }) ∷ rest) (uses_more (k + 1) m xs ys (omega arith))

-- by equal parts
as_is : (v : Vocabulary) (scope : List ℕ) (us ws : List Use) (a b c d : Form) → us ≡ ws → a ≡ b → c ≡ d → IsSkolemized v scope ws b d → IsSkolemized v scope us a c
as_is v scope us ws a b c d e f g h = subst (λ (xs : List Use). IsSkolemized v scope xs a c) (sym e) (subst (λ (x : Form). IsSkolemized v scope ws x c) (sym f) (subst (λ (x : Form). IsSkolemized v scope ws b x) (sym g) h))

-- Atoms and equations have no existential quantifiers.
abbrev Atomic : Form → Type 0
Atomic a = (shape a).atomic ≡ true → (next n : ℕ) (around : List ℕ) (s : ℕ → Term) → (put a s ≡ (skolem_made a next n s).0) × (existentials_within a around ≡ [])

never : (a : Form) (x : Shape) → shape a ≡ x → x.atomic ≡ false → (shape a).atomic ≡ true → ⊥
never a x e f g = let clash : false ≡ true = sym f ∙ ap (λ (y : Shape). y.atomic) (sym e) ∙ g in cc

atomic : (a : Form) → Atomic a
atomic = form_induction Atomic (record {
  atom = λ p ts e next n around s. (rw (put-Atom, made-Atom) refl, existentials_within-Atom p ts around);
  eq = λ l r e next n around s. (rw (put-Eq, made-Eq) refl, existentials_within-Eq l r around);
  not = λ a ih e next n around s. absurd (never (Not a) _ (shape-Not a) refl e);
  and = λ as_ all e next n around s. absurd (never (And as_) _ (shape-And as_) refl e);
  or = λ as_ all e next n around s. absurd (never (Or as_) _ (shape-Or as_) refl e);
  imp = λ a b ih jh e next n around s. absurd (never (Imp a b) _ (shape-Imp a b) refl e);
  iff = λ a b ih jh e next n around s. absurd (never (Iff a b) _ (shape-Iff a b) refl e);
  all = λ q a ih e next n around s. absurd (never (All q a) _ (shape-All q a) refl e);
  ex = λ q a ih e next n around s. absurd (never (Ex q a) _ (shape-Ex q a) refl e);
})

-- The walk.
module _ (w : Vocabulary) where
  record Stands (next n : ℕ) (around from to : List ℕ) (s : ℕ → Term) : Type 0 where
    count : n ≡ length around
    scope : to ≡ reverse around
    images : IsImages w from to s

  abbrev Walks : Form → Type 0
  Walks a =
      IsNormal a → (next n : ℕ) (around from to : List ℕ) (s : ℕ → Term) → Stands next n around from to s → KnowsFrom w next (existentials_within a around) → is_sorted w from a ≡ true
      → IsSkolemized w to (uses_at next (existentials_within a around)) (put a s) (skolem_made a next n s).0

  all_walk : (as_ : List Form) → AllByRecursion Walks as_ → AllByRecursion IsNormal as_ → (next n : ℕ) (around from to : List ℕ) (s : ℕ → Term) → Stands next n around from to s
      → KnowsFrom w next (joined_lists (map (λ (a : Form). existentials_within a around) as_)) → list_all (is_sorted w from) as_ ≡ true
      → AreSkolemized w to (uses_at next (joined_lists (map (λ (a : Form). existentials_within a around) as_))) (map (λ (a : Form). put a s) as_) (in_turn (map skolem_made as_) next n s).0
  all_walk [] all normal next n around from to s st knows e = none to
  all_walk (a ∷ as_) all normal next n around from to s st knows e =
      let parts = both (is_sorted w from a) (list_all (is_sorted w from) as_) e in
      let own = existentials_within a around in
      let others = joined_lists (map (λ (b : Form). existentials_within b around) as_) in
      let after = (skolem_made a next n s).1 in
      let number : after ≡ next + length own = goes a next n s ∙ ap (λ (m : ℕ). next + m) (sym (counted a around)) in
      let first = all.0 normal.0 next n around from to s st (knows_first w next own others knows) parts.0 in
      let st' : Stands after n around from to s = record { count = st.count; scope = st.scope; images = st.images } in
      let rest = all_walk as_ all.1 normal.1 after n around from to s st' (knows_others w next after own others knows number) parts.1 in
      subst (λ (us : List Use). AreSkolemized w to us (map (λ (b : Form). put b s) (a ∷ as_)) (in_turn (map skolem_made (a ∷ as_)) next n s).0) (sym (uses_more next after own others number))
      (more to (uses_at next own) (uses_at after others) (put a s) (skolem_made a next n s).0 (map (λ (b : Form). put b s) as_) (in_turn (map skolem_made as_) after n s).0 first rest)

  not_walks : (a : Form) → IsNormal (Not a) → (next n : ℕ) (around to : List ℕ) (s : ℕ → Term) → IsSkolemized w to (uses_at next (existentials_within (Not a) around)) (put (Not a) s) (skolem_made (Not a) next n s).0
  not_walks a normal next n around to s =
      let plain = atomic a (ap (λ (x : Shape). x.normal) (sym (shape-Not a)) ∙ normal) next n around s in
      let uses : uses_at next (existentials_within (Not a) around) ≡ [] = ap (uses_at next) (existentials_within-Not a around ∙ plain.1) in
      let made : (skolem_made (Not a) next n s).0 ≡ Not (put a s) = ap (λ (x : Form × ℕ). x.0) (made-Not a next n s) ∙ ap Not (sym plain.0) in
      as_is w to (uses_at next (existentials_within (Not a) around)) [] (put (Not a) s) (Not (put a s)) (skolem_made (Not a) next n s).0 (Not (put a s)) uses (put-Not a s) made (a_negation to (put a s))

  all_walks : (q : ℕ) (a : Form) → Walks a → Walks (All q a)
  all_walks q a ih normal next n around from to s st knows e =
      let parts = both (nat_lt q (length w.sorts)) (is_sorted w (q ∷ from) a) (rw is_sorted-All at e) in
      let st' : Stands next (n + 1) (around ++ q ∷ []) (q ∷ from) (q ∷ to) (under_all s) = record {
        count = let same = st.count in rw length-append (omega arith);
        scope = ap (λ (l : List ℕ). q ∷ l) st.scope ∙ sym (reverse-append around (q ∷ []));
        images = images_under_all w from to s st.images q;
      } in
      let inner = ih (ap (λ (x : Shape). x.normal) (sym (shape-All q a)) ∙ normal) next (n + 1) (around ++ q ∷ []) (q ∷ from) (q ∷ to) (under_all s) st' (rw existentials_within-All at knows) parts.1 in
      as_is w to (uses_at next (existentials_within (All q a) around)) (uses_at next (existentials_within a (around ++ q ∷ []))) (put (All q a) s) (All q (put a (under_all s))) (skolem_made (All q a) next n s).0 (All q (skolem_made a next (n + 1) (under_all s)).0)
      (ap (uses_at next) (existentials_within-All q a around)) (put-All q a s) (ap (λ (x : Form × ℕ). x.0) (made-All q a next n s))
      (for_each to (uses_at next (existentials_within a (around ++ q ∷ []))) q (put a (under_all s)) (skolem_made a next (n + 1) (under_all s)).0 inner)

  ex_walks : (q : ℕ) (a : Form) → Walks a → Walks (Ex q a)
  ex_walks q a ih normal next n around from to s st knows e =
      let parts = both (nat_lt q (length w.sorts)) (is_sorted w (q ∷ from) a) (rw is_sorted-Ex at e) in
      let place : Existential = record { around = around; sort = q } in
      let own : Use = use_of (record { symbol = skolem_symbol next place; id = next }) in
      let known : KnowsFrom w next (place ∷ existentials_within a around) = rw existentials_within-Ex at knows in
      let value : App next (variables n) ≡ value_of own = ap (λ (ts : List Term). App next ts) (ap variables st.count ∙ sym (their_terms (length around))) in
      let sorted : sort_of_term w to (value_of own) ≡ Some q = subst (λ (scope : List ℕ). sort_of_term w scope (value_of own) ≡ Some q) (sym st.scope) (subst (λ (ts : List Term). sort_of_term w (reverse around) (App next ts) ≡ Some q) (sym (their_terms (length around))) (value_sorted w next around q known.0)) in
      let few : length to ≡ length around = ap length st.scope ∙ length-reverse around in
      let body : is_sorted w to (Ex q (put a (under_all s))) ≡ true = subst (λ (b : Form). is_sorted w to b ≡ true) (put-Ex q a s) (put_fits w (Ex q a) from to s st.images e) in
      let may : MayReplace w to own q (put a (under_all s)) = record {
        sort = refl;
        arguments = record {
          distinct = distinct (length around);
          all_free = λ k h. among_contains (nearest (length around)) k (listed (length around) k (let less = below w (Ex q (put a (under_all s))) to k body h in omega arith));
        };
        fits = sorted;
      } in
      let st' : Stands (next + 1) n around (q ∷ from) to (under_ex (value_of own) s) = record { count = st.count; scope = st.scope; images = images_under_ex w from to s st.images q (value_of own) sorted } in
      let inner = ih (ap (λ (x : Shape). x.normal) (sym (shape-Ex q a)) ∙ normal) (next + 1) n around (q ∷ from) to (under_ex (value_of own) s) st' known.1 parts.1 in
      let made : (skolem_made (Ex q a) next n s).0 ≡ (skolem_made a (next + 1) n (under_ex (value_of own) s)).0 =
      ap (λ (x : Form × ℕ). x.0) (made-Ex q a next n s) ∙ ap (λ (t : Term). (skolem_made a (next + 1) n (under_ex t s)).0) value in
      as_is w to (uses_at next (existentials_within (Ex q a) around)) (own ∷ uses_at (next + 1) (existentials_within a around)) (put (Ex q a) s) (Ex q (put a (under_all s))) (skolem_made (Ex q a) next n s).0 (skolem_made a (next + 1) n (under_ex (value_of own) s)).0
      (ap (uses_at next) (existentials_within-Ex q a around)) (put-Ex q a s) made
      (for_some to own (uses_at (next + 1) (existentials_within a around)) q (put a (under_all s)) (skolem_made a (next + 1) n (under_ex (value_of own) s)).0 may
      (subst (λ (b : Form). IsSkolemized w to (uses_at (next + 1) (existentials_within a around)) b (skolem_made a (next + 1) n (under_ex (value_of own) s)).0) (sym (body_put a (value_of own) s)) inner))

  walks : (a : Form) → Walks a
  walks = form_induction Walks (record {
    atom = λ p ts normal next n around from to s st knows e.
        as_is w to (uses_at next (existentials_within (Atom p ts) around)) [] (put (Atom p ts) s) (Atom p (map (image s) ts)) (skolem_made (Atom p ts) next n s).0 (Atom p (map (image s) ts))
        (ap (uses_at next) (existentials_within-Atom p ts around)) (put-Atom p ts s) (ap (λ (x : Form × ℕ). x.0) (made-Atom p ts next n s)) (an_atom to p (map (image s) ts));
    eq = λ l r normal next n around from to s st knows e.
        as_is w to (uses_at next (existentials_within (Eq l r) around)) [] (put (Eq l r) s) (Eq (image s l) (image s r)) (skolem_made (Eq l r) next n s).0 (Eq (image s l) (image s r))
        (ap (uses_at next) (existentials_within-Eq l r around)) (put-Eq l r s) (ap (λ (x : Form × ℕ). x.0) (made-Eq l r next n s)) (an_equation to (image s l) (image s r));
    not = λ a ih normal next n around from to s st knows e. not_walks a normal next n around to s;
    and = λ as_ all normal next n around from to s st knows e.
        let inner = all_walk as_ all (all_normal as_ (sym (and_normal as_) ∙ normal)) next n around from to s st (rw existentials_within-And at knows) (rw is_sorted-And at e) in
        let us = uses_at next (joined_lists (map (λ (a : Form). existentials_within a around) as_)) in
        as_is w to (uses_at next (existentials_within (And as_) around)) us (put (And as_) s) (And (map (λ (a : Form). put a s) as_)) (skolem_made (And as_) next n s).0 (And (in_turn (map skolem_made as_) next n s).0)
        (ap (uses_at next) (existentials_within-And as_ around)) (put-And as_ s) (ap (λ (x : Form × ℕ). x.0) (made-And as_ next n s)) (a_conjunction to us (map (λ (a : Form). put a s) as_) (in_turn (map skolem_made as_) next n s).0 inner);
    or = λ as_ all normal next n around from to s st knows e.
        let inner = all_walk as_ all (all_normal as_ (sym (or_normal as_) ∙ normal)) next n around from to s st (rw existentials_within-Or at knows) (rw is_sorted-Or at e) in
        let us = uses_at next (joined_lists (map (λ (a : Form). existentials_within a around) as_)) in
        as_is w to (uses_at next (existentials_within (Or as_) around)) us (put (Or as_) s) (Or (map (λ (a : Form). put a s) as_)) (skolem_made (Or as_) next n s).0 (Or (in_turn (map skolem_made as_) next n s).0)
        (ap (uses_at next) (existentials_within-Or as_ around)) (put-Or as_ s) (ap (λ (x : Form × ℕ). x.0) (made-Or as_ next n s)) (a_disjunction to us (map (λ (a : Form). put a s) as_) (in_turn (map skolem_made as_) next n s).0 inner);
    imp = λ a b ih jh normal next n around from to s st knows e. let clash : false ≡ true = ap (λ (x : Shape). x.normal) (sym (shape-Imp a b)) ∙ normal in cc;
    iff = λ a b ih jh normal next n around from to s st knows e. let clash : false ≡ true = ap (λ (x : Shape). x.normal) (sym (shape-Iff a b)) ∙ normal in cc;
    all = all_walks;
    ex = ex_walks;
  })

no_images : (v : Vocabulary) (k r : ℕ) → slice_get [] k ≡ Some r → sort_of_term v [] (Var k) ≡ Some r
no_images v k r e = sort_of_term-Var v [] k ∙ e

pub skolemized_is : (v : Vocabulary) (a : Form) (positive : Bool) (next : ℕ) → KnowsFrom v next (existentials (norm_of positive a)) → is_sorted v [] (norm_of positive a) ≡ true
    → IsSkolemized v [] (uses_of (norm_of positive a) next) (norm_of positive a) (skolemized (norm_of positive a) next)
skolemized_is v a positive next knows sorted =
    let norm = norm_of positive a in
    let walked = walks v norm (norm_is_normal a positive) next 0 [] [] [] Var (record { count = refl; scope = refl; images = record { sorted = no_images v } }) knows sorted in
    subst (λ (b : Form). IsSkolemized v [] (uses_of norm next) b (skolemized norm next)) (itself norm) walked
