-- Factoring, equality resolution and equality factoring at places of one clause.
use Rattle.std.specs.Prelude.{ℕ, ◌≡◌, ◌≢◌, Bool, true, false, List, [], ◌∷◌, ◌++◌, remove, Some, None, slice_get, refl}
use Rattle.std.proofs.Common.{ap, sym, ◌∙◌}
use Rattle.fof_terms.specs.declared.term.Term.{Term}
use Rattle.fof_terms.specs.Vocabulary.{Vocabulary}
use Rattle.clause_form.specs.declared.clause.Lit.{Lit}
use Rattle.clause_form.specs.declared.clause.Clause.{Clause}
use Rattle.clause_form.specs.ClauseView.{stated}
use Rattle.clause_form.specs.Covers.{scope_of}
use Rattle.clause_rules.specs.Places.{args_of_atom}
use Rattle.clause_rules.specs.Steps.{equation, unequal}
use Rattle.clause_rules.proofs.Firsts.{one_at}
use Rattle.clause_order.specs.Weights.{as_term}
use Rattle.clause_order.specs.Eligible.{IsEligible}
use Rattle.clause_rules.specs.Ways.{zip_pairs}
use Rattle.unify_terms.specs.declared.pair.Pair.{Pair}
use Rattle.unify_terms.specs.declared.scope.Scope.{Scope}
use Rattle.unify_terms.specs.Unifiers.{Unified, AreSorted}
use Rattle.superpose.specs.declared.made.Made.{Made}
use Rattle.superpose.specs.Drafts.{Draft, IsClause}
use Rattle.superpose.specs.Inferences.{FactorsAt, ResolvesEquationAt, FactorsEquationsAt}
use Rattle.superpose.specs.Made.{IsBestAt}
use Rattle.superpose.specs.code.Conclusions.{IsConclusion}
use Rattle.superpose.specs.code.Pairs.{ArePairsOf, HasSides, HasDeniedSides, NotPositive}
use Rattle.superpose.proofs.LeftSorts.{sorted_at, equation_sorts, unequal_sorts, factored_left, equation_left, equations_left}
use Rattle.superpose.proofs.PairFacts.{args_found, asks_atoms, never_atoms, asks_terms}
use Rattle.superpose.proofs.Posed.{IsPosed, IsScope, asked_sorted, none_best, some_best}
use Rattle.superpose.proofs.Resolved.{scope_exists}

pub same_sides : (flipped : Bool) (l r m n : Term) → equation flipped l r ≡ equation flipped m n → (l ≡ m) × (r ≡ n)
same_sides false l r m n e = let args : l ∷ r ∷ [] ≡ m ∷ n ∷ [] = ap (λ (x : Lit). args_of_atom x.atom) e in (cc, cc)
same_sides true l r m n e = let args : r ∷ l ∷ [] ≡ n ∷ m ∷ [] = ap (λ (x : Lit). args_of_atom x.atom) e in (cc, cc)

same_denied : (l r m n : Term) → unequal l r ≡ unequal m n → (l ≡ m) × (r ≡ n)
same_denied l r m n e = let args : l ∷ r ∷ [] ≡ m ∷ n ∷ [] = ap (λ (x : Lit). args_of_atom x.atom) e in (cc, cc)

pub draft_is : (g : Draft) (one other : Term) (left : List Lit) → g.one ≡ one → g.other ≡ other → g.left ≡ left → g ≡ record { one = one; other = other; left = left }
draft_is g one other left a b d =
    ap (λ (x : Term). record { one = x; other = g.other; left = g.left }) a ∙ ap (λ (x : Term). record { one = one; other = x; left = g.left }) b ∙ ap (λ (x : List Lit). record { one = one; other = other; left = x }) d

pub stated_is : (k : Lit) → k.positive ≡ true → k ≡ stated k.atom
stated_is k e = ap (λ (b : Bool). record { positive = b; atom = k.atom }) e

module _ (v : Vocabulary) (c : Clause) (i j : ℕ) where
  pub never_apart : i ≡ j → IsBestAt v (scope_of c) (FactorsAt c i j) None
  never_apart same f e s p made = p.apart same

  pub never_positive : (k l : Lit) → slice_get c.lits i ≡ Some k → slice_get c.lits j ≡ Some l → NotPositive k l → IsBestAt v (scope_of c) (FactorsAt c i j) None
  never_positive k l k_at l_at never f e s p made = never p.a p.b (one_at c.lits i k (stated p.a) k_at p.here) (one_at c.lits j l (stated p.b) l_at p.there)

  pub never_same : (k l : Lit) → slice_get c.lits i ≡ Some k → slice_get c.lits j ≡ Some l → ArePairsOf k.atom l.atom None → IsBestAt v (scope_of c) (FactorsAt c i j) None
  never_same k l k_at l_at never f e s p made =
      let first : p.a ≡ k.atom = ap (λ (x : Lit). x.atom) (sym (one_at c.lits i k (stated p.a) k_at p.here)) in
      let second : p.b ≡ l.atom = ap (λ (x : Lit). x.atom) (sym (one_at c.lits j l (stated p.b) l_at p.there)) in
      never_atoms f k.atom l.atom (p.one ∙ ap as_term first) (p.other ∙ ap as_term second) never s made.unified

  module _ (hc : IsClause v c) (apart : i ≢ j) (first : IsEligible c.lits i) (k l : Lit) (k_at : slice_get c.lits i ≡ Some k) (l_at : slice_get c.lits j ≡ Some l) (k_positive : k.positive ≡ true) (l_positive : l.positive ≡ true)
      (pairs : List Pair) (paired : ArePairsOf k.atom l.atom (Some pairs)) (given : Scope) (sorts : given.sorts ≡ scope_of c) (rigid : given.rigid ≡ 0) (lent : List Pair) (lent_pairs : lent ≡ pairs) where
    abbrev factor : Draft
    factor = record { one = as_term k.atom; other = as_term l.atom; left = remove c.lits j }

    abbrev here : slice_get c.lits i ≡ Some (stated k.atom)
    here = k_at ∙ ap Some (stated_is k k_positive)

    abbrev there : slice_get c.lits j ≡ Some (stated l.atom)
    there = l_at ∙ ap Some (stated_is l l_positive)

    factor_at_it : FactorsAt c i j factor
    factor_at_it = record { a = k.atom; b = l.atom; apart = apart; here = here; there = there; first = first; one = refl; other = refl; left = refl }

    factor_only : (g : Draft) → FactorsAt c i j g → g ≡ factor
    factor_only g p =
        let a_is : p.a ≡ k.atom = ap (λ (x : Lit). x.atom) (one_at c.lits i (stated p.a) (stated k.atom) p.here here) in
        let b_is : p.b ≡ l.atom = ap (λ (x : Lit). x.atom) (one_at c.lits j (stated p.b) (stated l.atom) p.there there) in
        draft_is g (as_term k.atom) (as_term l.atom) (remove c.lits j) (p.one ∙ ap as_term a_is) (p.other ∙ ap as_term b_is) p.left

    factor_posed : IsPosed v (scope_of c) (FactorsAt c i j) factor (args_of_atom k.atom) (args_of_atom l.atom)
    factor_posed = record {
      is_draft = factor_at_it;
      only = factor_only;
      asks = asks_atoms factor k.atom l.atom pairs refl refl paired;
      left_found = args_found v (scope_of c) k.atom (sorted_at v (scope_of c) c.lits i k hc.fit.sorted k_at);
      right_found = args_found v (scope_of c) l.atom (sorted_at v (scope_of c) c.lits j l hc.fit.sorted l_at);
      size = paired.size;
      exist = scope_exists v c hc;
      left_sorted = λ to s images unified. factored_left v c factor hc.fit.sorted i j factor_at_it;
    }

    abbrev factor_scope : IsScope (scope_of c) given
    factor_scope = record { sorts = sorts; rigid = rigid }

    pub factor_sorted : AreSorted v given.sorts lent
    factor_sorted = asked_sorted v (scope_of c) (FactorsAt c i j) factor (args_of_atom k.atom) (args_of_atom l.atom) factor_posed given factor_scope lent (lent_pairs ∙ paired.pairs_are)

    pub factor_none : Unified v given.sorts given.rigid lent None → IsBestAt v (scope_of c) (FactorsAt c i j) None
    factor_none u = none_best v (scope_of c) (FactorsAt c i j) factor (args_of_atom k.atom) (args_of_atom l.atom) factor_posed given factor_scope lent (lent_pairs ∙ paired.pairs_are) u

    pub factor_some : (images : List Term) (left : List Lit) (made : Made) → Unified v given.sorts given.rigid lent (Some images) → left ≡ remove c.lits j → IsConclusion given.sorts images left made
        → IsBestAt v (scope_of c) (FactorsAt c i j) (Some made)
    factor_some images left made u left_is con =
        some_best v (scope_of c) (FactorsAt c i j) factor (args_of_atom k.atom) (args_of_atom l.atom) factor_posed given factor_scope lent (lent_pairs ∙ paired.pairs_are) images u left made left_is con

-- equality resolution
module _ (v : Vocabulary) (c : Clause) (i : ℕ) where
  pub never_denied : (k : Lit) → slice_get c.lits i ≡ Some k → HasDeniedSides k None → IsBestAt v (scope_of c) (ResolvesEquationAt c i) None
  never_denied k k_at never f e s p made = never p.s p.t (one_at c.lits i k (unequal p.s p.t) k_at p.here)

  module _ (hc : IsClause v c) (first : IsEligible c.lits i) (k : Lit) (s t : Term) (k_at : slice_get c.lits i ≡ Some k) (k_is : k ≡ unequal s t) (given : Scope) (sorts : given.sorts ≡ scope_of c) (rigid : given.rigid ≡ 0)
      (pairs lent : List Pair) (pairs_are : pairs ≡ zip_pairs (s ∷ []) (t ∷ [])) (lent_pairs : lent ≡ pairs) where
    abbrev gone : Draft
    gone = record { one = s; other = t; left = remove c.lits i }

    abbrev at : slice_get c.lits i ≡ Some (unequal s t)
    at = k_at ∙ ap Some k_is

    gone_at_it : ResolvesEquationAt c i gone
    gone_at_it = record { s = s; t = t; here = at; first = first; one = refl; other = refl; left = refl }

    gone_only : (g : Draft) → ResolvesEquationAt c i g → g ≡ gone
    gone_only g p =
        let same = same_denied p.s p.t s t (one_at c.lits i (unequal p.s p.t) (unequal s t) p.here at) in
        draft_is g s t (remove c.lits i) (p.one ∙ same.0) (p.other ∙ same.1) p.left

    gone_posed : IsPosed v (scope_of c) (ResolvesEquationAt c i) gone (s ∷ []) (t ∷ [])
    gone_posed =
        let found = unequal_sorts v (scope_of c) c.lits i s t hc.fit.sorted at in
        record {
          is_draft = gone_at_it;
          only = gone_only;
          asks = asks_terms gone s t refl refl;
          left_found = ((found.0, found.1), tt);
          right_found = ((found.0, found.2), tt);
          size = refl;
          exist = scope_exists v c hc;
          left_sorted = λ to r images unified. equation_left v c gone hc.fit.sorted i gone_at_it;
        }

    abbrev gone_scope : IsScope (scope_of c) given
    gone_scope = record { sorts = sorts; rigid = rigid }

    pub equation_sorted : AreSorted v given.sorts lent
    equation_sorted = asked_sorted v (scope_of c) (ResolvesEquationAt c i) gone (s ∷ []) (t ∷ []) gone_posed given gone_scope lent (lent_pairs ∙ pairs_are)

    pub equation_none : Unified v given.sorts given.rigid lent None → IsBestAt v (scope_of c) (ResolvesEquationAt c i) None
    equation_none u = none_best v (scope_of c) (ResolvesEquationAt c i) gone (s ∷ []) (t ∷ []) gone_posed given gone_scope lent (lent_pairs ∙ pairs_are) u

    pub equation_some : (images : List Term) (left : List Lit) (made : Made) → Unified v given.sorts given.rigid lent (Some images) → left ≡ remove c.lits i → IsConclusion given.sorts images left made
        → IsBestAt v (scope_of c) (ResolvesEquationAt c i) (Some made)
    equation_some images left made u left_is con =
        some_best v (scope_of c) (ResolvesEquationAt c i) gone (s ∷ []) (t ∷ []) gone_posed given gone_scope lent (lent_pairs ∙ pairs_are) images u left made left_is con

-- equality factoring
module _ (v : Vocabulary) (c : Clause) (i : ℕ) (first_flipped : Bool) (j : ℕ) (second_flipped : Bool) where
  abbrev Is : Draft → Type 0
  Is = FactorsEquationsAt c i first_flipped j second_flipped

  pub never_equations : i ≡ j → IsBestAt v (scope_of c) Is None
  never_equations same f e s p made = p.apart same

  pub never_first : (k : Lit) → slice_get c.lits i ≡ Some k → HasSides k first_flipped None → IsBestAt v (scope_of c) Is None
  never_first k k_at never f e s p made = never p.s p.t (one_at c.lits i k (equation first_flipped p.s p.t) k_at p.here)

  pub never_second : (l : Lit) → slice_get c.lits j ≡ Some l → HasSides l second_flipped None → IsBestAt v (scope_of c) Is None
  never_second l l_at never f e s p made = never p.u p.w (one_at c.lits j l (equation second_flipped p.u p.w) l_at p.there)

  module _ (hc : IsClause v c) (apart : i ≢ j) (first : IsEligible c.lits i) (k l : Lit) (s t u w : Term) (k_at : slice_get c.lits i ≡ Some k) (l_at : slice_get c.lits j ≡ Some l) (k_is : k ≡ equation first_flipped s t)
      (l_is : l ≡ equation second_flipped u w) (given : Scope) (sorts : given.sorts ≡ scope_of c) (rigid : given.rigid ≡ 0) (pairs lent : List Pair) (pairs_are : pairs ≡ zip_pairs (s ∷ []) (u ∷ [])) (lent_pairs : lent ≡ pairs) where
    abbrev merged : Draft
    merged = record { one = s; other = u; left = remove c.lits i ++ unequal t w ∷ [] }

    abbrev one_here : slice_get c.lits i ≡ Some (equation first_flipped s t)
    one_here = k_at ∙ ap Some k_is

    abbrev other_there : slice_get c.lits j ≡ Some (equation second_flipped u w)
    other_there = l_at ∙ ap Some l_is

    merged_at_it : Is merged
    merged_at_it = record { s = s; t = t; u = u; w = w; apart = apart; here = one_here; there = other_there; first = first; one = refl; other = refl; left = refl }

    merged_only : (g : Draft) → Is g → g ≡ merged
    merged_only g p =
        let one = same_sides first_flipped p.s p.t s t (one_at c.lits i (equation first_flipped p.s p.t) (equation first_flipped s t) p.here one_here) in
        let other = same_sides second_flipped p.u p.w u w (one_at c.lits j (equation second_flipped p.u p.w) (equation second_flipped u w) p.there other_there) in
        let new : unequal p.t p.w ≡ unequal t w = ap (λ x. unequal x p.w) one.1 ∙ ap (unequal t) other.1 in
        draft_is g s u (remove c.lits i ++ unequal t w ∷ []) (p.one ∙ one.0) (p.other ∙ other.0) (p.left ∙ ap (λ x. remove c.lits i ++ x ∷ []) new)

    merged_posed : IsPosed v (scope_of c) Is merged (s ∷ []) (u ∷ [])
    merged_posed =
        let one = equation_sorts v (scope_of c) c.lits i first_flipped s t hc.fit.sorted one_here in
        let other = equation_sorts v (scope_of c) c.lits j second_flipped u w hc.fit.sorted other_there in
        record {
          is_draft = merged_at_it;
          only = merged_only;
          asks = asks_terms merged s u refl refl;
          left_found = ((one.0, one.1), tt);
          right_found = ((other.0, other.1), tt);
          size = refl;
          exist = scope_exists v c hc;
          left_sorted = λ to r images unified. equations_left v c merged hc.fit.sorted i first_flipped j second_flipped merged_at_it to r images unified;
        }

    abbrev merged_scope : IsScope (scope_of c) given
    merged_scope = record { sorts = sorts; rigid = rigid }

    pub merged_sorted : AreSorted v given.sorts lent
    merged_sorted = asked_sorted v (scope_of c) Is merged (s ∷ []) (u ∷ []) merged_posed given merged_scope lent (lent_pairs ∙ pairs_are)

    pub merged_none : Unified v given.sorts given.rigid lent None → IsBestAt v (scope_of c) Is None
    merged_none x = none_best v (scope_of c) Is merged (s ∷ []) (u ∷ []) merged_posed given merged_scope lent (lent_pairs ∙ pairs_are) x

    pub merged_some : (images : List Term) (left : List Lit) (made : Made) → Unified v given.sorts given.rigid lent (Some images) → left ≡ remove c.lits i ++ unequal t w ∷ [] → IsConclusion given.sorts images left made
        → IsBestAt v (scope_of c) Is (Some made)
    merged_some images left made x left_is con =
        some_best v (scope_of c) Is merged (s ∷ []) (u ∷ []) merged_posed given merged_scope lent (lent_pairs ∙ pairs_are) images x left made left_is con
