-- Superposition at a place of a literal.
use Rattle.std.specs.Prelude.{ℕ, ◌+◌, ◌≡◌, Bool, List, [], ◌∷◌, ◌++◌, length, map, remove, Option, Some, None, slice_get, slice_set, refl}
use Rattle.std.specs.Option.{option_map}
use Rattle.std.proofs.Common.{ap, sym, ◌∙◌, arith}
use Rattle.std.proofs.lemmas.Option.{slice_get-map}
use Rattle.fof_terms.specs.declared.term.Term.{Term, App}
use Rattle.fof_terms.specs.declared.term.Term.TheViews.{out-Term, outs-Var, outs-App}
use Rattle.fof_terms.specs.Vocabulary.{Vocabulary}
use Rattle.fof_terms.specs.Lift.{lifted_term}
use Rattle.fof_terms.proofs.Induction.{term_induction}
use Rattle.fof_terms.proofs.LiftFacts.{lifted_term-App}
use Rattle.fof_terms.proofs.LiftingLaws.{moves}
use Rattle.clause_form.specs.declared.clause.AtomOf.{AtomOf}
use Rattle.clause_form.specs.declared.clause.AtomOf.TheVariants.{Pred, Eq, True, False}
use Rattle.clause_form.specs.declared.clause.Lit.{Lit}
use Rattle.clause_form.specs.declared.clause.Clause.{Clause}
use Rattle.clause_form.specs.Covers.{at_terms, lit_apart}
use Rattle.clause_form.specs.Images.{image}
use Rattle.clause_form.proofs.ImagesFacts.{image_of_lifted}
use Rattle.clause_rules.specs.Places.{args_of, args_of_atom, down_into, term_at, lit_term_at, lit_put_at}
use Rattle.clause_rules.specs.Steps.{scope_of_both, apart_from, equation}
use Rattle.clause_rules.proofs.Firsts.{one_at}
use Rattle.clause_rules.proofs.PlaceLaws.{args_of-Var, args_of-App}
use Rattle.clause_order.specs.Order.{IsGreater}
use Rattle.clause_order.specs.Eligible.{IsEligible}
use Rattle.clause_rules.proofs.PlaceSorts.{term_found}
use Rattle.clause_rules.specs.Ways.{zip_pairs}
use Rattle.unify_terms.specs.declared.pair.Pair.{Pair}
use Rattle.unify_terms.specs.declared.scope.Scope.{Scope}
use Rattle.unify_terms.specs.Unifiers.{Unified, AreSorted}
use Rattle.superpose.specs.declared.made.Made.{Made}
use Rattle.superpose.specs.Drafts.{Draft, IsClause}
use Rattle.superpose.specs.Inferences.{SuperposesAt}
use Rattle.superpose.specs.Made.{IsBestAt}
use Rattle.superpose.specs.code.Conclusions.{IsConclusion}
use Rattle.superpose.specs.code.Pairs.{HasSides}
use Rattle.superpose.specs.code.Placed.{NoneStands, HasPart, AreReplaced}
use Rattle.superpose.proofs.ConclusionFacts.{get_map}
use Rattle.superpose.proofs.Factored.{same_sides, draft_is}
use Rattle.superpose.proofs.LeftSorts.{sorted_first, sorted_second, sorted_at, equation_sorts, superposed_left}
use Rattle.superpose.proofs.PairFacts.{asks_terms, same_head}
use Rattle.superpose.proofs.Posed.{IsPosed, IsScope, asked_sorted, none_best, some_best}
use Rattle.superpose.proofs.Resolved.{both_exist}
use Rattle.fof_terms.specs.declared.term.Term.TheOpen as term

module _ (n : ℕ) where
  abbrev f : Term → Term
  f = lifted_term n 0

  args_moved : (t : Term) → args_of (f t) ≡ map f (args_of t)
  args_moved = term_induction _ (record {
    var = λ k. ap args_of (moves n 0 k (omega arith)) ∙ args_of-Var (k + n) ∙ ap (map f) (sym (args_of-Var k));
    app = λ g ts all. ap args_of (lifted_term-App n 0 g ts) ∙ args_of-App g (map f ts) ∙ ap (map f) (sym (args_of-App g ts));
  })

  at_moved : (place : List ℕ) (ts : List Term) → term_at place (map f ts) ≡ option_map f (term_at place ts)
  at_moved [] ts = refl
  at_moved (k ∷ []) ts = slice_get-map f ts k
  at_moved (k ∷ m ∷ place) ts = ap (down_into (term_at (m ∷ place))) (slice_get-map f ts k) ∙ go (λ t. at_moved (m ∷ place) (args_of t)) (slice_get ts k) where
    go : ((t : Term) → term_at (m ∷ place) (map f (args_of t)) ≡ option_map f (term_at (m ∷ place) (args_of t))) → (o : Option Term) → down_into (term_at (m ∷ place)) (option_map f o) ≡ option_map f (down_into (term_at (m ∷ place)) o)
    go h None = refl
    go h (Some t) = ap (term_at (m ∷ place)) (args_moved t) ∙ h t

  moved_args : (a : AtomOf) → args_of_atom (at_terms f a) ≡ map f (args_of_atom a)
  moved_args (Pred p ts) = refl
  moved_args (Eq l r) = refl
  moved_args True = refl
  moved_args False = refl

  -- what stands at a place after the move stood there before it
  pub stood_at : (place : List ℕ) (k : Lit) (u : Term) → lit_term_at place (lit_apart n k) ≡ Some u → (t : Term) × (lit_term_at place k ≡ Some t) × (f t ≡ u)
  stood_at place k u e = go (lit_term_at place k) refl (sym (ap (term_at place) (moved_args k.atom) ∙ at_moved place (args_of_atom k.atom)) ∙ e) where
    go : (o : Option Term) → lit_term_at place k ≡ o → option_map f o ≡ Some u → (t : Term) × (lit_term_at place k ≡ Some t) × (f t ≡ u)
    go None is h = cc
    go (Some t) is h = (t, is, cc)

  -- an application was one before
  pub was_app : (t : Term) (g : ℕ) (args : List Term) → f t ≡ App g args → (args' : List Term) × (t ≡ App g args')
  was_app = term_induction _ (record {
    var = λ k g args e. let layers : term.Var (k + n) ≡ term.App g args = sym (outs-Var (k + n)) ∙ ap out-Term (sym (moves n 0 k (omega arith)) ∙ e) ∙ outs-App g args in cc;
    app = λ h ts all g args e. (ts, ap (λ x. App x ts) (same_head h g (map f ts) args (sym (lifted_term-App n 0 h ts) ∙ e)));
  })

  -- the term at a place is moved with the literal
  pub part_moved : (place : List ℕ) (k : Lit) (u : Term) → HasPart k place (Some u) → HasPart (lit_apart n k) place (Some (f u))
  part_moved place k u p = (
    p.0,
    map f p.1,
    ap f p.2 ∙ lifted_term-App n 0 p.0 p.1,
    ap (term_at place) (moved_args k.atom) ∙ at_moved place (args_of_atom k.atom) ∙ ap (option_map f) p.3,
  )

module _ (v : Vocabulary) (c d : Clause) (i : ℕ) (flipped : Bool) (j : ℕ) (place : List ℕ) where
  abbrev Is : Draft → Type 0
  Is = SuperposesAt c d i flipped j place

  pub never_equation : (k : Lit) → slice_get c.lits i ≡ Some k → HasSides k flipped None → IsBestAt v (scope_of_both c d) Is None
  never_equation k k_at never g e s p made = never p.l p.r (one_at c.lits i k (equation flipped p.l p.r) k_at p.here)

  pub never_stands : (k target : Lit) (l r : Term) → slice_get c.lits i ≡ Some k → k ≡ equation flipped l r → slice_get d.lits j ≡ Some target → NoneStands l target place → IsBestAt v (scope_of_both c d) Is None
  never_stands k target l r k_at k_is t_at never g e s p made =
      let n = length c.sorts in
      let moved : p.target ≡ lit_apart n target = one_at (apart_from c d.lits) j p.target (lit_apart n target) p.there (get_map (lit_apart n) d.lits j target t_at) in
      let stood = stood_at n place target (App p.g p.args) (ap (lit_term_at place) (sym moved) ∙ p.stands) in
      let sides = same_sides flipped p.l p.r l r (one_at c.lits i (equation flipped p.l p.r) (equation flipped l r) p.here (k_at ∙ ap Some k_is)) in
      let equal : image s l ≡ image (λ x. s (x + n)) stood.0 =
      ap (image s) (sym sides.0 ∙ sym p.one) ∙ made.unified ∙ ap (image s) (p.other ∙ sym stood.2) ∙ image_of_lifted s n stood.0 in
      never stood.0 stood.1 s (λ x. s (x + n)) equal

  pub never_part : (target : Lit) → slice_get d.lits j ≡ Some target → HasPart target place None → IsBestAt v (scope_of_both c d) Is None
  never_part target t_at never g e s p made =
      let n = length c.sorts in
      let moved : p.target ≡ lit_apart n target = one_at (apart_from c d.lits) j p.target (lit_apart n target) p.there (get_map (lit_apart n) d.lits j target t_at) in
      let stood = stood_at n place target (App p.g p.args) (ap (lit_term_at place) (sym moved) ∙ p.stands) in
      let was = was_app n stood.0 p.g p.args stood.2 in
      never p.g was.0 (stood.1 ∙ ap Some was.1)

  module _ (hc : IsClause v c) (hd : IsClause v d) (first : IsEligible c.lits i) (second : IsEligible d.lits j) (not_less : (l r : Term) → slice_get c.lits i ≡ Some (equation flipped l r) → IsGreater r l → ⊥) (k target : Lit) (l r u : Term)
      (k_at : slice_get c.lits i ≡ Some k) (k_is : k ≡ equation flipped l r) (there : slice_get (apart_from c d.lits) j ≡ Some target) (part : HasPart target place (Some u))
      (given : Scope) (sorts : given.sorts ≡ scope_of_both c d) (rigid : given.rigid ≡ 0) (pairs lent : List Pair) (pairs_are : pairs ≡ zip_pairs (l ∷ []) (u ∷ [])) (lent_pairs : lent ≡ pairs) where
    abbrev changed : List Lit
    changed = remove c.lits i ++ slice_set (apart_from c d.lits) j (lit_put_at place r target)

    abbrev draft : Draft
    draft = record { one = l; other = u; left = changed }

    abbrev here : slice_get c.lits i ≡ Some (equation flipped l r)
    here = k_at ∙ ap Some k_is

    draft_at : Is draft
    draft_at = record {
      l = l;
      r = r;
      target = target;
      g = part.0;
      args = part.1;
      here = here;
      there = there;
      stands = part.3 ∙ ap Some part.2;
      first = first;
      second = second;
      not_less = not_less l r here;
      one = refl;
      other = part.2;
      left = refl;
    }

    draft_only : (x : Draft) → Is x → x ≡ draft
    draft_only x p =
        let sides = same_sides flipped p.l p.r l r (one_at c.lits i (equation flipped p.l p.r) (equation flipped l r) p.here here) in
        let same : p.target ≡ target = one_at (apart_from c d.lits) j p.target target p.there there in
        let terms : Some (App p.g p.args) ≡ Some u = sym p.stands ∙ ap (lit_term_at place) same ∙ part.3 in
        let other : App p.g p.args ≡ u = cc in
        let new : lit_put_at place p.r p.target ≡ lit_put_at place r target = ap (λ y. lit_put_at place y p.target) sides.1 ∙ ap (lit_put_at place r) same in
        draft_is x l u changed (p.one ∙ sides.0) (p.other ∙ other) (p.left ∙ ap (λ y. remove c.lits i ++ slice_set (apart_from c d.lits) j y) new)

    posed : IsPosed v (scope_of_both c d) Is draft (l ∷ []) (u ∷ [])
    posed =
        let from = equation_sorts v (scope_of_both c d) c.lits i flipped l r (sorted_first v c d hc.fit.sorted) here in
        let found = term_found v (scope_of_both c d) target place u part.3 (sorted_at v (scope_of_both c d) (apart_from c d.lits) j target (sorted_second v c d hd.fit.sorted) there) in
        record {
          is_draft = draft_at;
          only = draft_only;
          asks = asks_terms draft l u refl refl;
          left_found = ((from.0, from.1), tt);
          right_found = (found, tt);
          size = refl;
          exist = both_exist v c d hc hd;
          left_sorted = λ to s images unified. superposed_left v c d draft hc.fit.sorted hd.fit.sorted i flipped j place draft_at to s images unified;
        }

    abbrev is_scope : IsScope (scope_of_both c d) given
    is_scope = record { sorts = sorts; rigid = rigid }

    pub superposition_sorted : AreSorted v given.sorts lent
    superposition_sorted = asked_sorted v (scope_of_both c d) Is draft (l ∷ []) (u ∷ []) posed given is_scope lent (lent_pairs ∙ pairs_are)

    pub superposition_none : Unified v given.sorts given.rigid lent None → IsBestAt v (scope_of_both c d) Is None
    superposition_none x = none_best v (scope_of_both c d) Is draft (l ∷ []) (u ∷ []) posed given is_scope lent (lent_pairs ∙ pairs_are) x

    pub superposition_some : (images : List Term) (lits put left : List Lit) (made : Made) → Unified v given.sorts given.rigid lent (Some images) → lits ≡ apart_from c d.lits → AreReplaced lits j place r put → left ≡ remove c.lits i ++ put
        → IsConclusion given.sorts images left made → IsBestAt v (scope_of_both c d) Is (Some made)
    superposition_some images lits put left made x lits_are replaced left_is con =
        let put_is : put ≡ slice_set (apart_from c d.lits) j (lit_put_at place r target) = replaced target (ap (λ xs. slice_get xs j) lits_are ∙ there) ∙ ap (λ xs. slice_set xs j (lit_put_at place r target)) lits_are in
        some_best v (scope_of_both c d) Is draft (l ∷ []) (u ∷ []) posed given is_scope lent (lent_pairs ∙ pairs_are) images x left made (left_is ∙ ap (λ ys. remove c.lits i ++ ys) put_is) con
