-- The search for an equality factoring at two literals: its goal is well-sorted, and what solves it shows the factoring.
use Rattle.std.specs.Prelude.{ℕ, Bool, true, false, ◌≡◌, ◌≢◌, ◌<◌, ◌≤◌, ◌^◌, List, [], ◌∷◌, ◌++◌, length, map, Option, Some, None, slice_get, slice_set, get_or, refl}
use Rattle.std.proofs.Common.{ap, sym, subst, ◌∙◌, arith, length-append, zero, suc, inl, inr}
use Rattle.std.proofs.lemmas.List.{length-reverse}
use Rattle.std.proofs.lemmas.Option.{slice_get_within}
use Rattle.std.proofs.lemmas.List.Elements.{All-nil}
use Rattle.fof_terms.specs.Vocabulary.{Vocabulary}
use Rattle.fof_terms.specs.declared.term.Term.{Term}
use Rattle.fof_terms.specs.Lift.{lifted_term}
use Rattle.fof_terms.proofs.Scoped.{member_of}
use Rattle.clause_form.specs.declared.clause.Lit.{Lit}
use Rattle.clause_form.specs.declared.clause.Clause.{Clause}
use Rattle.clause_form.proofs.ClauseLaws.{get_image}
use Rattle.clause_form.specs.Covers.{lit_apart, lit_image, scope_of, is_sorted_atom, AreSorted}
use Rattle.clause_form.specs.Images.{image, IsImages}
use Rattle.unify_terms.specs.declared.goal.Goal.{Goal}
use Rattle.unify_terms.specs.declared.pair.Pair.{Pair}
use Rattle.unify_terms.specs.Goals.{goal_sorted}
use Rattle.unify_terms.specs.Substitution.{image_at}
use Rattle.rule_steps.specs.declared.eqfactor_rule.Factor.{Factor}
use Rattle.clause_rules.specs.declared.joint.Joint.{Joint}
use Rattle.clause_rules.specs.EqFactorRule.{IsFactored, Factors}
use Rattle.rule_steps.proofs.EqFactorSearchFacts.{factor_needs}
use Rattle.rule_steps.specs.code.EqFactorSearch.{FoundFactor}
use Rattle.clause_rules.specs.JointClauses.{IsJoinedOne}
use Rattle.clause_rules.specs.Settled.{IsFit, Settles}
use Rattle.substitution_search.specs.Settled.{IsSolution}
use Rattle.clause_rules.specs.Steps.{AreCovered, equation, unequal, instances}
use Rattle.substitution_search.proofs.WaysFacts.{MeetsNeeds}
use Rattle.clause_rules.specs.Ways.{goal_of_needs}
use Rattle.substitution_search.proofs.Covering.{pair_forth, pair_back, covers_forth, covers_back}
use Rattle.clause_rules.proofs.Equations.{equation_image, equation_parts, same_sides, map_set}
use Rattle.clause_rules.proofs.Firsts.{one_at, there_at}
use Rattle.clause_rules.proofs.JointImages.{sorted_further}
use Rattle.clause_rules.proofs.NeedSorts.{Fits, Found, AllFit, NeedsFit, alone_fits, covers_fit, all_sorted_fit, goal_fits}
use Rattle.rule_steps.proofs.ResolvedAt.{parents_fit}
use Rattle.rule_steps.proofs.Settling.{settled_by, settles_like}
use Rattle.clause_rules.proofs.ListPlaces.{get_lifted, get_of_map}

-- the needs are met exactly where the instances are factored
module _ (images : List Term) (line lits : List Lit) (i j : ℕ) (f g : Bool) (s u t w : Term) (apart : i ≢ j) (at : slice_get lits i ≡ Some (equation f s t)) (over : slice_get lits j ≡ Some (equation g u w)) where
  abbrev I : Term → Term
  I = image (image_at images)

  abbrev L : Lit → Lit
  L = lit_image (image_at images)

  first_at : slice_get (map L lits) i ≡ Some (equation f (I s) (I t))
  first_at = get_image (image_at images) lits i (equation f s t) at ∙ ap Some (equation_image I f s t)

  second_at : slice_get (map L lits) j ≡ Some (equation g (I u) (I w))
  second_at = get_image (image_at images) lits j (equation g u w) over ∙ ap Some (equation_image I g u w)

  pub factored_forth : MeetsNeeds images (factor_needs line lits i s u t w) → IsFactored (map L line) (map L lits) i f j g
  factored_forth h =
      let same : I s ≡ I u = elim h.0 [
        | inl p ↦ pair_forth images s u p.0
        | inr none ↦ absurd none
      ] in
      record {
        side = I s;
        first = I t;
        second = I w;
        apart = apart;
        first_there = first_at;
        second_there = second_at ∙ ap (λ x. Some (equation g x (I w))) (sym same);
        covered = subst (AreCovered (map L line)) (map_set L lits i (unequal t w)) (covers_forth images line (slice_set lits i (unequal t w)) h.1);
      }

  pub factored_back : IsFactored (map L line) (map L lits) i f j g → MeetsNeeds images (factor_needs line lits i s u t w)
  factored_back h =
      let first = same_sides f h.side h.first (I s) (I t) (one_at (map L lits) i (equation f h.side h.first) (equation f (I s) (I t)) h.first_there first_at) in
      let second = same_sides g h.side h.second (I u) (I w) (one_at (map L lits) j (equation g h.side h.second) (equation g (I u) (I w)) h.second_there second_at) in
      let changed : slice_set (map L lits) i (unequal h.first h.second) ≡ map L (slice_set lits i (unequal t w)) =
      ap (λ x. slice_set (map L lits) i (unequal x h.second)) first.1 ∙ ap (λ x. slice_set (map L lits) i (unequal (I t) x)) second.1 ∙ sym (map_set L lits i (unequal t w)) in
      (inl (pair_back images s u (sym first.0 ∙ second.0), tt), covers_back images line (slice_set lits i (unequal t w)) (subst (AreCovered (map L line)) changed h.covered))

pub set_fits : (v : Vocabulary) (scope : List ℕ) (lits : List Lit) (i : ℕ) (k : Lit) → Fits v scope k.atom → AllFit v scope lits → AllFit v scope (slice_set lits i k)
set_fits v scope [] i k h all = tt
set_fits v scope (l ∷ lits) zero k h all = (h, all.1)
set_fits v scope (l ∷ lits) (suc i) k h all = (all.0, set_fits v scope lits i k h all.1)

pub equation_fits : (v : Vocabulary) (scope : List ℕ) (f : Bool) (l r : Term) → Fits v scope (equation f l r).atom → Found v scope l × Found v scope r
equation_fits v scope false l r h = h
equation_fits v scope true l r h = (h.1, h.0)

pub no_lits : (v : Vocabulary) (scope : List ℕ) → AreSorted v scope []
no_lits v scope = record { fits = All-nil (λ (l : Lit). is_sorted_atom v scope l.atom ≡ true) }

module _ (v : Vocabulary) (c line : Clause) (c_fit : IsFit v c) (line_fit : IsFit v line) (joint : Joint) (joined : IsJoinedOne line c joint) where
  abbrev sorts : List ℕ
  sorts = scope_of line ++ scope_of c

  pub few_in_one : length joint.scope.sorts ≤ 2 ^ 32
  few_in_one =
      let one = length-append (scope_of line) (scope_of c) in
      let a = length-reverse line.sorts in
      let b = length-reverse c.sorts in
      let e = line_fit.few in
      let f = c_fit.few in
      rw joined.sorts (omega arith)

  lits_over : AllFit v sorts joint.left
  lits_over = all_sorted_fit v sorts joint.left (subst (AreSorted v sorts) (sym joined.lits) (parents_fit v line (scope_of c) c.lits c_fit.sorted))

  line_over : AllFit v sorts line.lits
  line_over = all_sorted_fit v sorts line.lits (sorted_further v (scope_of line) (scope_of c) line.lits line_fit.sorted)

  module _ (i j : ℕ) (f g : Bool) (s u t w : Term) (apart : i ≢ j) (at : slice_get joint.left i ≡ Some (equation f s t)) (over : slice_get joint.left j ≡ Some (equation g u w)) (goal : Goal) (asks : goal ≡ goal_of_needs (factor_needs line.lits joint.left i s u t w)) where
    abbrev needs : List (List (List Pair))
    needs = factor_needs line.lits joint.left i s u t w

    needs_fit : NeedsFit v sorts needs
    needs_fit =
        let first = equation_fits v sorts f s t (member_of (λ (l : Lit). Fits v sorts l.atom) joint.left i (equation f s t) lits_over at) in
        let second = equation_fits v sorts g u w (member_of (λ (l : Lit). Fits v sorts l.atom) joint.left j (equation g u w) lits_over over) in
        rw (alone_fits v sorts s u first.0 second.0, covers_fit v sorts line.lits (slice_set joint.left i (unequal t w)) line_over (set_fits v sorts joint.left i (unequal t w) (first.1, second.1) lits_over)) refl

    pub factor_sorted : goal_sorted v joint.scope.sorts goal ≡ true
    factor_sorted = rw (joined.sorts, asks) (goal_fits v sorts needs needs_fit)

    abbrev Q : List Lit → List Lit → List Lit → Type 0
    Q ls ks ms = IsFactored ls ks i f j g

    pub factor_settled : (found : Option (List Term)) → IsSolution v joint.scope goal found → Settles v line (scope_of c) (Factors v c line i f j g) found
    factor_settled found solution =
        settles_like v line (scope_of c) (λ more x. IsImages v (scope_of c) (scope_of line ++ more) x × Q line.lits (instances x c.lits) []) (Factors v c line i f j g) (λ more x h. record { images = h.0; factored = h.1 }) (λ more x h. (h.images, h.factored)) found
        (settled_by v line (scope_of c) line_fit.sorted c.lits [] c_fit.sorted (no_lits v (scope_of c)) Q joint.scope joined.sorts joined.rigid goal needs asks
        (λ images h. subst (λ ks. IsFactored (map (lit_image (image_at images)) line.lits) (map (lit_image (image_at images)) ks) i f j g) joined.lits (factored_forth images line.lits joint.left i j f g s u t w apart at over h))
        (λ images h. factored_back images line.lits joint.left i j f g s u t w apart at over (subst (λ ks. IsFactored (map (lit_image (image_at images)) line.lits) (map (lit_image (image_at images)) ks) i f j g) (sym joined.lits) h))
        found solution)

  -- an instance that is an equation is one of an equation
  read_at : (i : ℕ) (f : Bool) (x : ℕ → Term) (a b : Term) (k : Lit) → slice_get (instances x c.lits) i ≡ Some (equation f a b) → slice_get joint.left i ≡ Some k → (l r : Term) × (k ≡ equation f l r)
  read_at i f x a b k e at =
      let found = get_of_map (lit_image x) c.lits i (equation f a b) e in
      let parts = equation_parts (image x) found.0 f a b found.2 in
      let lift = lifted_term (length line.sorts) 0 in
      let there : slice_get joint.left i ≡ Some (lit_apart (length line.sorts) found.0) = ap (λ ks. slice_get ks i) joined.lits ∙ get_lifted (lit_apart (length line.sorts)) c.lits i found.0 found.1 in
      (lift parts.0, lift parts.1, one_at joint.left i k (lit_apart (length line.sorts) found.0) at there ∙ ap (lit_apart (length line.sorts)) parts.2 ∙ equation_image lift f parts.0 parts.1)

  pub no_first : (i j : ℕ) (f g : Bool) (k : Lit) → slice_get joint.left i ≡ Some k → ((l r : Term) → k ≡ equation f l r → ⊥) → (more : List ℕ) (x : ℕ → Term) → Factors v c line i f j g more x → ⊥
  no_first i j f g k at none more x h = let parts = read_at i f x h.factored.side h.factored.first k h.factored.first_there at in none parts.0 parts.1 parts.2

  pub no_second : (i j : ℕ) (f g : Bool) (k : Lit) → slice_get joint.left j ≡ Some k → ((l r : Term) → k ≡ equation g l r → ⊥) → (more : List ℕ) (x : ℕ → Term) → Factors v c line i f j g more x → ⊥
  no_second i j f g k at none more x h = let parts = read_at j g x h.factored.side h.factored.second k h.factored.second_there at in none parts.0 parts.1 parts.2

pub lent_at : {X : Type 0} (xs lent : List X) (i : ℕ) (x : X) → lent ≡ xs → i < length xs → x ≡ get_or lent i x → slice_get xs i ≡ Some x
lent_at xs lent i x same h is = there_at xs i x h (is ∙ ap (λ ys. get_or ys i x) same)

-- a list with one element changed, as code makes it
pub set_as : {X : Type 0} (lent made copied xs : List X) (i : ℕ) (x y : X) → lent ≡ made → made ≡ slice_set copied i x → copied ≡ xs → x ≡ y → lent ≡ slice_set xs i y
set_as lent made copied xs i x y a b c d = a ∙ b ∙ ap (λ zs. slice_set zs i x) c ∙ ap (slice_set xs i) d

pub not_itself : (v : Vocabulary) (c line : Clause) (i j : ℕ) (f g : Bool) → i ≡ j → (more : List ℕ) (x : ℕ → Term) → Factors v c line i f j g more x → ⊥
not_itself v c line i j f g e more x h = h.factored.apart e

module _ (v : Vocabulary) (c line : Clause) (c_fit : IsFit v c) (line_fit : IsFit v line) (joint : Joint) (joined : IsJoinedOne line c joint) (i j : ℕ) (f g : Bool) (more : List ℕ) (x : ℕ → Term) (h : Factors v c line i f j g more x) where
  within : (i : ℕ) (k : Lit) → slice_get (instances x c.lits) i ≡ Some k → i < length joint.left
  within i k e =
      let found = get_of_map (lit_image x) c.lits i k e in
      slice_get_within joint.left i (lit_apart (length line.sorts) found.0) (ap (λ ks. slice_get ks i) joined.lits ∙ get_lifted (lit_apart (length line.sorts)) c.lits i found.0 found.1)

  pub first_within : i < length joint.left
  first_within = within i (equation f h.factored.side h.factored.first) h.factored.first_there

  pub second_within : j < length joint.left
  second_within = within j (equation g h.factored.side h.factored.second) h.factored.second_there

-- both ways to read
pub either_way : (P : Bool → Type 0) → P false → P true → (b : Bool) → P b
either_way P no_ yes_ false = no_
either_way P no_ yes_ true = yes_

pub none_found : (v : Vocabulary) (c line : Clause) (P : Type 0) (found : Option Factor) → found ≡ None → FoundFactor v c line P found → P
none_found v c line P None e h = h
none_found v c line P (Some factor) e h = absurd (let f = e in cc)

pub none_settled : (v : Vocabulary) (line : Clause) (scope : List ℕ) (P : List ℕ → (ℕ → Term) → Type 0) (found : Option (List Term)) → found ≡ None → Settles v line scope P found → (more : List ℕ) (x : ℕ → Term) → P more x → ⊥
none_settled v line scope P None e h = h
none_settled v line scope P (Some images) e h = λ more x p. cc
