-- Steps between literals each of whose terms is changed in the same way.
use Rattle.std.specs.Prelude.{ℕ, ◌≡◌, Bool, List, [], ◌∷◌, ◌++◌, map, remove, Some, slice_set, refl}
use Rattle.std.proofs.Common.{ap, subst, ◌∙◌, zero, suc, inl, inr}
use Rattle.std.proofs.lemmas.List.{map-append}
use Rattle.fof_terms.specs.declared.term.Term.{Term}
use Rattle.fof_terms.specs.Vocabulary.{Vocabulary}
use Rattle.clause_form.specs.declared.clause.AtomOf.{AtomOf}
use Rattle.clause_form.specs.declared.clause.AtomOf.TheVariants.{Pred, Eq, True, False}
use Rattle.clause_form.specs.declared.clause.Lit.{Lit}
use Rattle.clause_form.specs.declared.clause.Clause.{Clause}
use Rattle.clause_form.specs.Covers.{at_terms, in_lit, turned_atom, negated, lit_image, scope_of, IsSame, Denies, IsCovered, CoversBy}
use Rattle.clause_form.specs.Images.{IsImages}
use Rattle.clause_rules.specs.Places.{lit_term_at, lit_put_at}
use Rattle.clause_rules.specs.Steps.{AreCovered, apart_from, equation, instances, scope_of_both, unequal}
use Rattle.clause_rules.specs.ResolutionRule.{IsResolvent, ResolvesTo}
use Rattle.clause_rules.specs.ParamodulationRule.{HasPlace, IsParamodulant, Paramodulates}
use Rattle.clause_rules.specs.EqFactorRule.{Factors, IsFactored}
use Rattle.clause_rules.proofs.Equations.{equation_image, map_set}
use Rattle.clause_rules.proofs.ListPlaces.{get_lifted, get_of_map}

map_remove : {X Y : Type 0} (f : X → Y) (xs : List X) (i : ℕ) → map f (remove xs i) ≡ remove (map f xs) i
map_remove f [] zero = refl
map_remove f [] (suc i) = refl
map_remove f (x ∷ xs) zero = refl
map_remove f (x ∷ xs) (suc i) = ap (λ zs. f x ∷ zs) (map_remove f xs i)

module _ (f : Term → Term) where
  abbrev pub changed_lits : List Lit → List Lit
  changed_lits lits = map (in_lit f) lits

  turned_under : (a : AtomOf) → turned_atom (at_terms f a) ≡ at_terms f (turned_atom a)
  turned_under (Pred p ts) = refl
  turned_under (Eq l r) = refl
  turned_under True = refl
  turned_under False = refl

  same_under : (k l : Lit) → IsSame k l → IsSame (in_lit f k) (in_lit f l)
  same_under k l (inl e) = inl (ap (in_lit f) e)
  same_under k l (inr e) = inr (ap (λ (a : AtomOf). record { positive = k.positive; atom = a }) (turned_under k.atom) ∙ ap (in_lit f) e)

  denies_under : (a : AtomOf) (positive : Bool) → Denies a positive → Denies (at_terms f a) positive
  denies_under (Pred p ts) positive h = absurd h
  denies_under (Eq l r) positive h = (h.0, ap f h.1)
  denies_under True positive h = h
  denies_under False positive h = h

  covered_under : (line : List Lit) (k : Lit) → IsCovered line k → IsCovered (changed_lits line) (in_lit f k)
  covered_under line k (inl h) = inl (h.0, in_lit f h.1, get_lifted (in_lit f) line h.0 h.1 h.2, same_under k h.1 h.3)
  covered_under line k (inr h) = inr (denies_under k.atom k.positive h)

  pub all_covered_under : (line lits : List Lit) → AreCovered line lits → AreCovered (changed_lits line) (changed_lits lits)
  all_covered_under line lits h i k e =
      let from = get_of_map (in_lit f) lits i k e in
      subst (IsCovered (changed_lits line)) from.2 (covered_under line from.0 (h i from.0 from.1))

  with_one : (line : List Lit) (k : Lit) (lits : List Lit) → AreCovered (line ++ k ∷ []) lits → AreCovered (changed_lits line ++ in_lit f k ∷ []) (changed_lits lits)
  with_one line k lits h = subst (λ (ls : List Lit). AreCovered ls (changed_lits lits)) (map-append (in_lit f) line (k ∷ [])) (all_covered_under (line ++ k ∷ []) lits h)

  resolvent_under : (line left right : List Lit) (i j : ℕ) → IsResolvent line left right i j → IsResolvent (changed_lits line) (changed_lits left) (changed_lits right) i j
  resolvent_under line left right i j r = record {
    pivot = in_lit f r.pivot;
    opposite = in_lit f r.opposite;
    in_left = get_lifted (in_lit f) left i r.pivot r.in_left;
    in_right = get_lifted (in_lit f) right j r.opposite r.in_right;
    complementary = same_under (negated r.pivot) r.opposite r.complementary;
    left_covered = with_one line r.pivot left r.left_covered;
    right_covered = with_one line r.opposite right r.right_covered;
  }

  factored_under : (line lits : List Lit) (i : ℕ) (first_flipped : Bool) (j : ℕ) (second_flipped : Bool) → IsFactored line lits i first_flipped j second_flipped
      → IsFactored (changed_lits line) (changed_lits lits) i first_flipped j second_flipped
  factored_under line lits i first_flipped j second_flipped r = record {
    side = f r.side;
    first = f r.first;
    second = f r.second;
    apart = r.apart;
    first_there = get_lifted (in_lit f) lits i (equation first_flipped r.side r.first) r.first_there ∙ ap Some (equation_image f first_flipped r.side r.first);
    second_there = get_lifted (in_lit f) lits j (equation second_flipped r.side r.second) r.second_there ∙ ap Some (equation_image f second_flipped r.side r.second);
    covered = subst (AreCovered (changed_lits line)) (map_set (in_lit f) lits i (unequal r.first r.second)) (all_covered_under line (slice_set lits i (unequal r.first r.second)) r.covered);
  }

  module _ (line into from : List Lit) (i : ℕ) (place : List ℕ) (j : ℕ) (flipped : Bool) (p : IsParamodulant line into from i place j flipped) where
    -- the change respects the place
    pub record Respects : Type 0 where
      pub stands : lit_term_at place (in_lit f p.changed) ≡ Some (f p.left)
      pub put : in_lit f (lit_put_at place p.right p.changed) ≡ lit_put_at place (f p.right) (in_lit f p.changed)

    rewritten_lits : Respects → changed_lits (slice_set into i (lit_put_at place p.right p.changed) ++ remove from j) ≡ slice_set (changed_lits into) i (lit_put_at place (f p.right) (in_lit f p.changed)) ++ remove (changed_lits from) j
    rewritten_lits h =
        let new : Lit = lit_put_at place p.right p.changed in
        map-append (in_lit f) (slice_set into i new) (remove from j)
        ∙ ap (λ (ls : List Lit). ls ++ changed_lits (remove from j)) (map_set (in_lit f) into i new ∙ ap (slice_set (changed_lits into) i) h.put)
        ∙ ap (λ (ls : List Lit). slice_set (changed_lits into) i (lit_put_at place (f p.right) (in_lit f p.changed)) ++ ls) (map_remove (in_lit f) from j)

    pub paramodulant_under : Respects → IsParamodulant (changed_lits line) (changed_lits into) (changed_lits from) i place j flipped
    paramodulant_under h = record {
      changed = in_lit f p.changed;
      left = f p.left;
      right = f p.right;
      in_into = get_lifted (in_lit f) into i p.changed p.in_into;
      in_from = get_lifted (in_lit f) from j (equation flipped p.left p.right) p.in_from ∙ ap Some (equation_image f flipped p.left p.right);
      stands = h.stands;
      covered = subst (AreCovered (changed_lits line)) (rewritten_lits h) (all_covered_under line (slice_set into i (lit_put_at place p.right p.changed) ++ remove from j) p.covered);
    }

-- The instances of the new clauses are the instances of the old ones, changed, and so is the line.
pub record AreChanged (w : Vocabulary) (f : Term → Term) (scope : List ℕ) (lits lits' line : List Lit) (line' : Clause) (more' : List ℕ) (s s' : ℕ → Term) : Type 0 where
  pub images : IsImages w scope (scope_of line' ++ more') s'
  pub same : instances s' lits' ≡ changed_lits f (instances s lits)
  pub same_line : line'.lits ≡ changed_lits f line

module _ (v w : Vocabulary) (f : Term → Term) (c d e c' d' e' : Clause) (more more' : List ℕ) (s s' : ℕ → Term) where
  -- of two clauses
  pub record BothAreChanged : Type 0 where
    pub first : AreChanged w f (scope_of_both c' d') c.lits c'.lits e.lits e' more' s s'
    pub second : instances s' (apart_from c' d'.lits) ≡ changed_lits f (instances s (apart_from c d.lits))

  pub resolves_under : (i j : ℕ) → ResolvesTo v c d e i j more s → BothAreChanged → ResolvesTo w c' d' e' i j more' s'
  resolves_under i j r h =
      let changed : IsResolvent (changed_lits f e.lits) (changed_lits f (instances s c.lits)) (changed_lits f (instances s (apart_from c d.lits))) i j =
      resolvent_under f e.lits (instances s c.lits) (instances s (apart_from c d.lits)) i j r.resolvent in
      record { images = h.first.images; resolvent = rw (h.first.same_line, h.first.same, h.second) changed }

  pub paramodulates_under : (i : ℕ) (place : List ℕ) (j : ℕ) (flipped : Bool) (p : Paramodulates v c d e i place j flipped more s) → BothAreChanged → HasPlace c'.lits i place
      → Respects f e.lits (instances s c.lits) (instances s (apart_from c d.lits)) i place j flipped p.paramodulant → Paramodulates w c' d' e' i place j flipped more' s'
  paramodulates_under i place j flipped p h there respects =
      let changed : IsParamodulant (changed_lits f e.lits) (changed_lits f (instances s c.lits)) (changed_lits f (instances s (apart_from c d.lits))) i place j flipped =
      paramodulant_under f e.lits (instances s c.lits) (instances s (apart_from c d.lits)) i place j flipped p.paramodulant respects in
      record { images = h.first.images; place_of = there; paramodulant = rw (h.first.same_line, h.first.same, h.second) changed }

module _ (v w : Vocabulary) (f : Term → Term) (c e c' e' : Clause) (more more' : List ℕ) (s s' : ℕ → Term) (h : AreChanged w f (scope_of c') c.lits c'.lits e.lits e' more' s s') where
  pub factors_under : (i : ℕ) (first_flipped : Bool) (j : ℕ) (second_flipped : Bool) → Factors v c e i first_flipped j second_flipped more s → Factors w c' e' i first_flipped j second_flipped more' s'
  factors_under i first_flipped j second_flipped r =
      let changed : IsFactored (changed_lits f e.lits) (changed_lits f (instances s c.lits)) i first_flipped j second_flipped =
      factored_under f e.lits (instances s c.lits) i first_flipped j second_flipped r.factored in
      record { images = h.images; factored = rw (h.same_line, h.same) changed }

  pub covers_under : CoversBy v (scope_of c) c.lits e more s → CoversBy w (scope_of c') c'.lits e' more' s'
  covers_under r =
      let old : AreCovered e.lits (instances s c.lits) = λ i k at. let from = get_of_map (lit_image s) c.lits i k at in subst (IsCovered e.lits) from.2 (r.covered i from.0 from.1) in
      let changed : AreCovered e'.lits (instances s' c'.lits) = rw (h.same_line, h.same) (all_covered_under f e.lits (instances s c.lits) old) in
      record { images = h.images; covered = λ i k at. changed i (lit_image s' k) (get_lifted (lit_image s') c'.lits i k at) }
