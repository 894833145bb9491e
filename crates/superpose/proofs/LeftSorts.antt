-- What an inference leaves is well-sorted.
use Rattle.std.specs.Prelude.{ℕ, Bool, true, false, List, [], ◌∷◌, ◌++◌, ◌≡◌, remove, take, drop, Option, Some, None, slice_get, slice_set, length, refl}
use Rattle.std.proofs.Common.{ap, sym, subst, ◌∙◌, inl, inr, suc}
use Rattle.std.proofs.lemmas.List.Elements.{All-append, All-take, All-drop, All-set, All-cons, All-nil}
use Rattle.std.proofs.lemmas.List.{length-reverse}
use Rattle.std.proofs.lemmas.Option.{slice_get_within, get_or_from_slice_get}
use Rattle.std.proofs.lemmas.Bool.{eqb-true, eq-eqb}
use Rattle.fof_terms.specs.declared.term.Term.{Term, App}
use Rattle.fof_terms.specs.Vocabulary.{Vocabulary}
use Rattle.fof_terms.specs.Sorts.{one_sort, sort_of_term}
use Rattle.clause_form.specs.declared.clause.Lit.{Lit}
use Rattle.clause_form.specs.declared.clause.Clause.{Clause}
use Rattle.clause_form.specs.Images.{image, IsImages}
use Rattle.clause_form.proofs.ImagesFacts.{image_sorted}
use Rattle.clause_form.specs.Covers.{is_sorted_atom, scope_of, AreSorted}
use Rattle.clause_rules.specs.Places.{lit_term_at, lit_put_at}
use Rattle.clause_rules.specs.Steps.{scope_of_both, apart_from, equation, unequal}
use Rattle.clause_rules.proofs.JointImages.{sorted_further, sorted_apart}
use Rattle.clause_rules.proofs.PlaceSorts.{replaced_fits, term_found}
use Rattle.superpose.specs.Drafts.{Draft}
use Rattle.superpose.specs.Inferences.{ResolvesAt, SuperposesAt, FactorsAt, ResolvesEquationAt, FactorsEquationsAt, IsDraftOfOne, IsDraftOfTwo}

pub one_sort_both : (l r : Option ℕ) → one_sort l r ≡ true → (q : ℕ) × (l ≡ Some q) × (r ≡ Some q)
one_sort_both l None e = cc
one_sort_both None (Some y) e = cc
one_sort_both (Some x) (Some y) e = (x, refl, ap Some (sym (eqb-true x y e)))

pub same_sort : (l r : Option ℕ) (q : ℕ) → l ≡ Some q → r ≡ Some q → one_sort l r ≡ true
same_sort l r q a b = rw (a, b) (eq-eqb q q refl)

-- the literals of two clauses over their one scope
pub sorted_first : (v : Vocabulary) (c d : Clause) → AreSorted v (scope_of c) c.lits → AreSorted v (scope_of_both c d) c.lits
sorted_first v c d h = sorted_further v (scope_of c) (scope_of d) c.lits h

pub sorted_second : (v : Vocabulary) (c d : Clause) → AreSorted v (scope_of d) d.lits → AreSorted v (scope_of_both c d) (apart_from c d.lits)
sorted_second v c d h = sorted_apart v (scope_of c) (scope_of d) (length c.sorts) d.lits (sym (length-reverse c.sorts)) h

module _ (v : Vocabulary) (scope : List ℕ) where
  abbrev Fits : Lit → Type 0
  Fits l = is_sorted_atom v scope l.atom ≡ true

  pub sorted_rest : (lits : List Lit) (i : ℕ) → AreSorted v scope lits → AreSorted v scope (remove lits i)
  sorted_rest lits i h = record { fits = All-append Fits (take i lits) (drop (suc i) lits) (All-take Fits i lits h.fits) (All-drop Fits (suc i) lits h.fits) }

  pub sorted_both : (xs ys : List Lit) → AreSorted v scope xs → AreSorted v scope ys → AreSorted v scope (xs ++ ys)
  sorted_both xs ys h g = record { fits = All-append Fits xs ys h.fits g.fits }

  pub sorted_at : (lits : List Lit) (i : ℕ) (l : Lit) → AreSorted v scope lits → slice_get lits i ≡ Some l → is_sorted_atom v scope l.atom ≡ true
  sorted_at lits i l h e = subst Fits (get_or_from_slice_get lits i l l e) (h.fits i l (slice_get_within lits i l e))

  pub set_sorted : (lits : List Lit) (i : ℕ) (k : Lit) → AreSorted v scope lits → is_sorted_atom v scope k.atom ≡ true → AreSorted v scope (slice_set lits i k)
  set_sorted lits i k h e = record { fits = All-set Fits lits i k e h.fits }

  -- both sides of an equation have one sort
  pub equation_sorts : (lits : List Lit) (i : ℕ) (flipped : Bool) (l r : Term) → AreSorted v scope lits → slice_get lits i ≡ Some (equation flipped l r)
      → (q : ℕ) × (sort_of_term v scope l ≡ Some q) × (sort_of_term v scope r ≡ Some q)
  equation_sorts lits i false l r h e = one_sort_both (sort_of_term v scope l) (sort_of_term v scope r) (sorted_at lits i (equation false l r) h e)
  equation_sorts lits i true l r h e =
      let both = one_sort_both (sort_of_term v scope r) (sort_of_term v scope l) (sorted_at lits i (equation true l r) h e) in
      (both.0, both.2, both.1)

  pub unequal_sorts : (lits : List Lit) (i : ℕ) (l r : Term) → AreSorted v scope lits → slice_get lits i ≡ Some (unequal l r)
      → (q : ℕ) × (sort_of_term v scope l ≡ Some q) × (sort_of_term v scope r ≡ Some q)
  unequal_sorts lits i l r h e = one_sort_both (sort_of_term v scope l) (sort_of_term v scope r) (sorted_at lits i (unequal l r) h e)

  -- terms with equal well-sorted instances have the same sort
  pub unified_sorts : (to : List ℕ) (s : ℕ → Term) → IsImages v scope to s → (a b : Term) (p q : ℕ) → image s a ≡ image s b → sort_of_term v scope a ≡ Some p → sort_of_term v scope b ≡ Some q → p ≡ q
  unified_sorts to s h a b p q e ha hb =
      let left : sort_of_term v to (image s a) ≡ Some p = image_sorted v scope to s h a p ha in
      let right : sort_of_term v to (image s b) ≡ Some q = image_sorted v scope to s h b q hb in
      let same : Some p ≡ Some q = sym left ∙ ap (sort_of_term v to) e ∙ right in
      cc

  pub denied_sorted : (t w : Term) (q : ℕ) → sort_of_term v scope t ≡ Some q → sort_of_term v scope w ≡ Some q → AreSorted v scope (unequal t w ∷ [])
  denied_sorted t w q ht hw = record { fits = All-cons Fits (unequal t w) [] (same_sort (sort_of_term v scope t) (sort_of_term v scope w) q ht hw) (All-nil Fits) }

  -- what a change of one place leaves, where the terms have equal well-sorted instances
  pub put_sorted : (into from : List Lit) (i j : ℕ) (flipped : Bool) (place : List ℕ) (l r u : Term) (target : Lit) → AreSorted v scope into → AreSorted v scope from
      → slice_get from i ≡ Some (equation flipped l r) → slice_get into j ≡ Some target → lit_term_at place target ≡ Some u
      → (to : List ℕ) (s : ℕ → Term) → IsImages v scope to s → image s l ≡ image s u → (p : ℕ) → sort_of_term v scope u ≡ Some p
      → AreSorted v scope (remove from i ++ slice_set into j (lit_put_at place r target))
  put_sorted into from i j flipped place l r u target hi hf here there stands to s images equal p sort =
      let sides = equation_sorts from i flipped l r hf here in
      let same = unified_sorts to s images l u sides.0 p equal sides.1 sort in
      let kept : sort_of_term v scope r ≡ sort_of_term v scope u = sides.2 ∙ ap Some same ∙ sym sort in
      let changed = replaced_fits v scope u r kept target place stands (sorted_at into j target hi there) in
      sorted_both (remove from i) (slice_set into j (lit_put_at place r target)) (sorted_rest from i hf) (set_sorted into j (lit_put_at place r target) hi changed)

-- what an inference leaves is well-sorted, where some well-sorted substitution makes its two terms equal
module _ (v : Vocabulary) (c d : Clause) (f : Draft) (h : AreSorted v (scope_of c) c.lits) (g : AreSorted v (scope_of d) d.lits) where
  pub resolved_left : (i j : ℕ) → ResolvesAt c d i j f → AreSorted v (scope_of_both c d) f.left
  resolved_left i j r =
      subst (AreSorted v (scope_of_both c d)) (sym r.left)
      (sorted_both v (scope_of_both c d) (remove c.lits i) (remove (apart_from c d.lits) j)
      (sorted_rest v (scope_of_both c d) c.lits i (sorted_first v c d h))
      (sorted_rest v (scope_of_both c d) (apart_from c d.lits) j (sorted_second v c d g)))

  pub superposed_left : (i : ℕ) (flipped : Bool) (j : ℕ) (place : List ℕ) → SuperposesAt c d i flipped j place f
      → (to : List ℕ) (s : ℕ → Term) → IsImages v (scope_of_both c d) to s → image s f.one ≡ image s f.other → AreSorted v (scope_of_both c d) f.left
  superposed_left i flipped j place p to s images unified =
      let into = sorted_second v c d g in
      let equal : image s p.l ≡ image s (App p.g p.args) = sym (ap (image s) p.one) ∙ unified ∙ ap (image s) p.other in
      let found = term_found v (scope_of_both c d) p.target place (App p.g p.args) p.stands (sorted_at v (scope_of_both c d) (apart_from c d.lits) j p.target into p.there) in
      subst (AreSorted v (scope_of_both c d)) (sym p.left)
      (put_sorted v (scope_of_both c d) (apart_from c d.lits) c.lits i j flipped place p.l p.r (App p.g p.args) p.target into (sorted_first v c d h) p.here p.there p.stands to s images equal found.0 found.1)

  pub left_of_two : IsDraftOfTwo c d f → (to : List ℕ) (s : ℕ → Term) → IsImages v (scope_of_both c d) to s → image s f.one ≡ image s f.other → AreSorted v (scope_of_both c d) f.left
  left_of_two (inl p) to s images unified = resolved_left p.i p.j p.at
  left_of_two (inr p) to s images unified = superposed_left p.i p.flipped p.j p.place p.at to s images unified

module _ (v : Vocabulary) (c : Clause) (f : Draft) (h : AreSorted v (scope_of c) c.lits) where
  pub factored_left : (i j : ℕ) → FactorsAt c i j f → AreSorted v (scope_of c) f.left
  factored_left i j p = subst (AreSorted v (scope_of c)) (sym p.left) (sorted_rest v (scope_of c) c.lits j h)

  pub equation_left : (i : ℕ) → ResolvesEquationAt c i f → AreSorted v (scope_of c) f.left
  equation_left i p = subst (AreSorted v (scope_of c)) (sym p.left) (sorted_rest v (scope_of c) c.lits i h)

  pub equations_left : (i : ℕ) (first_flipped : Bool) (j : ℕ) (second_flipped : Bool) → FactorsEquationsAt c i first_flipped j second_flipped f
      → (to : List ℕ) (s : ℕ → Term) → IsImages v (scope_of c) to s → image s f.one ≡ image s f.other → AreSorted v (scope_of c) f.left
  equations_left i first_flipped j second_flipped p to s images unified =
      let first = equation_sorts v (scope_of c) c.lits i first_flipped p.s p.t h p.here in
      let second = equation_sorts v (scope_of c) c.lits j second_flipped p.u p.w h p.there in
      let equal : image s p.s ≡ image s p.u = sym (ap (image s) p.one) ∙ unified ∙ ap (image s) p.other in
      let same = unified_sorts v (scope_of c) to s images p.s p.u first.0 second.0 equal first.1 second.1 in
      subst (AreSorted v (scope_of c)) (sym p.left)
      (sorted_both v (scope_of c) (remove c.lits i) (unequal p.t p.w ∷ []) (sorted_rest v (scope_of c) c.lits i h) (denied_sorted v (scope_of c) p.t p.w second.0 (first.2 ∙ ap Some same) second.2))

  pub left_of_one : IsDraftOfOne c f → (to : List ℕ) (s : ℕ → Term) → IsImages v (scope_of c) to s → image s f.one ≡ image s f.other → AreSorted v (scope_of c) f.left
  left_of_one (inl p) to s images unified = factored_left p.i p.j p.at
  left_of_one (inr (inl p)) to s images unified = equation_left p.i p.at
  left_of_one (inr (inr p)) to s images unified = equations_left p.i p.first_flipped p.j p.second_flipped p.at to s images unified
