-- The goals of a search over well-sorted literals are well-sorted.
use Rattle.std.specs.Prelude.{ℕ, ◌≡◌, ◌==◌, ◌&&◌, if◌then◌else◌, Bool, true, false, List, [], ◌∷◌, ◌++◌, length, map, flat_map, Some, slice_get, refl}
use Rattle.std.specs.List.{list_all, AllByRecursion}
use Rattle.std.proofs.Common.{ap, ◌∙◌}
use Rattle.std.proofs.lemmas.List.Folds.{list_all-append}
use Rattle.std.proofs.lemmas.List.Elements.{recursion_from_All}
use Rattle.std.proofs.lemmas.List.Concat.{flat_map-cons}
use Rattle.fof_terms.specs.Vocabulary.{Vocabulary}
use Rattle.fof_terms.specs.declared.term.Term.{Term}
use Rattle.fof_terms.proofs.LiftingLaws.{holds_found, one_found}
use Rattle.fof_terms.specs.Sorts.{sort_of_term}
use Rattle.clause_form.specs.declared.clause.AtomOf.{AtomOf}
use Rattle.clause_form.specs.declared.clause.AtomOf.TheVariants.{Pred, Eq, True, False}
use Rattle.clause_form.specs.declared.clause.Lit.{Lit}
use Rattle.clause_form.specs.Covers.{is_sorted_atom, AreSorted}
use Rattle.unify_terms.specs.declared.pair.Pair.{Pair}
use Rattle.unify_terms.specs.declared.goal.Goal.{Same}
use Rattle.unify_terms.specs.Goals.{pair_sorted, goal_sorted}
use Rattle.unify_terms.proofs.GoalsFacts.{goal_sorted-All, goal_sorted-Any, goal_sorted-Same}
use Rattle.clause_rules.specs.Ways.{pair_of, zip_pairs, atom_ways, signed_ways, lit_ways, absurd_ways, cover_ways, cover_needs, goal_of_need, goal_of_needs}

module _ (v : Vocabulary) (scope : List ℕ) where
  abbrev pub Found : Term → Type 0
  Found t = (s : ℕ) × (sort_of_term v scope t ≡ Some s)

  abbrev WayFits : List Pair → Bool
  WayFits = list_all (pair_sorted v scope)

  -- all pairs of all ways are well-sorted
  abbrev pub NeedFits : List (List Pair) → Type 0
  NeedFits need = list_all (list_all (pair_sorted v scope)) need ≡ true

  abbrev pub NeedsFit : List (List (List Pair)) → Type 0
  NeedsFit needs = list_all (list_all (list_all (pair_sorted v scope))) needs ≡ true

  pub pair_fits : (s t : Term) → Found s → Found t → pair_sorted v scope (pair_of s t) ≡ true
  pair_fits s t h g = rw (h.1, g.1) refl

  pub alone_fits : (s t : Term) → Found s → Found t → NeedFits ((pair_of s t ∷ []) ∷ [])
  alone_fits s t h g = rw (pair_fits s t h g) refl

  two_fit : (s t r u : Term) → Found s → Found t → Found r → Found u → list_all (pair_sorted v scope) (pair_of s t ∷ pair_of r u ∷ []) ≡ true
  two_fit s t r u h g k m = rw (pair_fits s t h g, pair_fits r u k m) refl

  zip_fits : (ts us : List Term) → AllByRecursion Found ts → AllByRecursion Found us → list_all (pair_sorted v scope) (zip_pairs ts us) ≡ true
  zip_fits [] us h g = refl
  zip_fits (t ∷ ts) [] h g = refl
  zip_fits (t ∷ ts) (u ∷ us) h g = rw (pair_fits t u h.0 g.0, zip_fits ts us h.1 g.1) refl

  pred_fits : (b : Bool) (ts us : List Term) → AllByRecursion Found ts → AllByRecursion Found us → NeedFits (if b then zip_pairs ts us ∷ [] else [])
  pred_fits true ts us h g = rw (zip_fits ts us h g) refl
  pred_fits false ts us h g = refl

  -- each term of the atom has a sort
  abbrev pub Fits : AtomOf → Type 0
  Fits (Pred p ts) = AllByRecursion Found ts
  Fits (Eq l r) = Found l × Found r
  Fits True = Unit {0}
  Fits False = Unit {0}

  pub sorted_fits : (a : AtomOf) → is_sorted_atom v scope a ≡ true → Fits a
  sorted_fits (Pred p ts) h = holds_found (sort_of_term v scope) ts (slice_get v.symbols p) h
  sorted_fits (Eq l r) h = one_found (sort_of_term v scope l) (sort_of_term v scope r) h
  sorted_fits True h = tt
  sorted_fits False h = tt

  eq_fits : (l r c d : Term) → Fits (Eq l r) → Fits (Eq c d) → NeedFits (atom_ways (Eq l r) (Eq c d))
  eq_fits l r c d h g =
      rw (two_fit l c r d h.0 g.0 h.1 g.1, two_fit r c l d h.1 g.0 h.0 g.1) refl

  atoms_fit : (a b : AtomOf) → Fits a → Fits b → NeedFits (atom_ways a b)
  atoms_fit (Pred p ts) (Pred q us) h g = pred_fits ((p == q) && (length ts == length us)) ts us h g
  atoms_fit (Pred p ts) (Eq c d) h g = refl
  atoms_fit (Pred p ts) True h g = refl
  atoms_fit (Pred p ts) False h g = refl
  atoms_fit (Eq l r) (Pred q us) h g = refl
  atoms_fit (Eq l r) (Eq c d) h g = eq_fits l r c d h g
  atoms_fit (Eq l r) True h g = refl
  atoms_fit (Eq l r) False h g = refl
  atoms_fit True (Pred q us) h g = refl
  atoms_fit True (Eq c d) h g = refl
  atoms_fit True True h g = refl
  atoms_fit True False h g = refl
  atoms_fit False (Pred q us) h g = refl
  atoms_fit False (Eq c d) h g = refl
  atoms_fit False True h g = refl
  atoms_fit False False h g = refl

  signed_fits : (g h : Bool) (ways : List (List Pair)) → NeedFits ways → NeedFits (signed_ways g h ways)
  signed_fits true true ways f = f
  signed_fits false false ways f = f
  signed_fits true false ways f = refl
  signed_fits false true ways f = refl

  pub lit_fits : (g : Bool) (a : AtomOf) (l : Lit) → Fits a → Fits l.atom → NeedFits (lit_ways g a l)
  lit_fits g a l h f = signed_fits g l.positive (atom_ways a l.atom) (atoms_fit a l.atom h f)

  absurd_fits : (a : AtomOf) (g : Bool) → Fits a → NeedFits (absurd_ways a g)
  absurd_fits (Pred p ts) g h = refl
  absurd_fits (Eq s t) true h = refl
  absurd_fits (Eq s t) false h = alone_fits s t h.0 h.1
  absurd_fits True true h = refl
  absurd_fits True false h = refl
  absurd_fits False true h = refl
  absurd_fits False false h = refl

  abbrev pub AllFit : List Lit → Type 0
  AllFit lits = AllByRecursion (λ (l : Lit). Fits l.atom) lits

  targets_fit : (g : Bool) (a : AtomOf) (targets : List Lit) → Fits a → AllFit targets → NeedFits (flat_map (lit_ways g a) targets)
  targets_fit g a [] h all = refl
  targets_fit g a (l ∷ targets) h all =
      ap (list_all (list_all (pair_sorted v scope))) (flat_map-cons (lit_ways g a) l targets) ∙ list_all-append (list_all (pair_sorted v scope)) (lit_ways g a l) (flat_map (lit_ways g a) targets) ∙ (rw (lit_fits g a l h all.0, targets_fit g a targets h all.1) refl)

  pub cover_fits : (targets : List Lit) (k : Lit) → AllFit targets → Fits k.atom → NeedFits (cover_ways targets k)
  cover_fits targets k all h =
      list_all-append (list_all (pair_sorted v scope)) (flat_map (lit_ways k.positive k.atom) targets) (absurd_ways k.atom k.positive) ∙ (rw (targets_fit k.positive k.atom targets h all, absurd_fits k.atom k.positive h) refl)

  pub covers_fit : (targets lits : List Lit) → AllFit targets → AllFit lits → NeedsFit (cover_needs targets lits)
  covers_fit targets [] all h = refl
  covers_fit targets (k ∷ lits) all h = rw (cover_fits targets k all h.0, covers_fit targets lits all h.1) refl

  all_each : (lits : List Lit) → AllByRecursion (λ (l : Lit). is_sorted_atom v scope l.atom ≡ true) lits → AllFit lits
  all_each [] h = tt
  all_each (l ∷ lits) h = (sorted_fits l.atom h.0, all_each lits h.1)

  pub all_sorted_fit : (lits : List Lit) → AreSorted v scope lits → AllFit lits
  all_sorted_fit lits h = all_each lits (recursion_from_All (λ (l : Lit). is_sorted_atom v scope l.atom ≡ true) lits h.fits)

  pub all_cover_fits : (targets lits : List Lit) → AreSorted v scope targets → AreSorted v scope lits → NeedsFit (cover_needs targets lits)
  all_cover_fits targets lits all h = covers_fit targets lits (all_sorted_fit targets all) (all_sorted_fit lits h)

  pub more_fit : (first second : List (List (List Pair))) → NeedsFit first → NeedsFit second → NeedsFit (first ++ second)
  more_fit first second h g = list_all-append (list_all (list_all (pair_sorted v scope))) first second ∙ (rw (h, g) refl)

  pub ways_sorted : (need : List (List Pair)) → list_all (goal_sorted v scope) (map Same need) ≡ list_all (list_all (pair_sorted v scope)) need
  ways_sorted [] = refl
  ways_sorted (way ∷ need) = rw (goal_sorted-Same v scope way, ways_sorted need) refl

  pub needs_sorted : (needs : List (List (List Pair))) → list_all (goal_sorted v scope) (map goal_of_need needs) ≡ list_all (list_all (list_all (pair_sorted v scope))) needs
  needs_sorted [] = refl
  needs_sorted (need ∷ needs) = rw (goal_sorted-Any v scope (map Same need), ways_sorted need, needs_sorted needs) refl

  pub goal_fits : (needs : List (List (List Pair))) → NeedsFit needs → goal_sorted v scope (goal_of_needs needs) ≡ true
  goal_fits needs h = goal_sorted-All v scope (map goal_of_need needs) ∙ needs_sorted needs ∙ h
