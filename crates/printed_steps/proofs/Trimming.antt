-- What follows from clauses follows without the sorts of variables that do not occur in them.
use Rattle.std.specs.Prelude.{ℕ, ◌≡◌, ◌+◌, ◌-◌, ◌<◌, nat_lt, Bool, true, false, if◌then◌else◌, List, [], ◌∷◌, ◌++◌, length, map, get_or, Some, slice_get, refl}
use Rattle.std.specs.List.{list_any}
use Rattle.std.proofs.Common.{ap, sym, ◌∙◌, arith, eq-eqb, inl, inr}
use Rattle.std.proofs.lemmas.Bool.{lt-ltb, le-ltb}
use Rattle.std.proofs.lemmas.List.{length-reverse}
use Rattle.std.proofs.lemmas.Option.{get_or_from_slice_get, slice_get_within}
use Rattle.fof_terms.specs.declared.term.Term.{Term, Var, App}
use Rattle.fof_terms.specs.Sorts.{sort_of_term}
use Rattle.fof_terms.specs.Variables.{has_in_term}
use Rattle.fof_terms.specs.Vocabulary.{Vocabulary}
use Rattle.fof_terms.proofs.Induction.{term_induction}
use Rattle.fof_terms.proofs.LiftingLaws.{below_or_above}
use Rattle.fof_terms.proofs.SortsFacts.{sort_of_term-Var}
use Rattle.fof_terms.proofs.VariablesFacts.{has_in_term-Var, has_in_term-App}
use Rattle.clause_form.specs.declared.clause.AtomOf.{AtomOf}
use Rattle.clause_form.specs.declared.clause.AtomOf.TheVariants.{Pred, Eq, True, False}
use Rattle.clause_form.specs.declared.clause.Lit.{Lit}
use Rattle.clause_form.specs.declared.clause.Clause.{Clause}
use Rattle.clause_form.specs.Covers.{in_lit, lit_image, scope_of, Covers}
use Rattle.clause_form.specs.Images.{image, IsImages}
use Rattle.clause_form.proofs.ImagesFacts.{image-Var, image-App, image_image, image_sorted}
use Rattle.clause_rules.specs.Places.{args_of_atom}
use Rattle.clause_rules.specs.Steps.{apart_from, instances, scope_of_both}
use Rattle.clause_rules.specs.ParamodulationRule.{HasPlace, Paramodulates}
use Rattle.clause_rules.proofs.ListPlaces.{before, get_lifted}
use Rattle.clause_rules.proofs.LitImages.{applying, imaging, images_apart, instance_is, lits_twice}
use Rattle.clause_rules.proofs.PlaceLaws.{lit_at_walk, lit_put_walk}
use Rattle.unify_terms.specs.Substitution.{image_at, instance}
use Rattle.printed_clauses.specs.Trimmed.{has_in_atom, occurs_in, count_below, new_variables, kept_sorts, trimmed}
use Rattle.printed_steps.specs.Carried.{HasItsVariables}
use Rattle.printed_steps.specs.Follows.{IsByEqFactor, IsByParamodulation, IsByResolution}
use Rattle.printed_steps.proofs.Kept.{kept_variables, number_there, sort_back, sort_kept, sorts_counted, variable_back, variables_counted}
use Rattle.printed_steps.proofs.ListEnds.{place_after, place_within}
use Rattle.printed_steps.proofs.Terms.{agree_where, each_good, lits_same, IsGood, AreGoodLits}
use Rattle.printed_steps.proofs.Through.{AreChanged, BothAreChanged, Respects, covers_under, factors_under, paramodulates_under, resolves_under}

-- substitutions that agree on the variables of a term
image_same : (Allowed : ℕ → Type 0) (f g : ℕ → Term) → ((k : ℕ) → Allowed k → f k ≡ g k) → (t : Term) → IsGood has_in_term Allowed t → image f t ≡ image g t
image_same Allowed f g e = term_induction (λ t. IsGood has_in_term Allowed t → image f t ≡ image g t) (record {
  var = λ k h. image-Var f k ∙ e k (h k (has_in_term-Var k k ∙ eq-eqb k k refl)) ∙ sym (image-Var g k);
  app = λ s ts all h.
      image-App f s ts ∙ ap (App s) (agree_where (IsGood has_in_term Allowed) (image f) (image g) ts all (each_good has_in_term Allowed ts (λ k at. h k (has_in_term-App k s ts ∙ at)))) ∙ sym (image-App g s ts);
})

-- the variables of an atom are those of its arguments
atom_has : (k : ℕ) (a : AtomOf) → has_in_atom k a ≡ list_any (has_in_term k) (args_of_atom a)
atom_has k (Pred p ts) = refl
atom_has k (Eq l r) = refl
atom_has k True = refl
atom_has k False = refl

occurs_is : (k : ℕ) (lits : List Lit) → occurs_in lits k ≡ list_any (λ (l : Lit). list_any (has_in_term k) (args_of_atom l.atom)) lits
occurs_is k [] = refl
occurs_is k (l ∷ lits) = rw (atom_has k l.atom, occurs_is k lits) refl

-- the variables that occur
abbrev Occurs : Clause → ℕ → Type 0
Occurs c k = occurs_in c.lits k ≡ true

pub all_occur : (c : Clause) → AreGoodLits has_in_term (Occurs c) c.lits
all_occur c k e = occurs_is k c.lits ∙ e

-- the new numbers, as images
abbrev pub numbers : Clause → List Term
numbers c = new_variables (occurs_in c.lits) (length c.sorts)

pub number_at : (c : Clause) → HasItsVariables c → (k : ℕ) → Occurs c k → image_at (numbers c) k ≡ Var (count_below (occurs_in c.lits) k)
number_at c own k is = get_or_from_slice_get (numbers c) k (Var (count_below (occurs_in c.lits) k)) (Var k) (number_there (occurs_in c.lits) (length c.sorts) k (own k is))

-- of two substitutions the one for the first variables, and then the other
abbrev beside : ℕ → (ℕ → Term) → (ℕ → Term) → ℕ → Term
beside n f g k = if nat_lt k n then f k else g (k - n)

beside_below : (n : ℕ) (f g : ℕ → Term) (k : ℕ) → k < n → beside n f g k ≡ f k
beside_below n f g k h = ap (λ (b : Bool). if b then f k else g (k - n)) (lt-ltb k n h)

beside_above : (n : ℕ) (f g : ℕ → Term) (k : ℕ) → beside n f g (k + n) ≡ g k
beside_above n f g k =
    let back : (k + n) - n ≡ k = omega arith in
    ap (λ (b : Bool). if b then f (k + n) else g ((k + n) - n)) (le-ltb (k + n) n (omega arith)) ∙ ap g back

module _ (v : Vocabulary) (a b to : List ℕ) where
  images_first : (s : ℕ → Term) → IsImages v (a ++ b) to s → IsImages v a to s
  images_first s h = record { sorted = λ k r e. h.sorted k r (before a b k r e) }

  images_second : (s : ℕ → Term) (n : ℕ) → length a ≡ n → IsImages v (a ++ b) to s → IsImages v b to (λ k. s (k + n))
  images_second s n size h = record { sorted = λ k r e. h.sorted (k + n) r (ap (λ m. slice_get (a ++ b) (k + m)) (sym size) ∙ place_after a b k ∙ e) }

  images_both : (n : ℕ) (f g : ℕ → Term) → length a ≡ n → IsImages v a to f → IsImages v b to g → IsImages v (a ++ b) to (beside n f g)
  images_both n f g size hf hg = record {
    sorted = λ k r e. elim (below_or_above k n) [
      | inl h ↦ ap (sort_of_term v to) (beside_below n f g k h) ∙ hf.sorted k r (place_within a b k r (omega arith) e)
      | inr h ↦
          let back : (k - n) + n ≡ k = omega arith in
          let there : slice_get b (k - n) ≡ Some r = sym (ap (λ m. slice_get (a ++ b) ((k - n) + m)) (sym size) ∙ place_after a b (k - n)) ∙ ap (slice_get (a ++ b)) back ∙ e in
          ap (λ j. sort_of_term v to (beside n f g j)) (sym back) ∙ ap (sort_of_term v to) (beside_above n f g (k - n)) ∙ hg.sorted (k - n) r there
    ];
  }

-- The terms of the line: a variable that does not occur there, or is none of the line's own, moves past the new ones.
module _ (v : Vocabulary) (e : Clause) (more : List ℕ) (own : HasItsVariables e) where
  abbrev left : ℕ
  left = length (kept_sorts (occurs_in e.lits) e.sorts)

  abbrev pub line_variable : ℕ → Term
  line_variable k = if occurs_in e.lits k then Var (count_below (occurs_in e.lits) k) else Var (k + left)

  abbrev pub change : Term → Term
  change = image line_variable

  abbrev wide : List ℕ
  wide = scope_of (trimmed e) ++ (scope_of e ++ more)

  line_number : (k : ℕ) → Occurs e k → line_variable k ≡ Var (count_below (occurs_in e.lits) k)
  line_number k is = ap (λ (b : Bool). if b then Var (count_below (occurs_in e.lits) k) else Var (k + left)) is

  line_sort : (b : Bool) (k r : ℕ) → occurs_in e.lits k ≡ b → slice_get (scope_of e ++ more) k ≡ Some r → sort_of_term v wide (line_variable k) ≡ Some r
  line_sort true k r is at =
      let number : ℕ = count_below (occurs_in e.lits) k in
      let inside : k < length e.sorts = own k is in
      let size : length (scope_of e) ≡ length e.sorts = length-reverse e.sorts in
      ap (sort_of_term v wide) (line_number k is) ∙ sort_of_term-Var v wide number
      ∙ before (scope_of (trimmed e)) (scope_of e ++ more) number r (sort_kept (occurs_in e.lits) e.sorts k r is (place_within (scope_of e) more k r (omega arith) at))
  line_sort false k r is at =
      ap (λ (b : Bool). sort_of_term v wide (if b then Var (count_below (occurs_in e.lits) k) else Var (k + left))) is ∙ sort_of_term-Var v wide (k + left)
      ∙ ap (λ n. slice_get wide (k + n)) (sym (length-reverse (kept_sorts (occurs_in e.lits) e.sorts))) ∙ place_after (scope_of (trimmed e)) (scope_of e ++ more) k ∙ at

  pub line_images : IsImages v (scope_of e ++ more) wide line_variable
  line_images = record { sorted = λ k r at. line_sort (occurs_in e.lits k) k r refl at }

  pub line_trimmed : (trimmed e).lits ≡ map (in_lit change) e.lits
  line_trimmed =
      lits_same has_in_term (Occurs e) (instance (numbers e)) change
      (λ t h. instance_is (numbers e) t ∙ image_same (Occurs e) (image_at (numbers e)) line_variable (λ k is. number_at e own k is ∙ sym (line_number k is)) t h)
      e.lits (all_occur e)

  -- the images of a clause's variables
  module _ (c : Clause) (its : HasItsVariables c) (s : ℕ → Term) where
    abbrev occurs : ℕ → Bool
    occurs = occurs_in c.lits

    abbrev old_variable : ℕ → ℕ
    old_variable m = get_or (kept_variables occurs (length c.sorts)) m 0

    abbrev trimmed_images : ℕ → Term
    trimmed_images m = change (s (old_variable m))

    was : (m k : ℕ) → slice_get (kept_variables occurs (length c.sorts)) m ≡ Some k → trimmed_images m ≡ change (s k)
    was m k e = ap (λ j. change (s j)) (get_or_from_slice_get (kept_variables occurs (length c.sorts)) m k 0 e)

    images_trimmed : IsImages v (scope_of c) (scope_of e ++ more) s → IsImages v (scope_of (trimmed c)) wide trimmed_images
    images_trimmed h = record {
      sorted = λ m r at.
          let from = sort_back occurs c.sorts m r at in
          ap (sort_of_term v wide) (was m from.0 from.1) ∙ image_sorted v (scope_of e ++ more) wide line_variable line_images (s from.0) r (h.sorted from.0 r from.2);
    }

    module _ (t : ℕ → Term) (agrees : (m : ℕ) → m < length (kept_sorts occurs c.sorts) → t m ≡ trimmed_images m) where
      variable_image : (k : ℕ) → Occurs c k → change (s k) ≡ image t (image_at (numbers c) k)
      variable_image k is =
          let number : ℕ = count_below occurs k in
          let back = variable_back occurs (length c.sorts) k (its k is) is in
          let inside : number < length (kept_variables occurs (length c.sorts)) = slice_get_within (kept_variables occurs (length c.sorts)) number k back in
          let counted = variables_counted occurs (length c.sorts) in
          let sorts = sorts_counted occurs c.sorts in
          let turned = length-reverse (kept_sorts occurs c.sorts) in
          let few : number < length (kept_sorts occurs c.sorts) = omega arith in
          sym (ap (image t) (number_at c its k is) ∙ image-Var t number ∙ agrees number few ∙ was number k back)

      term_image : (u : Term) → IsGood has_in_term (Occurs c) u → change (image s u) ≡ image t (instance (numbers c) u)
      term_image u h =
          image_image line_variable s u
          ∙ image_same (Occurs c) (λ k. change (s k)) (λ k. image t (image_at (numbers c) k)) variable_image u h
          ∙ sym (ap (image t) (instance_is (numbers c) u) ∙ image_image t (image_at (numbers c)) u)

      instances_trimmed : map (lit_image t) (trimmed c).lits ≡ map (in_lit change) (map (lit_image s) c.lits)
      instances_trimmed =
          lits_twice (image t) (instance (numbers c)) (λ u. image t (instance (numbers c) u)) (λ u. refl) c.lits
          ∙ sym (lits_same has_in_term (Occurs c) (λ u. change (image s u)) (λ u. image t (instance (numbers c) u)) term_image c.lits (all_occur c))
          ∙ sym (lits_twice change (image s) (λ u. change (image s u)) (λ u. refl) c.lits)

  one_trimmed : (c : Clause) (its : HasItsVariables c) (s : ℕ → Term) → IsImages v (scope_of c) (scope_of e ++ more) s
      → AreChanged v change (scope_of (trimmed c)) c.lits (trimmed c).lits e.lits (trimmed e) (scope_of e ++ more) s (trimmed_images c its s)
  one_trimmed c its s images = record {
    images = images_trimmed c its s images;
    same = instances_trimmed c its s (trimmed_images c its s) (λ m h. refl);
    same_line = line_trimmed;
  }

  module _ (c d : Clause) (first : HasItsVariables c) (second : HasItsVariables d) (s : ℕ → Term) where
    abbrev size : ℕ
    size = length (kept_sorts (occurs_in c.lits) c.sorts)

    abbrev of_second : ℕ → Term
    of_second k = s (k + length c.sorts)

    abbrev both_images : ℕ → Term
    both_images = beside size (trimmed_images c first s) (trimmed_images d second of_second)

    both_trimmed : IsImages v (scope_of_both c d) (scope_of e ++ more) s
        → BothAreChanged v v change c d e (trimmed c) (trimmed d) (trimmed e) more (scope_of e ++ more) s both_images
    both_trimmed images = record {
      first = record {
        images = images_both v (scope_of (trimmed c)) (scope_of (trimmed d)) wide size (trimmed_images c first s) (trimmed_images d second of_second) (length-reverse (kept_sorts (occurs_in c.lits) c.sorts))
            (images_trimmed c first s (images_first v (scope_of c) (scope_of d) (scope_of e ++ more) s images))
            (images_trimmed d second of_second (images_second v (scope_of c) (scope_of d) (scope_of e ++ more) s (length c.sorts) (length-reverse c.sorts) images));
        same = instances_trimmed c first s both_images (λ m h. beside_below size (trimmed_images c first s) (trimmed_images d second of_second) m h);
        same_line = line_trimmed;
      };
      second =
          images_apart both_images size (trimmed d).lits
          ∙ instances_trimmed d second of_second (λ k. both_images (k + size)) (λ m h. beside_above size (trimmed_images c first s) (trimmed_images d second of_second) m)
          ∙ ap (map (in_lit change)) (sym (images_apart s (length c.sorts) d.lits));
    }

    respects : (i : ℕ) (place : List ℕ) (j : ℕ) (flipped : Bool) (p : Paramodulates v c d e i place j flipped more s)
        → Respects change e.lits (instances s c.lits) (instances s (apart_from c d.lits)) i place j flipped p.paramodulant
    respects i place j flipped p =
        let q = p.paramodulant in
        record {
          stands = lit_at_walk change (imaging line_variable) place q.changed q.left q.stands;
          put = lit_put_walk change (imaging line_variable) place q.changed q.left q.right q.stands;
        }

place_trimmed : (c : Clause) (i : ℕ) (place : List ℕ) → HasPlace c.lits i place → HasPlace (trimmed c).lits i place
place_trimmed c i place p = record {
  lit = in_lit (instance (numbers c)) p.lit;
  term = instance (numbers c) p.term;
  there = get_lifted (in_lit (instance (numbers c))) c.lits i p.lit p.there;
  stands = lit_at_walk (instance (numbers c)) (applying (image_at (numbers c))) place p.lit p.term p.stands;
}

module _ (v : Vocabulary) (c d e : Clause) (hc : HasItsVariables c) (hd : HasItsVariables d) (he : HasItsVariables e) where
  pub resolution_trimmed : IsByResolution v c d e → IsByResolution v (trimmed c) (trimmed d) (trimmed e)
  resolution_trimmed by = (
    by.0,
    by.1,
    scope_of e ++ by.2,
    both_images v e by.2 he c d hc hd by.3,
    resolves_under v v (change v e by.2 he) c d e (trimmed c) (trimmed d) (trimmed e) by.2 (scope_of e ++ by.2) by.3 (both_images v e by.2 he c d hc hd by.3) by.0 by.1 by.4
        (both_trimmed v e by.2 he c d hc hd by.3 by.4.images),
  )

  pub paramodulation_trimmed : IsByParamodulation v c d e → IsByParamodulation v (trimmed c) (trimmed d) (trimmed e)
  paramodulation_trimmed by = (
    by.0,
    by.1,
    by.2,
    by.3,
    scope_of e ++ by.4,
    both_images v e by.4 he c d hc hd by.5,
    paramodulates_under v v (change v e by.4 he) c d e (trimmed c) (trimmed d) (trimmed e) by.4 (scope_of e ++ by.4) by.5 (both_images v e by.4 he c d hc hd by.5) by.0 by.1 by.2 by.3 by.6
        (both_trimmed v e by.4 he c d hc hd by.5 by.6.images) (place_trimmed c by.0 by.1 by.6.place_of) (respects v e by.4 he c d hc hd by.5 by.0 by.1 by.2 by.3 by.6),
  )

module _ (v : Vocabulary) (c e : Clause) (hc : HasItsVariables c) (he : HasItsVariables e) where
  pub eqfactor_trimmed : IsByEqFactor v c e → IsByEqFactor v (trimmed c) (trimmed e)
  eqfactor_trimmed by = (
    by.0,
    by.1,
    by.2,
    by.3,
    scope_of e ++ by.4,
    trimmed_images v e by.4 he c hc by.5,
    factors_under v v (change v e by.4 he) c e (trimmed c) (trimmed e) by.4 (scope_of e ++ by.4) by.5 (trimmed_images v e by.4 he c hc by.5) (one_trimmed v e by.4 he c hc by.5 by.6.images) by.0 by.1 by.2 by.3 by.6,
  )

  pub cover_trimmed : Covers v c e → Covers v (trimmed c) (trimmed e)
  cover_trimmed by = (
    scope_of e ++ by.0,
    trimmed_images v e by.0 he c hc by.1,
    covers_under v v (change v e by.0 he) c e (trimmed c) (trimmed e) by.0 (scope_of e ++ by.0) by.1 (trimmed_images v e by.0 he c hc by.1) (one_trimmed v e by.0 he c hc by.1 by.2.images) by.2,
  )
