-- What follows from clauses follows over another vocabulary.
use Rattle.std.specs.Prelude.{ℕ, ◌≡◌, ◌+◌, ◌||◌, Bool, true, List, [], ◌∷◌, ◌++◌, length, map, Some, slice_get, refl}
use Rattle.std.specs.List.{AllByRecursion}
use Rattle.std.proofs.Common.{ap, sym, subst, ◌∙◌, append_assoc, inl, inr}
use Rattle.fof_terms.specs.declared.term.Term.{Term}
use Rattle.fof_terms.specs.Occurs.{occurs_in_term}
use Rattle.fof_terms.specs.Vocabulary.{Vocabulary}
use Rattle.fof_terms.proofs.Walks.{staying_term}
use Rattle.clause_form.specs.declared.clause.AtomOf.{AtomOf}
use Rattle.clause_form.specs.declared.clause.Lit.{Lit}
use Rattle.clause_form.specs.declared.clause.Clause.{Clause}
use Rattle.clause_form.specs.Covers.{in_lit, lit_image, lit_apart, scope_of, Covers}
use Rattle.clause_form.specs.Images.{image, IsImages}
use Rattle.clause_form.proofs.ClauseLaws.{atom_itself}
use Rattle.clause_rules.specs.Places.{args_of_atom}
use Rattle.clause_rules.specs.Steps.{apart_from, instances, scope_of_both}
use Rattle.clause_rules.specs.ParamodulationRule.{HasPlace, Paramodulates}
use Rattle.clause_rules.proofs.ListPlaces.{get_lifted}
use Rattle.clause_rules.proofs.LitImages.{imaging, images_apart}
use Rattle.printed_clauses.specs.Renumbered.{renumbered, renumbered_clause}
use Rattle.printed_clauses.proofs.RenumberedFacts.{renumbered-App}
use Rattle.printed_steps.specs.Carried.{AreCarried, IsCarried, has_function}
use Rattle.printed_steps.specs.Follows.{IsByEqFactor, IsByParamodulation, IsByResolution}
use Rattle.printed_steps.proofs.Along.{AreAlong, lit_along, lit_at_along, lit_put_along}
use Rattle.printed_steps.proofs.Carrying.{carry, carried_are_images, carried_images, instances_carried, line_carried, opened, results, IsKept, AreKept}
use Rattle.printed_steps.proofs.Terms.{either, each_good, good_lit_at, or_true}
use Rattle.printed_steps.proofs.Through.{AreChanged, BothAreChanged, Respects, covers_under, factors_under, paramodulates_under, resolves_under}

-- the functions of two clauses
abbrev of_two : Clause → Clause → ℕ → Bool
of_two c e f = has_function c.lits f || has_function e.lits f

abbrev of_three : Clause → Clause → Clause → ℕ → Bool
of_three c d e f = has_function c.lits f || of_two d e f

module _ (v w : Vocabulary) (number : ℕ → ℕ) where
  two_carried : (c e : Clause) → AreCarried v w number c → AreCarried v w number e → (f : ℕ) → of_two c e f ≡ true → IsCarried v w f (number f)
  two_carried c e hc he f is = elim (either (has_function c.lits f) (has_function e.lits f) is) [
    | inl h ↦ hc f h
    | inr h ↦ he f h
  ]

  three_carried : (c d e : Clause) → AreCarried v w number c → AreCarried v w number d → AreCarried v w number e → (f : ℕ) → of_three c d e f ≡ true → IsCarried v w f (number f)
  three_carried c d e hc hd he f is = elim (either (has_function c.lits f) (of_two d e f) is) [
    | inl h ↦ hc f h
    | inr h ↦ two_carried d e hd he f h
  ]

  -- a substitution whose images are carried
  module _ (kept : ℕ → Bool) (carried : (f : ℕ) → kept f ≡ true → IsCarried v w f (number f)) (e : Clause) (more : List ℕ) (s : ℕ → Term) where
    abbrev base : ℕ
    base = length (scope_of e ++ more)

    abbrev pub change : Term → Term
    change = carry number kept base

    abbrev pub new_images : ℕ → Term
    new_images = carried_images number kept base s

    abbrev pub new_more : List ℕ
    new_more = more ++ results v

    pub clause_changed : (scope : List ℕ) (lits : List Lit) → AreKept number kept base lits → AreKept number kept base e.lits → IsImages v scope (scope_of e ++ more) s
        → AreChanged w change scope lits (map (in_lit (renumbered number)) lits) e.lits (renumbered_clause number e) new_more s new_images
    clause_changed scope lits h he images = record {
      images = subst (λ (to : List ℕ). IsImages w scope to new_images) (append_assoc (scope_of e) more (results v))
          (carried_are_images number kept base v w carried (scope_of e ++ more) refl scope s images);
      same = instances_carried number kept base s lits h;
      same_line = line_carried number kept base e.lits he;
    }

    pub apart_changed : (n : ℕ) (lits : List Lit) → AreKept number kept base lits
        → instances new_images (map (lit_apart n) (map (in_lit (renumbered number)) lits)) ≡ map (in_lit change) (instances s (map (lit_apart n) lits))
    apart_changed n lits h =
        images_apart new_images n (map (in_lit (renumbered number)) lits)
        ∙ instances_carried number kept base (λ k. s (k + n)) lits h
        ∙ ap (map (in_lit change)) (sym (images_apart s n lits))

  -- a place of a literal is one of the literal with other numbers
  place_renumbered : (lits : List Lit) (i : ℕ) (place : List ℕ) → HasPlace lits i place → HasPlace (map (in_lit (renumbered number)) lits) i place
  place_renumbered lits i place p =
      let along : AreAlong number (renumbered number) place (args_of_atom (in_lit (λ t. t) p.lit).atom) =
      lit_along number (renumbered number) (λ t. t) staying_term (λ t. Unit {0}) (λ g ts h. (λ us. renumbered-App number g us, all_of ts)) place p.lit p.term (all_of (args_of_atom p.lit.atom)) p.stands in
      record {
        lit = in_lit (renumbered number) p.lit;
        term = renumbered number p.term;
        there = get_lifted (in_lit (renumbered number)) lits i p.lit p.there;
        stands = lit_at_along number (renumbered number) place p.lit p.term (subst (λ (a : AtomOf). AreAlong number (renumbered number) place (args_of_atom a)) (atom_itself (λ t. t) (λ t. refl) p.lit.atom) along) p.stands;
      }
    where
      all_of : (ts : List Term) → AllByRecursion (λ t. Unit {0}) ts
      all_of [] = tt
      all_of (t ∷ ts) = (tt, all_of ts)

  -- from two clauses
  module _ (c d e : Clause) (hc : AreCarried v w number c) (hd : AreCarried v w number d) (he : AreCarried v w number e) where
    abbrev all_kept : ℕ → Bool
    all_kept = of_three c d e

    all_carried : (f : ℕ) → all_kept f ≡ true → IsCarried v w f (number f)
    all_carried = three_carried c d e hc hd he

    kept_first : (n : ℕ) → AreKept number all_kept n c.lits
    kept_first n f h = ap (λ (b : Bool). b || of_two d e f) h

    kept_second : (n : ℕ) → AreKept number all_kept n d.lits
    kept_second n f h = ap (λ (b : Bool). has_function c.lits f || (b || has_function e.lits f)) h ∙ or_true (has_function c.lits f)

    kept_line : (n : ℕ) → AreKept number all_kept n e.lits
    kept_line n f h = ap (λ (b : Bool). has_function c.lits f || (has_function d.lits f || b)) h ∙ ap (λ (b : Bool). has_function c.lits f || b) (or_true (has_function d.lits f)) ∙ or_true (has_function c.lits f)

    module _ (more : List ℕ) (s : ℕ → Term) where
      abbrev carrying : Term → Term
      carrying = change all_kept all_carried e more s

      abbrev further : List ℕ
      further = new_more all_kept all_carried e more s

      abbrev moved : ℕ → Term
      moved = new_images all_kept all_carried e more s

      abbrev start : ℕ
      start = length (scope_of e ++ more)

      both_changed : IsImages v (scope_of_both c d) (scope_of e ++ more) s
          → BothAreChanged v w carrying c d e (renumbered_clause number c) (renumbered_clause number d) (renumbered_clause number e) more further s moved
      both_changed images = record {
        first = clause_changed all_kept all_carried e more s (scope_of_both c d) c.lits (kept_first start) (kept_line start) images;
        second = apart_changed all_kept all_carried e more s (length c.sorts) d.lits (kept_second start);
      }

      -- the change respects a place of a literal
      respects : (i : ℕ) (place : List ℕ) (j : ℕ) (flipped : Bool) (p : Paramodulates v c d e i place j flipped more s)
          → Respects carrying e.lits (instances s c.lits) (instances s (apart_from c d.lits)) i place j flipped p.paramodulant
      respects i place j flipped p =
          let q = p.paramodulant in
          let at = p.place_of in
          let found : slice_get (instances s c.lits) i ≡ Some (lit_image s at.lit) = get_lifted (lit_image s) c.lits i at.lit at.there in
          let both : Some (lit_image s at.lit) ≡ Some q.changed = sym found ∙ q.in_into in
          let same : lit_image s at.lit ≡ q.changed = cc in
          let good = each_good occurs_in_term (λ f. all_kept f ≡ true) (args_of_atom at.lit.atom) (good_lit_at occurs_in_term (λ f. all_kept f ≡ true) c.lits i at.lit (kept_first start) at.there) in
          let along : AreAlong number carrying place (args_of_atom (lit_image s at.lit).atom) =
          lit_along number carrying (image s) (imaging s) (IsKept number all_kept start) (opened number all_kept start) place at.lit at.term good at.stands in
          let there : AreAlong number carrying place (args_of_atom q.changed.atom) = subst (λ (k : Lit). AreAlong number carrying place (args_of_atom k.atom)) same along in
          record {
            stands = lit_at_along number carrying place q.changed q.left there q.stands;
            put = lit_put_along number carrying place q.changed q.right there;
          }

    pub resolution_renumbered : IsByResolution v c d e → IsByResolution w (renumbered_clause number c) (renumbered_clause number d) (renumbered_clause number e)
    resolution_renumbered by = (
      by.0,
      by.1,
      further by.2 by.3,
      moved by.2 by.3,
      resolves_under v w (carrying by.2 by.3) c d e (renumbered_clause number c) (renumbered_clause number d) (renumbered_clause number e) by.2 (further by.2 by.3) by.3 (moved by.2 by.3) by.0 by.1 by.4
          (both_changed by.2 by.3 by.4.images),
    )

    pub paramodulation_renumbered : IsByParamodulation v c d e → IsByParamodulation w (renumbered_clause number c) (renumbered_clause number d) (renumbered_clause number e)
    paramodulation_renumbered by = (
      by.0,
      by.1,
      by.2,
      by.3,
      further by.4 by.5,
      moved by.4 by.5,
      paramodulates_under v w (carrying by.4 by.5) c d e (renumbered_clause number c) (renumbered_clause number d) (renumbered_clause number e) by.4 (further by.4 by.5) by.5 (moved by.4 by.5) by.0 by.1 by.2 by.3 by.6
          (both_changed by.4 by.5 by.6.images) (place_renumbered c.lits by.0 by.1 by.6.place_of) (respects by.4 by.5 by.0 by.1 by.2 by.3 by.6),
    )

  -- from one clause
  module _ (c e : Clause) (hc : AreCarried v w number c) (he : AreCarried v w number e) where
    abbrev some_kept : ℕ → Bool
    some_kept = of_two c e

    some_carried : (f : ℕ) → some_kept f ≡ true → IsCarried v w f (number f)
    some_carried = two_carried c e hc he

    one_changed : (more : List ℕ) (s : ℕ → Term) → IsImages v (scope_of c) (scope_of e ++ more) s
        → AreChanged w (change some_kept some_carried e more s) (scope_of c) c.lits (map (in_lit (renumbered number)) c.lits) e.lits (renumbered_clause number e) (new_more some_kept some_carried e more s) s
        (new_images some_kept some_carried e more s)
    one_changed more s images =
        clause_changed some_kept some_carried e more s (scope_of c) c.lits
        (λ f h. ap (λ (b : Bool). b || has_function e.lits f) h)
        (λ f h. ap (λ (b : Bool). has_function c.lits f || b) h ∙ or_true (has_function c.lits f))
        images

    pub eqfactor_renumbered : IsByEqFactor v c e → IsByEqFactor w (renumbered_clause number c) (renumbered_clause number e)
    eqfactor_renumbered by =
        let more = by.4 in
        let s = by.5 in (
          by.0,
          by.1,
          by.2,
          by.3,
          new_more some_kept some_carried e more s,
          new_images some_kept some_carried e more s,
          factors_under v w (change some_kept some_carried e more s) c e (renumbered_clause number c) (renumbered_clause number e) more (new_more some_kept some_carried e more s) s (new_images some_kept some_carried e more s)
              (one_changed more s by.6.images) by.0 by.1 by.2 by.3 by.6,
        )

    pub cover_renumbered : Covers v c e → Covers w (renumbered_clause number c) (renumbered_clause number e)
    cover_renumbered by =
        let more = by.0 in
        let s = by.1 in (
          new_more some_kept some_carried e more s,
          new_images some_kept some_carried e more s,
          covers_under v w (change some_kept some_carried e more s) c e (renumbered_clause number c) (renumbered_clause number e) more (new_more some_kept some_carried e more s) s (new_images some_kept some_carried e more s)
              (one_changed more s by.2.images) by.2,
        )
