-- What unify answers, said of substitutions as functions.
use Rattle.std.specs.Prelude.{ℕ, ◌≡◌, List, [], ◌∷◌, length, map, Some, None, slice_get, get_or, refl}
use Rattle.std.specs.List.{AllByRecursion}
use Rattle.std.proofs.Common.{ap, sym, ◌∙◌, arith}
use Rattle.std.proofs.lemmas.Option.{slice_get_within, slice_get-get_or}
use Rattle.fof_terms.specs.declared.term.Term.{Term, Var}
use Rattle.fof_terms.specs.Vocabulary.{Vocabulary}
use Rattle.fof_terms.specs.Sorts.{sort_of_term}
use Rattle.clause_form.specs.Images.{image, IsImages}
use Rattle.clause_form.proofs.ImagesFacts.{AgreeOn, agree_found, image_agrees}
use Rattle.clause_rules.proofs.JointImages.{listed, listed_length, listed_at}
use Rattle.clause_rules.proofs.LitImages.{instance_is, instances_are}
use Rattle.clause_rules.specs.Ways.{zip_pairs}
use Rattle.clause_rules.proofs.NeedSorts.{Found}
use Rattle.unify_terms.specs.Substitution.{image_at, instance, IsSubstitution}
use Rattle.unify_terms.specs.Unifiers.{Unifies, AreSorted, Unified}
use Rattle.superpose.specs.Drafts.{Draft}
use Rattle.superpose.specs.MostGeneral.{IsMostGeneral}

each_of : {X : Type 0} (P : X → Type 0) (xs : List X) → ((x : X) → P x) → AllByRecursion P xs
each_of P [] h = tt
each_of P (x ∷ xs) h = (h x, each_of P xs h)

-- the instances of the terms of two lists are the same
abbrev pub AreSame : (ℕ → Term) → List Term → List Term → Type 0
AreSame s ls rs = map (image s) ls ≡ map (image s) rs

unifies_zip : (images ls rs : List Term) → map (instance images) ls ≡ map (instance images) rs → Unifies images (zip_pairs ls rs)
unifies_zip images [] rs e = tt
unifies_zip images (l ∷ ls) [] e = tt
unifies_zip images (l ∷ ls) (r ∷ rs) e = let head : instance images l ≡ instance images r = cc in (head, unifies_zip images ls rs (cc))

zip_same : (images ls rs : List Term) → length ls ≡ length rs → Unifies images (zip_pairs ls rs) → map (instance images) ls ≡ map (instance images) rs
zip_same images [] [] size h = refl
zip_same images [] (r ∷ rs) size h = absurd (omega arith)
zip_same images (l ∷ ls) [] size h = absurd (omega arith)
zip_same images (l ∷ ls) (r ∷ rs) size h = rw (h.0, zip_same images ls rs (omega arith) h.1) refl

zip_sorted : (v : Vocabulary) (scope : List ℕ) (ls rs : List Term) → AllByRecursion (Found v scope) ls → AllByRecursion (Found v scope) rs → AreSorted v scope (zip_pairs ls rs)
zip_sorted v scope [] rs h g = tt
zip_sorted v scope (l ∷ ls) [] h g = tt
zip_sorted v scope (l ∷ ls) (r ∷ rs) h g = ((sorted l h.0, sorted r g.0), zip_sorted v scope ls rs h.1 g.1) where
  sorted : (t : Term) → Found v scope t → sort_of_term v scope t ≡ None → ⊥
  sorted t found e = let both : Some found.0 ≡ None = sym found.1 ∙ e in cc

module _ (v : Vocabulary) (scope : List ℕ) where
  agrees : (s t : ℕ → Term) → AgreeOn scope s t → (ts : List Term) → AllByRecursion (Found v scope) ts → map (image s) ts ≡ map (image t) ts
  agrees s t h ts found = agree_found (sort_of_term v scope) (image s) (image t) ts (each_of (λ u. (q : ℕ) → sort_of_term v scope u ≡ Some q → image s u ≡ image t u) ts (image_agrees v scope s t h)) found

  -- a substitution as a list
  abbrev pub as_list : (ℕ → Term) → List Term
  as_list s = listed (length scope) s

  pub list_agrees : (s : ℕ → Term) → AgreeOn scope s (image_at (as_list s))
  list_agrees s = record { same = λ k q e. sym (listed_at (length scope) s k (Var k) (slice_get_within scope k q e)) }

  pub list_is : (to : List ℕ) (s : ℕ → Term) → IsImages v scope to s → IsSubstitution v scope 0 to (as_list s)
  list_is to s h = record {
    size = listed_length (length scope) s;
    sorted = λ k g.
        let found = slice_get-get_or scope k 0 g in
        ap (sort_of_term v to) (listed_at (length scope) s k (Var k) g) ∙ h.sorted k (get_or scope k 0) found ∙ sym found;
    rigids = λ k g b. absurd (omega (arith, b));
  }

  pub images_are : (to : List ℕ) (images : List Term) → IsSubstitution v scope 0 to images → IsImages v scope to (image_at images)
  images_are to images sub = record { sorted = λ k q e. sub.sorted k (slice_get_within scope k q e) ∙ e }

  module _ (ls rs : List Term) (hl : AllByRecursion (Found v scope) ls) (hr : AllByRecursion (Found v scope) rs) where
    pub pairs_sorted : AreSorted v scope (zip_pairs ls rs)
    pairs_sorted = zip_sorted v scope ls rs hl hr

    -- substitutions that agree on the scope make the same terms equal
    pub same_for : (s t : ℕ → Term) → AgreeOn scope s t → AreSame s ls rs → AreSame t ls rs
    same_for s t h e = sym (agrees s t h ls hl) ∙ e ∙ agrees s t h rs hr

    unifies_list : (s : ℕ → Term) → AreSame s ls rs → Unifies (as_list s) (zip_pairs ls rs)
    unifies_list s e = unifies_zip (as_list s) ls rs (instances_are (as_list s) ls ∙ same_for s (image_at (as_list s)) (list_agrees s) e ∙ sym (instances_are (as_list s) rs))

    pub none_unifies : Unified v scope 0 (zip_pairs ls rs) None → (to : List ℕ) (s : ℕ → Term) → IsImages v scope to s → AreSame s ls rs → ⊥
    none_unifies none to s h e = none to (as_list s) (list_is to s h) (unifies_list s e)

    module _ (size : length ls ≡ length rs) (images : List Term) (best : Unified v scope 0 (zip_pairs ls rs) (Some images)) where
      pub unifier_is : IsImages v scope scope (image_at images)
      unifier_is = images_are scope images best.is_substitution

      pub unifier_unifies : AreSame (image_at images) ls rs
      unifier_unifies = sym (instances_are images ls) ∙ zip_same images ls rs size best.unifies ∙ instances_are images rs

      pub unifier_general : (to : List ℕ) (r : ℕ → Term) → IsImages v scope to r → AreSame r ls rs → (t : ℕ → Term) × IsImages v scope to t × ((k q : ℕ) → slice_get scope k ≡ Some q → r k ≡ image t (image_at images k))
      unifier_general to r h e =
          let g = best.general to (as_list r) (list_is to r h) (unifies_list r e) in (
            image_at g.by,
            images_are to g.by g.is_substitution,
            λ k q at. (list_agrees r).same k q at ∙ g.instances k (slice_get_within scope k q at) ∙ instance_is g.by (image_at images k),
          )

-- the draft asks that the instances of the terms of two lists are the same
pub record Asks (f : Draft) (ls rs : List Term) : Type 0 where
  pub forth : (s : ℕ → Term) → image s f.one ≡ image s f.other → AreSame s ls rs
  pub back : (s : ℕ → Term) → AreSame s ls rs → image s f.one ≡ image s f.other

module _ (v : Vocabulary) (scope : List ℕ) (f : Draft) (ls rs : List Term) (hl : AllByRecursion (Found v scope) ls) (hr : AllByRecursion (Found v scope) rs) (asks : Asks f ls rs) where
  pub never_unified : Unified v scope 0 (zip_pairs ls rs) None → (to : List ℕ) (s : ℕ → Term) → IsImages v scope to s → image s f.one ≡ image s f.other → ⊥
  never_unified none to s h e = none_unifies v scope ls rs hl hr none to s h (asks.forth s e)

  pub most_general : (images : List Term) → length ls ≡ length rs → Unified v scope 0 (zip_pairs ls rs) (Some images) → IsMostGeneral v scope f scope (image_at images)
  most_general images size best = record {
    images = unifier_is v scope ls rs hl hr size images best;
    unified = asks.back (image_at images) (unifier_unifies v scope ls rs hl hr size images best);
    general = λ to r h e. unifier_general v scope ls rs hl hr size images best to r h (asks.forth r e);
  }
