-- Places in a list of images, and the part of it that belongs to one clause.
use Rattle.std.specs.Prelude.{ℕ, ◌≡◌, ◌+◌, ◌<◌, ◌≤◌, List, [], ◌∷◌, ◌++◌, length, map, take, drop, get_or, slice_get, Some, refl}
use Rattle.std.proofs.Common.{ap, sym, ◌∙◌, arith, zero, suc, length-append}
use Rattle.std.proofs.lemmas.List.{length-drop, length-take}
use Rattle.std.proofs.lemmas.Option.{slice_get_within}
use Rattle.fof_terms.specs.declared.term.Term.{Term, Var}
use Rattle.fof_terms.specs.Sorts.{sort_of_term}
use Rattle.fof_terms.specs.Vocabulary.{Vocabulary}
use Rattle.clause_form.specs.declared.clause.Lit.{Lit}
use Rattle.clause_form.specs.Covers.{lit_image, AreSorted}
use Rattle.clause_form.specs.Images.{image, IsImages}
use Rattle.clause_form.proofs.ImagesFacts.{AgreeOn, image_sorted}
use Rattle.clause_form.proofs.ClauseLaws.{lits_agree, lits_sorted}
use Rattle.unify_terms.specs.Substitution.{image_at, IsSubstitution}

-- places in a list that goes on
drop_at : {X : Type 0} (xs : List X) (m k : ℕ) (d : X) → get_or (drop m xs) k d ≡ get_or xs (k + m) d
drop_at xs zero k d = let same : k + 0 ≡ k = omega arith in ap (λ (n : ℕ). get_or xs n d) (sym same)
drop_at [] (suc m) k d = refl
drop_at (x ∷ xs) (suc m) k d = let same : k + suc m ≡ suc (k + m) = omega arith in drop_at xs m k d ∙ ap (λ (n : ℕ). get_or (x ∷ xs) n d) (sym same)

take_at : {X : Type 0} (xs : List X) (n k : ℕ) (d : X) → k < n → get_or (take n xs) k d ≡ get_or xs k d
take_at xs zero k d h = absurd (omega arith)
take_at [] (suc n) k d h = refl
take_at (x ∷ xs) (suc n) zero d h = refl
take_at (x ∷ xs) (suc n) (suc k) d h = take_at xs n k d (omega arith)

any_default : {X : Type 0} (xs : List X) (k : ℕ) (d e : X) → k < length xs → get_or xs k d ≡ get_or xs k e
any_default [] k d e h = absurd (omega arith)
any_default (x ∷ xs) zero d e h = refl
any_default (x ∷ xs) (suc k) d e h = any_default xs k d e (omega arith)

pub part_at : (images : List Term) (m n k : ℕ) → k < n → m + n ≤ length images → image_at (take n (drop m images)) k ≡ image_at images (k + m)
part_at images m n k h within = take_at (drop m images) n k (Var k) h ∙ drop_at images m k (Var k) ∙ any_default images (k + m) (Var k) (Var (k + m)) (omega arith)

pub part_length : (images : List Term) (m n : ℕ) → m + n ≤ length images → length (take n (drop m images)) ≡ n
part_length images m n within = omega (arith, length-drop m images, length-take n (drop m images))

in_front : (xs ys : List ℕ) (k r : ℕ) → slice_get xs k ≡ Some r → slice_get (xs ++ ys) k ≡ Some r
in_front [] ys k r e = cc
in_front (x ∷ xs) ys zero r e = e
in_front (x ∷ xs) ys (suc k) r e = in_front xs ys k r e

middle : (front mid back : List ℕ) (k r : ℕ) → slice_get mid k ≡ Some r → slice_get (front ++ (mid ++ back)) (k + length front) ≡ Some r
middle [] mid back k r e = let same : k + 0 ≡ k = omega arith in rw same (in_front mid back k r e)
middle (x ∷ front) mid back k r e = let same : k + suc (length front) ≡ suc (k + length front) = omega arith in rw same (middle front mid back k r e)

-- a part of a joint substitution
module _ (w : Vocabulary) (scope : List ℕ) (rigid : ℕ) (images : List Term) (joint : IsSubstitution w scope rigid scope images) (front mid back : List ℕ) (m n : ℕ) (is : scope ≡ front ++ (mid ++ back)) (at_front : m ≡ length front) (so_many : n ≡ length mid) where
  total : length scope ≡ length front + (length mid + length back)
  total = ap length is ∙ length-append front (mid ++ back) ∙ ap (λ (x : ℕ). length front + x) (length-append mid back)

  pub part_within : m + n ≤ length images
  part_within = omega (arith, total, joint.size, at_front, so_many)

  pub part_images : IsImages w mid scope (image_at (take n (drop m images)))
  part_images = record {
    sorted = λ k r e.
        let within = slice_get_within mid k r e in
        let place : k + m ≡ k + length front = ap (λ (x : ℕ). k + x) at_front in
        let there : slice_get scope (k + m) ≡ Some r = ap (slice_get scope) place ∙ ap (λ (ss : List ℕ). slice_get ss (k + length front)) is ∙ middle front mid back k r e in
        ap (sort_of_term w scope) (part_at images m n k (omega (arith, within, so_many)) part_within) ∙ joint.sorted (k + m) (omega (arith, within, total, at_front)) ∙ there;
  }

  pub part_agrees : (s : ℕ → Term) → ((k : ℕ) → s k ≡ image_at images (k + m)) → AgreeOn mid s (image_at (take n (drop m images)))
  part_agrees s h = record { same = λ k r e. h k ∙ sym (part_at images m n k (omega (arith, slice_get_within mid k r e, so_many)) part_within) }

  pub part_lits : (s : ℕ → Term) → ((k : ℕ) → s k ≡ image_at images (k + m)) → (lits : List Lit) → AreSorted w mid lits → map (lit_image s) lits ≡ map (lit_image (image_at (take n (drop m images)))) lits
  part_lits s h lits sorted = lits_agree w mid s (image_at (take n (drop m images))) (part_agrees s h) lits sorted

  pub part_sorted : (lits : List Lit) → AreSorted w mid lits → AreSorted w scope (map (lit_image (image_at (take n (drop m images)))) lits)
  part_sorted lits sorted = lits_sorted w mid scope (image (image_at (take n (drop m images)))) (image_sorted w mid scope (image_at (take n (drop m images))) part_images) lits sorted
