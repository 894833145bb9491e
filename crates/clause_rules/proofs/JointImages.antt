-- One list of images for the line and its parents, and the substitution of the parents' variables in it.
use Rattle.std.specs.Prelude.{ℕ, ◌≡◌, ◌+◌, ◌-◌, ◌<◌, ◌≤◌, nat_lt, if◌then◌else◌, List, [], ◌∷◌, ◌++◌, length, map, slice_get, get_or, refl}
use Rattle.std.proofs.Common.{ap, sym, subst, ◌∙◌, arith, zero, suc, inl, inr, length-append}
use Rattle.std.proofs.lemmas.Bool.{lt-ltb, le-ltb}
use Rattle.std.proofs.lemmas.List.{length-reverse}
use Rattle.std.proofs.lemmas.Option.{slice_get_within, slice_get-get_or}
use Rattle.fof_terms.specs.declared.term.Term.{Term, Var}
use Rattle.fof_terms.proofs.LiftingLaws.{below_or_above}
use Rattle.fof_terms.specs.Lift.{lifted_term}
use Rattle.fof_terms.specs.Sorts.{sort_of_term}
use Rattle.fof_terms.proofs.SortsFacts.{sort_of_term-Var}
use Rattle.fof_terms.specs.Vocabulary.{Vocabulary}
use Rattle.fof_terms.proofs.Walks.{lifted_sort}
use Rattle.clause_form.specs.declared.clause.Lit.{Lit}
use Rattle.clause_form.specs.declared.clause.Clause.{Clause}
use Rattle.clause_form.specs.Covers.{lit_image, lit_apart, scope_of, AreSorted}
use Rattle.clause_form.proofs.ClauseLaws.{lits_agree, lits_sorted, lits_themselves, sorted_more}
use Rattle.clause_form.specs.Images.{image, IsImages}
use Rattle.clause_form.proofs.ImagesFacts.{AgreeOn}
use Rattle.unify_terms.specs.Substitution.{image_at, IsSubstitution}
use Rattle.clause_rules.specs.Steps.{IsJoint, images_of_parents}
use Rattle.clause_rules.proofs.LitImages.{image_itself, images_apart}

place_before : (front back other : List ℕ) (k : ℕ) → k < length front → slice_get (front ++ back) k ≡ slice_get (front ++ other) k
place_before [] back other k h = absurd (omega arith)
place_before (x ∷ front) back other zero h = refl
place_before (x ∷ front) back other (suc k) h = place_before front back other k (omega arith)

place_behind : (front back : List ℕ) (k j : ℕ) → j ≡ k + length front → slice_get (front ++ back) j ≡ slice_get back k
place_behind [] back k j e = let same : j ≡ k = omega arith in rw same refl
place_behind (x ∷ front) back k zero e = absurd (omega arith)
place_behind (x ∷ front) back k (suc j) e = place_behind front back k j (omega arith)

-- the values of a function, as a list
abbrev pub listed : ℕ → (ℕ → Term) → List Term
listed zero f = []
listed (suc n) f = f 0 ∷ listed n (λ k. f (suc k))

pub listed_length : (n : ℕ) (f : ℕ → Term) → length (listed n f) ≡ n
listed_length zero f = refl
listed_length (suc n) f = ap (λ k. suc k) (listed_length n (λ k. f (suc k)))

pub listed_at : (n : ℕ) (f : ℕ → Term) (k : ℕ) (d : Term) → k < n → get_or (listed n f) k d ≡ f k
listed_at zero f k d h = absurd (omega arith)
listed_at (suc n) f zero d h = refl
listed_at (suc n) f (suc k) d h = listed_at n (λ k. f (suc k)) k d (omega arith)

-- the first variables stand for themselves, and the others have these images
abbrev pub joined : ℕ → (ℕ → Term) → ℕ → Term
joined n s k = if nat_lt k n then Var k else s (k - n)

pub joined_below : (n : ℕ) (s : ℕ → Term) (k : ℕ) → k < n → joined n s k ≡ Var k
joined_below n s k h = rw (lt-ltb k n h) refl

pub joined_above : (n : ℕ) (s : ℕ → Term) (k : ℕ) → n ≤ k → joined n s k ≡ s (k - n)
joined_above n s k h = rw (le-ltb k n h) refl

module _ (v : Vocabulary) (line : Clause) (scope : List ℕ) where
  abbrev n : ℕ
  n = length line.sorts

  line_length : length (scope_of line) ≡ n
  line_length = length-reverse line.sorts

  place_after : (more : List ℕ) (k : ℕ) → slice_get (scope_of line ++ more) (k + n) ≡ slice_get more k
  place_after more k = let there : k + n ≡ k + length (scope_of line) = omega (arith, line_length) in place_behind (scope_of line) more k (k + n) there

  place_within : (more other : List ℕ) (k : ℕ) → k < n → slice_get (scope_of line ++ more) k ≡ slice_get (scope_of line ++ other) k
  place_within more other k h = place_before (scope_of line) more other k (omega (arith, line_length))

  -- the parents' part of a joint substitution
  pub parents_images : (images : List Term) → IsJoint v line scope images → IsImages v scope (scope_of line ++ scope) (images_of_parents line images)
  parents_images images joint = record {
    sorted = λ k r e.
        let within = slice_get_within scope k r e in
        let total = length-append (scope_of line) scope in
        joint.sorted (k + n) (omega (arith, line_length)) ∙ place_after scope k ∙ e;
  }

  -- a joint substitution with a given part
  module _ (more : List ℕ) (s : ℕ → Term) (h : IsImages v scope (scope_of line ++ more) s) where
    abbrev size : ℕ
    size = length (scope_of line ++ scope)

    abbrev pub made : List Term
    made = listed size (joined n s)

    at_place : (k : ℕ) → k < size → image_at made k ≡ joined n s k
    at_place k g = listed_at size (joined n s) k (Var k) g

    total : size ≡ n + length scope
    total = length-append (scope_of line) scope ∙ ap (λ m. m + length scope) line_length

    sorted_at : (k : ℕ) → k < size → sort_of_term v (scope_of line ++ more) (joined n s k) ≡ slice_get (scope_of line ++ scope) k
    sorted_at k g = elim (below_or_above k n) [
      | inl b ↦ rw (joined_below n s k b, sort_of_term-Var) (place_within more scope k b)
      | inr b ↦
          let within : k - n < length scope = omega (arith, total) in
          let same : k - n + n ≡ k = omega arith in
          let found = slice_get-get_or scope (k - n) 0 within in
          let there : slice_get (scope_of line ++ scope) k ≡ slice_get scope (k - n) = ap (slice_get (scope_of line ++ scope)) (sym same) ∙ place_after scope (k - n) in
          rw (joined_above n s k b) (h.sorted (k - n) (get_or scope (k - n) 0) found ∙ sym found ∙ sym there)
    ]

    pub made_joint : IsSubstitution v (scope_of line ++ scope) n (scope_of line ++ more) made
    made_joint = record {
      size = listed_length size (joined n s);
      sorted = λ k g. ap (sort_of_term v (scope_of line ++ more)) (at_place k g) ∙ sorted_at k g;
      rigids = λ k g b. at_place k g ∙ joined_below n s k b;
    }

    pub made_agrees : AgreeOn scope s (images_of_parents line made)
    made_agrees = record {
      same = λ k r e.
          let within = slice_get_within scope k r e in
          let here : k + n < size = omega (arith, total) in
          let back : k + n - n ≡ k = omega arith in
          sym (at_place (k + n) here ∙ joined_above n s (k + n) (omega arith) ∙ ap s back);
    }

  -- the line's literals stand for themselves
  pub line_stays : (target : List ℕ) (images : List Term) → IsSubstitution v (scope_of line ++ scope) n target images → AreSorted v (scope_of line) line.lits → map (lit_image (image_at images)) line.lits ≡ line.lits
  line_stays target images sub sorted =
      let fixed : AgreeOn (scope_of line) (image_at images) Var = record {
        same = λ k r e.
            let within = slice_get_within (scope_of line) k r e in
            let all = length-append (scope_of line) scope in
            sub.rigids k (omega arith) (omega (arith, line_length));
      } in
      lits_agree v (scope_of line) (image_at images) Var fixed line.lits sorted ∙ lits_themselves (image Var) image_itself line.lits

  pub parents_stay : (images : List Term) (lits : List Lit) → map (lit_image (image_at images)) (map (lit_apart n) lits) ≡ map (lit_image (images_of_parents line images)) lits
  parents_stay images lits = images_apart (image_at images) n lits

-- literals over a scope that goes on, and over one that begins with another
pub sorted_further : (v : Vocabulary) (scope more : List ℕ) (lits : List Lit) → AreSorted v scope lits → AreSorted v (scope ++ more) lits
sorted_further v scope more lits h =
    subst (AreSorted v (scope ++ more)) (lits_themselves (λ t. t) (λ t. refl) lits) (lits_sorted v scope (scope ++ more) (λ t. t) (λ u r e. sorted_more v scope more u r e) lits h)

pub sorted_apart : (v : Vocabulary) (front scope : List ℕ) (n : ℕ) (lits : List Lit) → n ≡ length front → AreSorted v scope lits → AreSorted v (front ++ scope) (map (lit_apart n) lits)
sorted_apart v front scope n lits same h =
    lits_sorted v scope (front ++ scope) (lifted_term n 0) (λ u r e. ap (λ m. sort_of_term v (front ++ scope) (lifted_term m 0 u)) same ∙ lifted_sort v front scope [] u ∙ e) lits h
