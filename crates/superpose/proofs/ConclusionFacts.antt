-- What is left under a substitution, with new numbers for its variables.
use Rattle.std.specs.Prelude.{ℕ, ◌<◌, ◌≤◌, ◌≡◌, nat_lt, if◌then◌else◌, List, [], length, map, reverse, get_or, Some, slice_get, refl, ◌∷◌}
use Rattle.std.specs.List.{All as Each, AllByRecursion, Contains}
use Rattle.std.proofs.Common.{ap, sym, subst, ◌∙◌, arith, inl, inr, zero, suc}
use Rattle.std.proofs.lemmas.Bool.{lt-ltb, le-ltb}
use Rattle.std.proofs.lemmas.List.{reverse-reverse, length-reverse, length-map, get_or_past}
use Rattle.std.proofs.lemmas.List.Elements.{All-map, All-weaker, All-append, All-cons, All-nil, recursion_from_All, Contains-get_or}
use Rattle.std.proofs.lemmas.Option.{slice_get_within, slice_get-get_or, get_or_from_slice_get}
use Rattle.fof_terms.specs.declared.term.Term.{Term, Var}
use Rattle.fof_terms.specs.Vocabulary.{Vocabulary}
use Rattle.fof_terms.specs.Sorts.{sort_of_term}
use Rattle.fof_terms.proofs.LiftingLaws.{below_or_above}
use Rattle.fof_terms.proofs.SortsFacts.{sort_of_term-Var}
use Rattle.fof_terms.proofs.Walks.{same_terms}
use Rattle.clause_form.specs.declared.clause.Lit.{Lit}
use Rattle.clause_form.specs.Images.{image, IsImages}
use Rattle.clause_form.proofs.ImagesFacts.{AgreeOn, image-Var, image_image}
use Rattle.clause_form.specs.Covers.{scope_of, AreSorted}
use Rattle.clause_form.proofs.ClauseLaws.{lits_agree}
use Rattle.clause_rules.specs.Steps.{instances}
use Rattle.clause_rules.proofs.LitImages.{imaging, lits_twice}
use Rattle.unify_terms.specs.Substitution.{image_at}
use Rattle.superpose.specs.declared.made.Made.{Made}
use Rattle.superpose.specs.Drafts.{SortsExist}
use Rattle.superpose.specs.code.Conclusions.{IsConclusion}
use Rattle.superpose.specs.code.Named.{AreNamed, sorts_at}
use Rattle.superpose.specs.code.Noted.{IsFixed, IsNoted, LitInstancesStay}
use Rattle.clause_rules.proofs.ListPlaces.{get_of_map, reverse_cons}

pub get_map : {X Y : Type 0} (f : X → Y) (xs : List X) (i : ℕ) (x : X) → slice_get xs i ≡ Some x → slice_get (map f xs) i ≡ Some (f x)
get_map f [] i x e = cc
get_map f (y ∷ xs) zero x e = let same : y ≡ x = cc in ap (λ z. Some (f z)) same
get_map f (y ∷ xs) (suc i) x e = get_map f xs i x e

mapped_at : (f : Term → Term) (ts : List Term) (k : ℕ) (d e : Term) → k < length ts → get_or (map f ts) k d ≡ f (get_or ts k e)
mapped_at f [] k d e h = absurd (omega arith)
mapped_at f (t ∷ ts) zero d e h = refl
mapped_at f (t ∷ ts) (suc k) d e h = mapped_at f ts k d e (omega arith)

all_back : {X : Type 0} (P : X → Type 0) (xs : List X) → AllByRecursion P xs → Each P (reverse xs)
all_back P [] h = All-nil P
all_back P (x ∷ xs) h = subst (Each P) (sym (reverse_cons x xs)) (All-append P (reverse xs) (x ∷ []) (all_back P xs h.1) (All-cons P x [] h.0 (All-nil P)))

pub all_reversed : {X : Type 0} (P : X → Type 0) (xs : List X) → Each P xs → Each P (reverse xs)
all_reversed P xs h = all_back P xs (recursion_from_All P xs h)

none_in : (k : ℕ) → Contains [] k → ⊥
none_in k h = let lt = h.1 in absurd (omega arith)

abbrev within_or_itself : ℕ → (ℕ → Term) → ℕ → Term
within_or_itself n s k = if nat_lt k n then s k else Var k

inside : (n : ℕ) (s : ℕ → Term) (k : ℕ) → k < n → within_or_itself n s k ≡ s k
inside n s k h = rw (lt-ltb k n h) refl

outside : (n : ℕ) (s : ℕ → Term) (k : ℕ) → n ≤ k → within_or_itself n s k ≡ Var k
outside n s k h = rw (le-ltb k n h) refl

module _ (scope : List ℕ) (images : List Term) (left : List Lit) (noted kept : List ℕ) (names : List Term) (m : Made) (size : length images ≡ length scope)
    (is_noted : IsNoted (length scope) [] noted (LitInstancesStay images left)) (are_named : AreNamed scope noted kept (length scope) names)
    (subst_is : m.subst ≡ map (image (image_at names)) images) (lits_made : m.clause.lits ≡ instances (image_at names) (instances (image_at images) left)) (sorts_are : m.clause.sorts ≡ reverse (sorts_at scope kept)) where
  abbrev back : ℕ → Term
  back k = Var (get_or kept k 0)

  scope_is : scope_of m.clause ≡ sorts_at scope kept
  scope_is = ap reverse sorts_are ∙ reverse-reverse (sorts_at scope kept)

  kept_within : (i k : ℕ) → slice_get kept i ≡ Some k → k < length scope
  kept_within i k e = subst (λ x. x < length scope) (get_or_from_slice_get kept i k 0 e) (are_named.grown.within i 0 (slice_get_within kept i k e))

  sort_kept : (i k : ℕ) → slice_get kept i ≡ Some k → slice_get (scope_of m.clause) i ≡ Some (get_or scope k 0)
  sort_kept i k e = ap (λ xs. slice_get xs i) scope_is ∙ get_map (λ j. get_or scope j 0) kept i k e

  named_variable : (k : ℕ) → (name : ℕ) × (image_at names k ≡ Var name)
  named_variable k = elim (below_or_above k (length scope)) [
    | inl h ↦ let p = are_named.named k h in (p.name, p.is)
    | inr h ↦ (k, get_or_past names k (Var k) (let e = are_named.size in omega (arith, h)))
  ]

  named_images : (v : Vocabulary) → IsImages v scope (scope_of m.clause) (image_at names)
  named_images v = record {
    sorted = λ k r e.
        let p = are_named.named k (slice_get_within scope k r e) in
        ap (sort_of_term v (scope_of m.clause)) p.is ∙ sort_of_term-Var v (scope_of m.clause) p.name ∙ sort_kept p.name p.has_name.means p.has_name.there
        ∙ ap Some (get_or_from_slice_get scope p.has_name.means r 0 (p.has_name.like ∙ e));
  }

  back_images : (v : Vocabulary) → IsImages v (scope_of m.clause) scope back
  back_images v = record {
    sorted = λ k r e.
        let g = get_of_map (λ j. get_or scope j 0) kept k r (ap (λ xs. slice_get xs k) (sym scope_is) ∙ e) in
        sort_of_term-Var v scope (get_or kept k 0) ∙ ap (slice_get scope) (get_or_from_slice_get kept k g.0 0 g.1) ∙ slice_get-get_or scope g.0 0 (kept_within k g.0 g.1) ∙ ap Some g.2;
  }

  abbrev round : ℕ → Term
  round k = image back (image_at names k)

  round_fixed : IsFixed (length scope) noted (within_or_itself (length scope) round)
  round_fixed = record {
    inside = λ k h.
        let lt = is_noted.within (λ j g. absurd (none_in j g)) k h in
        let p = are_named.named k lt in
        inside (length scope) round k lt ∙ ap (image back) p.is ∙ image-Var back p.name ∙ ap Var (get_or_from_slice_get kept p.name p.has_name.means 0 p.has_name.there ∙ p.has_name.own h);
    outside = λ k h. outside (length scope) round k h;
  }

  again : (v : Vocabulary) → AreSorted v scope (instances (image_at images) left) → instances back (instances (image_at names) (instances (image_at images) left)) ≡ instances (image_at images) left
  again v sorted =
      let agree : AgreeOn scope round (within_or_itself (length scope) round) = record { same = λ k q e. sym (inside (length scope) round k (slice_get_within scope k q e)) } in
      lits_twice (image back) (image (image_at names)) (image round) (image_image back (image_at names)) (instances (image_at images) left)
      ∙ lits_agree v scope round (within_or_itself (length scope) round) agree (instances (image_at images) left) sorted ∙ is_noted.holds (within_or_itself (length scope) round) round_fixed

  -- the images are those of the images
  image_made : (k : ℕ) → image (image_at names) (image_at images k) ≡ image_at m.subst k
  image_made k = elim (below_or_above k (length images)) [
    | inl h ↦ sym (ap (λ xs. image_at xs k) subst_is ∙ mapped_at (image (image_at names)) images k (Var k) (Var k) h)
    | inr h ↦
        ap (image (image_at names)) (get_or_past images k (Var k) h) ∙ image-Var (image_at names) k
        ∙ get_or_past names k (Var k) (let e = are_named.size in omega (arith, h, size, e))
        ∙ sym (get_or_past m.subst k (Var k) (let e = ap length subst_is ∙ length-map images (image (image_at names)) in omega (arith, h, e)))
  ]

  made_at_once : (t : Term) → image (image_at names) (image (image_at images) t) ≡ image (image_at m.subst) t
  made_at_once t =
      image_image (image_at names) (image_at images) t
      ∙ same_terms (image (λ k. image (image_at names) (image_at images k))) (image (image_at m.subst)) (imaging (λ k. image (image_at names) (image_at images k))) (imaging (image_at m.subst))
      (λ k. image-Var (λ k. image (image_at names) (image_at images k)) k ∙ image_made k ∙ sym (image-Var (image_at m.subst) k)) t

  lits_are : m.clause.lits ≡ instances (image_at m.subst) left
  lits_are = lits_made ∙ lits_twice (image (image_at names)) (image (image_at images)) (image (image_at m.subst)) made_at_once left

  pub concluded : length kept ≤ 1000000000 → IsConclusion scope images left m
  concluded few = record {
    names = image_at names;
    back = back;
    size = ap length subst_is ∙ length-map images (image (image_at names)) ∙ size;
    few = let total : length m.clause.sorts ≡ length kept = ap length sorts_are ∙ length-reverse (sorts_at scope kept) ∙ length-map kept (λ j. get_or scope j 0) in omega (arith, few);
    exist = λ v h. subst (SortsExist v) (sym sorts_are) (all_reversed (λ s. s < length v.sorts) (sorts_at scope kept) (All-map (λ s. s < length v.sorts) (λ j. get_or scope j 0) kept (All-weaker (λ k. k < length scope) (λ k. get_or scope k 0 < length v.sorts) (λ k lt. h k 0 lt) kept are_named.grown.within)));
    variables = named_variable;
    named = named_images;
    returns = back_images;
    subst = λ k h. ap (λ xs. image_at xs k) subst_is ∙ mapped_at (image (image_at names)) images k (Var k) (Var k) (let e = size in omega (arith, h));
    lits = lits_are;
    again = again;
  }

-- the same as the code has it
pub concluded_by : (scope : List ℕ) (images lent given_names : List Term) (left : List Lit) (count total : ℕ) (first noted kept : List ℕ) (names : List Term) (m : Made) → length images ≡ length scope → count ≡ length scope → first ≡ [] → lent ≡ images
    → given_names ≡ names → IsNoted count first noted (LitInstancesStay lent left) → AreNamed scope noted kept (length scope) names → m.subst ≡ map (image (image_at given_names)) lent
    → m.clause.lits ≡ instances (image_at given_names) (instances (image_at lent) left) → m.clause.sorts ≡ reverse (sorts_at scope kept) → total ≡ length kept → total ≤ 1000000000 → IsConclusion scope images left m
concluded_by scope images lent given_names left count total first noted kept names m size count_is first_is lent_is names_are is_noted named subst_is lits_are sorts_are total_is few =
    let whole : IsNoted (length scope) [] noted (LitInstancesStay images left) =
    subst (λ n. IsNoted n [] noted (LitInstancesStay images left)) count_is (subst (λ xs. IsNoted count xs noted (LitInstancesStay images left)) first_is (subst (λ ts. IsNoted count first noted (LitInstancesStay ts left)) lent_is is_noted)) in
    let images_are : m.subst ≡ map (image (image_at names)) images =
    subst_is ∙ ap (λ (ns : List Term). map (image (image_at ns)) lent) names_are ∙ ap (map (image (image_at names))) lent_is in
    let made : m.clause.lits ≡ instances (image_at names) (instances (image_at images) left) =
    lits_are ∙ ap (λ (ns : List Term). instances (image_at ns) (instances (image_at lent) left)) names_are ∙ ap (λ (ts : List Term). instances (image_at names) (instances (image_at ts) left)) lent_is in
    concluded scope images left noted kept names m size whole named images_are made sorts_are (subst (λ n. n ≤ 1000000000) total_is few)

-- what was noted from nothing on is within
pub noted_within : (scope first noted : List ℕ) (count : ℕ) (P : (ℕ → Term) → Type 0) → count ≡ length scope → first ≡ [] → IsNoted count first noted P → Each (λ k. k < length scope) noted
noted_within scope first noted count P count_is first_is h i d lt =
    let all = h.within (λ k g. absurd (none_in k (subst (λ xs. Contains xs k) first_is g))) (get_or noted i d) (Contains-get_or noted i d lt) in
    let e = count_is in omega (arith, all)
