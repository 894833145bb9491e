-- A symbol that stands in no pair stands in no image of a most general unifier: with one variable more in place of each
-- term that it makes, the images unify too, and so they are instances of what they were.
use Rattle.std.specs.Prelude.{ℕ, zero, suc, ◌≡◌, ◌<◌, ◌≤◌, ◌==◌, Bool, true, false, if◌then◌else◌, List, [], ◌∷◌, ◌++◌, length, map, get_or, Option, Some, slice_get, refl}
use Rattle.std.specs.List.{AllByRecursion, list_any}
use Rattle.std.proofs.Common.{ap, sym, ◌∙◌, ◌⊎◌, inl, inr}
use Rattle.std.proofs.lemmas.Bool.{eqb-true}
use Rattle.std.proofs.lemmas.List.{length-map}
use Rattle.fof_terms.specs.declared.signature.Kind.{Kind}
use Rattle.fof_terms.specs.declared.signature.Kind.TheVariants.{Function, Predicate}
use Rattle.fof_terms.specs.declared.signature.Symbol.{Symbol}
use Rattle.fof_terms.specs.declared.term.Term.{Term, Var, App}
use Rattle.fof_terms.specs.declared.term.Term.TheFolds.{fold-Term}
use Rattle.fof_terms.specs.declared.term.Term.TheOpen as term
use Rattle.fof_terms.specs.Occurs.{occurs_in_term}
use Rattle.fof_terms.specs.Sorts.{made_by, are_sorts, applied as applied_symbol, sort_of_term}
use Rattle.fof_terms.specs.Vocabulary.{Vocabulary}
use Rattle.fof_terms.proofs.Induction.{term_induction}
use Rattle.fof_terms.proofs.LiftingLaws.{applied_found, below_or_above}
use Rattle.fof_terms.proofs.OccursFacts.{occurs_in_term-Var, occurs_in_term-App}
use Rattle.fof_terms.proofs.SortsFacts.{sort_of_term-Var, sort_of_term-App}
use Rattle.fof_terms.proofs.Trees.{fold-Var, fold-App}
use Rattle.unify_terms.specs.declared.pair.Pair.{Pair}
use Rattle.unify_terms.specs.Substitution.{applied, image_at, instance, IsSubstitution}
use Rattle.unify_terms.specs.Unifiers.{Unifies, IsMostGeneral}
use Rattle.unify_terms.proofs.SubstitutionFacts.{applied-Var, applied-App}
use Rattle.unify_terms.proofs.SubstitutionLaws.{applied_same}
use Rattle.entry_symbols.specs.Mentioned.{IsInNoPair}
use Rattle.entry_symbols.proofs.Clashing.{none_of_two, term_lacks}
use Rattle.entry_symbols.proofs.Declared.{none_there}
use Rattle.verifier.proofs.Citing.{or_false}
use Rattle.verifier.proofs.Slots.{comes_last, has_value, stays_behind}

-- ---- a variable in place of each term that the symbol makes

abbrev put_step : ℕ → ℕ → term.Term-F Term → Term
put_step k c (term.Var j) = Var j
put_step k c (term.App f ts) = if f == k then Var c else App f ts

unfoldable put : ℕ → ℕ → Term → Term
put k c = fold-Term Term (put_step k c)

put-Var : (k c j : ℕ) → put k c (Var j) ≡ Var j
unfolding put
put-Var k c j = fold-Var Term (put_step k c) j

put-App : (k c f : ℕ) (ts : List Term) → put k c (App f ts) ≡ (if f == k then Var c else App f (map (put k c) ts))
unfolding put
put-App k c f ts = fold-App Term (put_step k c) f ts

module _ (k c : ℕ) where
  chosen_lacks : (f : ℕ) (ts : List Term) (b : Bool) → (f == k) ≡ b → list_any (occurs_in_term k) ts ≡ false → occurs_in_term k (if b then Var c else App f ts) ≡ false
  chosen_lacks f ts true is none = occurs_in_term-Var k c
  chosen_lacks f ts false is none = occurs_in_term-App k f ts ∙ none_of_two (f == k) (list_any (occurs_in_term k) ts) is none

  any_lacks : (ts : List Term) → AllByRecursion (λ t. occurs_in_term k (put k c t) ≡ false) ts → list_any (occurs_in_term k) (map (put k c) ts) ≡ false
  any_lacks [] all = refl
  any_lacks (t ∷ ts) all = none_of_two (occurs_in_term k (put k c t)) (list_any (occurs_in_term k) (map (put k c) ts)) all.0 (any_lacks ts all.1)

  -- then the symbol is gone
  put_lacks : (t : Term) → occurs_in_term k (put k c t) ≡ false
  put_lacks = term_induction (λ t. occurs_in_term k (put k c t) ≡ false) (record {
    var = λ j. ap (occurs_in_term k) (put-Var k c j) ∙ occurs_in_term-Var k j;
    app = λ f ts all. ap (occurs_in_term k) (put-App k c f ts) ∙ chosen_lacks f (map (put k c) ts) (f == k) refl (any_lacks ts all);
  })

  module _ (g : ℕ → Term) where
    abbrev Follows : Term → Type 0
    Follows t = occurs_in_term k t ≡ false → applied (λ j. put k c (g j)) t ≡ put k c (applied g t)

    all_follow : (ts : List Term) → AllByRecursion Follows ts → list_any (occurs_in_term k) ts ≡ false → map (applied (λ j. put k c (g j))) ts ≡ map (put k c) (map (applied g) ts)
    all_follow [] all none = refl
    all_follow (t ∷ ts) all none =
        let parts = or_false (occurs_in_term k t) (list_any (occurs_in_term k) ts) none in
        rw (all.0 parts.0, all_follow ts all.1 parts.1) refl

    -- in a term without the symbol it stands in images alone
    put_follows : (t : Term) → Follows t
    put_follows = term_induction Follows (record {
      var = λ j none. applied-Var (λ i. put k c (g i)) j ∙ sym (ap (put k c) (applied-Var g j));
      app = λ f ts all none.
          let parts = or_false (f == k) (list_any (occurs_in_term k) ts) (sym (occurs_in_term-App k f ts) ∙ none) in
          let own : put k c (App f (map (applied g) ts)) ≡ App f (map (put k c) (map (applied g) ts)) = put-App k c f (map (applied g) ts) ∙ ap (λ (b : Bool). if b then Var c else App f (map (put k c) (map (applied g) ts))) parts.0 in
          applied-App (λ i. put k c (g i)) f ts ∙ ap (App f) (all_follow ts all parts.1) ∙ sym own ∙ sym (ap (put k c) (applied-App g f ts));
    })

-- what an instance lacks its term lacks
module _ (k : ℕ) (g : ℕ → Term) where
  abbrev IsInside : Term → Type 0
  IsInside t = occurs_in_term k (applied g t) ≡ false → occurs_in_term k t ≡ false

  any_inside : (ts : List Term) → AllByRecursion IsInside ts → list_any (occurs_in_term k) (map (applied g) ts) ≡ false → list_any (occurs_in_term k) ts ≡ false
  any_inside [] all none = refl
  any_inside (t ∷ ts) all none =
      let parts = or_false (occurs_in_term k (applied g t)) (list_any (occurs_in_term k) (map (applied g) ts)) none in
      none_of_two (occurs_in_term k t) (list_any (occurs_in_term k) ts) (all.0 parts.0) (any_inside ts all.1 parts.1)

  inside : (t : Term) → IsInside t
  inside = term_induction IsInside (record {
    var = λ j none. occurs_in_term-Var k j;
    app = λ f ts all none.
        let parts = or_false (f == k) (list_any (occurs_in_term k) (map (applied g) ts)) (sym (occurs_in_term-App k f (map (applied g) ts)) ∙ sym (ap (occurs_in_term k) (applied-App g f ts)) ∙ none) in
        occurs_in_term-App k f ts ∙ none_of_two (f == k) (list_any (occurs_in_term k) ts) parts.0 (any_inside ts all parts.1);
  })

-- ---- sorts

made_result : (kind : Kind) (fits : Bool) (result x : ℕ) → made_by kind fits result ≡ Some x → Some result ≡ Some x
made_result Function true result x is = is
made_result Function false result x is = absurd (cc)
made_result Predicate fits result x is = absurd (cc)

module _ (v : Vocabulary) (sorts : List ℕ) (k : ℕ) (symbol : Symbol) (at : slice_get v.symbols k ≡ Some symbol) where
  abbrev one_more : List ℕ
  one_more = sorts ++ symbol.result ∷ []

  abbrev put_last : Term → Term
  put_last = put k (length sorts)

  abbrev Stays : Term → Type 0
  Stays t = (s : ℕ) → sort_of_term v sorts t ≡ Some s → sort_of_term v one_more (put_last t) ≡ Some s

  all_kept : (ts : List Term) → AllByRecursion Stays ts → AllByRecursion (λ t. (s : ℕ) × (sort_of_term v sorts t ≡ Some s)) ts → map (sort_of_term v one_more) (map put_last ts) ≡ map (sort_of_term v sorts) ts
  all_kept [] all known = refl
  all_kept (t ∷ ts) all known = rw (all.0 known.0.0 known.0.1, known.0.1, all_kept ts all.1 known.1) refl

  chosen_sort : (f : ℕ) (ts : List Term) (s : ℕ) (b : Bool) → (f == k) ≡ b → applied_symbol (slice_get v.symbols f) (map (sort_of_term v sorts) ts) ≡ Some s
      → map (sort_of_term v one_more) (map put_last ts) ≡ map (sort_of_term v sorts) ts → sort_of_term v one_more (if b then Var (length sorts) else App f (map put_last ts)) ≡ Some s
  chosen_sort f ts s true is old same =
      let here : slice_get v.symbols f ≡ Some symbol = ap (slice_get v.symbols) (eqb-true f k is) ∙ at in
      let made : applied_symbol (Some symbol) (map (sort_of_term v sorts) ts) ≡ Some s = sym (ap (λ (o : Option Symbol). applied_symbol o (map (sort_of_term v sorts) ts)) here) ∙ old in
      sort_of_term-Var v one_more (length sorts) ∙ comes_last sorts symbol.result ∙ made_result symbol.kind (are_sorts (map (sort_of_term v sorts) ts) symbol.args) symbol.result s made
  chosen_sort f ts s false is old same = sort_of_term-App v one_more f (map put_last ts) ∙ ap (applied_symbol (slice_get v.symbols f)) same ∙ old

  put_sorted : (t : Term) → Stays t
  put_sorted = term_induction Stays (record {
    var = λ j s is. ap (sort_of_term v one_more) (put-Var k (length sorts) j) ∙ sort_of_term-Var v one_more j ∙ stays_behind sorts (symbol.result ∷ []) j s (sym (sort_of_term-Var v sorts j) ∙ is);
    app = λ f ts all s is.
        let old : applied_symbol (slice_get v.symbols f) (map (sort_of_term v sorts) ts) ≡ Some s = sym (sort_of_term-App v sorts f ts) ∙ is in
        ap (sort_of_term v one_more) (put-App k (length sorts) f ts)
        ∙ chosen_sort f ts s (f == k) refl old (all_kept ts all (applied_found (sort_of_term v sorts) ts (slice_get v.symbols f) s old));
  })

  get_put : (images : List Term) (i : ℕ) (t : Term) → get_or (map put_last images) i (put_last t) ≡ put_last (get_or images i t)
  get_put [] i t = refl
  get_put (x ∷ images) zero t = refl
  get_put (x ∷ images) (suc i) t = get_put images i t

  image_put : (images : List Term) (j : ℕ) → image_at (map put_last images) j ≡ put_last (image_at images j)
  image_put images j = sym (ap (get_or (map put_last images) j) (put-Var k (length sorts) j)) ∙ get_put images j (Var j)

  put_substitution : (rigid : ℕ) (images : List Term) → IsSubstitution v sorts rigid sorts images → IsSubstitution v sorts rigid one_more (map put_last images)
  put_substitution rigid images is = record {
    size = length-map images put_last ∙ is.size;
    sorted = λ j within.
        let known = has_value sorts j within in
        ap (sort_of_term v one_more) (image_put images j) ∙ put_sorted (image_at images j) known.0 (is.sorted j within ∙ known.1) ∙ sym known.1;
    rigids = λ j within below. image_put images j ∙ ap put_last (is.rigids j within below) ∙ put-Var k (length sorts) j;
  }

  instance_put : (images : List Term) (t : Term) → occurs_in_term k t ≡ false → instance (map put_last images) t ≡ put_last (instance images t)
  instance_put images t none = applied_same (image_at (map put_last images)) (λ j. put_last (image_at images j)) (image_put images) t ∙ put_follows k (length sorts) (image_at images) t none

  put_unifies : (images : List Term) (pairs : List Pair) → IsInNoPair k pairs → Unifies images pairs → Unifies (map put_last images) pairs
  put_unifies images [] none is = tt
  put_unifies images (p ∷ pairs) none is = (
    instance_put images p.left none.0.0 ∙ ap put_last is.0 ∙ sym (instance_put images p.right none.0.1),
    put_unifies images pairs none.1 is.1,
  )

  known_lacks : (rigid : ℕ) (pairs : List Pair) (images : List Term) (j : ℕ) → IsMostGeneral v sorts rigid pairs images → IsInNoPair k pairs → j < length sorts → occurs_in_term k (image_at images j) ≡ false
  known_lacks rigid pairs images j most none within =
      let by = most.general one_more (map put_last images) (put_substitution rigid images most.is_substitution) (put_unifies images pairs none most.unifies) in
      inside k (image_at by.by) (image_at images j) (ap (occurs_in_term k) (sym (by.instances j within) ∙ image_put images j) ∙ put_lacks k (length sorts) (image_at images j))

pub images_lack : (v : Vocabulary) (sorts : List ℕ) (rigid : ℕ) (pairs : List Pair) (images : List Term) (k j : ℕ) → IsMostGeneral v sorts rigid pairs images → IsInNoPair k pairs → j < length sorts → occurs_in_term k (image_at images j) ≡ false
images_lack v sorts rigid pairs images k j most none within = by (below_or_above k (length v.symbols))
  where
    by : (k < length v.symbols) ⊎ (length v.symbols ≤ k) → occurs_in_term k (image_at images j) ≡ false
    by (inl known) = let at = has_value v.symbols k known in known_lacks v sorts k at.0 at.1 rigid pairs images j most none within
    by (inr behind) =
        let sort = has_value sorts j within in
        let sorted = most.is_substitution.sorted j within ∙ sort.1 in
        term_lacks v v k (none_there (record { vocabulary = v; formulas = [] }) k behind) sorts sorts (image_at images j) sort.0 sort.0 sorted sorted
