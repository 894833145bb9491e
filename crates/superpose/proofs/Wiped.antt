-- Terms from which a symbol is wiped out. A most general unifier brings in no symbol: with that symbol wiped out it would
-- still unify, and be no instance.
use Rattle.std.specs.Prelude.{ℕ, ◌≡◌, ◌==◌, ◌||◌, if◌then◌else◌, Bool, true, false, List, [], ◌∷◌, ◌++◌, length, map, Option, Some, None, slice_get, refl}
use Rattle.std.specs.List.{AllByRecursion, list_any}
use Rattle.std.proofs.Common.{ap, sym, ◌∙◌, inl, inr, ◌⊎◌}
use Rattle.std.proofs.lemmas.Bool.{eqb-true}
use Rattle.std.proofs.lemmas.List.Elements.{recursion_from_All}
use Rattle.std.proofs.lemmas.Simd.{map-map}
use Rattle.fof_terms.specs.declared.term.Term.{Term, Var, App}
use Rattle.fof_terms.specs.declared.term.Term.TheFolds.{fold-Term}
use Rattle.fof_terms.specs.declared.signature.Symbol.{Symbol}
use Rattle.fof_terms.specs.declared.signature.Kind.{Kind}
use Rattle.fof_terms.specs.declared.signature.Kind.TheVariants.{Function, Predicate}
use Rattle.fof_terms.specs.Vocabulary.{Vocabulary}
use Rattle.fof_terms.specs.Occurs.{occurs_in_term}
use Rattle.fof_terms.specs.Sorts.{applied, made_by, are_sorts, sort_of_term}
use Rattle.fof_terms.proofs.Induction.{term_induction}
use Rattle.fof_terms.proofs.Trees.{fold-Var, fold-App}
use Rattle.fof_terms.proofs.LiftingLaws.{applied_found}
use Rattle.fof_terms.proofs.OccursFacts.{occurs_in_term-Var, occurs_in_term-App}
use Rattle.fof_terms.proofs.SortsFacts.{sort_of_term-Var, sort_of_term-App}
use Rattle.clause_form.specs.Images.{image, IsImages}
use Rattle.clause_form.proofs.ImagesFacts.{image-Var, image-App, kept_answers}
use Rattle.superpose.specs.Absent.{IsInNeither, IsNotBelow}
use Rattle.superpose.specs.Drafts.{Draft}
use Rattle.superpose.specs.MostGeneral.{IsMostGeneral}
use Rattle.superpose.proofs.NamedFacts.{get_in_front, get_pushed}
use Rattle.superpose.proofs.PairFacts.{same_args, same_head}
use Rattle.fof_terms.specs.declared.term.Term.TheOpen as term

pub neither : (a b : Bool) → (a || b) ≡ false → (a ≡ false) × (b ≡ false)
neither true b e = cc
neither false b e = (refl, e)

pub both_false : (a b : Bool) → a ≡ false → b ≡ false → (a || b) ≡ false
both_false a b e f = rw (e, f) refl

either : (b : Bool) → (b ≡ true) ⊎ (b ≡ false)
either true = inl refl
either false = inr refl

pub none_has : {X : Type 0} (f : X → Bool) (xs : List X) → AllByRecursion (λ x. f x ≡ false) xs → list_any f xs ≡ false
none_has f [] h = refl
none_has f (x ∷ xs) h = both_false (f x) (list_any f xs) h.0 (none_has f xs h.1)

pub each_lacks : {X : Type 0} (f : X → Bool) (xs : List X) → list_any f xs ≡ false → AllByRecursion (λ x. f x ≡ false) xs
each_lacks f [] h = tt
each_lacks f (x ∷ xs) h = let parts = neither (f x) (list_any f xs) h in (parts.0, each_lacks f xs parts.1)

pub none_mapped : {X Y : Type 0} (g : Y → Bool) (f : X → Y) (xs : List X) → AllByRecursion (λ x. g (f x) ≡ false) xs → list_any g (map f xs) ≡ false
none_mapped g f [] h = refl
none_mapped g f (x ∷ xs) h = both_false (g (f x)) (list_any g (map f xs)) h.0 (none_mapped g f xs h.1)

-- what holds of each element under a premise, where the premise does
pub met : {X : Type 0} (P Q : X → Type 0) (xs : List X) → AllByRecursion (λ x. P x → Q x) xs → AllByRecursion P xs → AllByRecursion Q xs
met P Q [] all h = tt
met P Q (x ∷ xs) all h = (all.0 h.0, met P Q xs all.1 h.1)

-- the result of a symbol, if there is one
abbrev result_of : Option Symbol → ℕ
result_of None = 0
result_of (Some s) = s.result

made_result : (kind : Kind) (fits : Bool) (result r : ℕ) → made_by kind fits result ≡ Some r → result ≡ r
made_result Function true result r e = cc
made_result Function false result r e = cc
made_result Predicate fits result r e = cc

applied_result : (o : Option Symbol) (found : List (Option ℕ)) (r : ℕ) → applied o found ≡ Some r → result_of o ≡ r
applied_result None found r e = cc
applied_result (Some s) found r e = made_result s.kind (are_sorts found s.args) s.result r e

-- a term without the symbol has no other symbols than its images
module _ (k : ℕ) (s : ℕ → Term) where
  abbrev Lacks : Term → Type 0
  Lacks t = occurs_in_term k t ≡ false

  pub image_lacks : ((x : ℕ) → Lacks (s x)) → (t : Term) → Lacks t → Lacks (image s t)
  image_lacks h = term_induction _ (record {
    var = λ x none. ap (occurs_in_term k) (image-Var s x) ∙ h x;
    app = λ f ts all none.
        let parts = neither (f == k) (list_any (occurs_in_term k) ts) (sym (occurs_in_term-App k f ts) ∙ none) in
        ap (occurs_in_term k) (image-App s f ts) ∙ occurs_in_term-App k f (map (image s) ts)
        ∙ both_false (f == k) (list_any (occurs_in_term k) (map (image s) ts)) parts.0
        (none_mapped (occurs_in_term k) (image s) ts (met Lacks (λ t. Lacks (image s t)) ts all (each_lacks (occurs_in_term k) ts parts.1)));
  })

  pub lacks_before : (t : Term) → Lacks (image s t) → Lacks t
  lacks_before = term_induction _ (record {
    var = λ x none. occurs_in_term-Var k x;
    app = λ f ts all none.
        let parts = neither (f == k) (list_any (occurs_in_term k) (map (image s) ts)) (sym (occurs_in_term-App k f (map (image s) ts)) ∙ ap (occurs_in_term k) (sym (image-App s f ts)) ∙ none) in
        occurs_in_term-App k f ts ∙ both_false (f == k) (list_any (occurs_in_term k) ts) parts.0 (none_has (occurs_in_term k) ts (go ts all parts.1));
  }) where
    go : (ts : List Term) → AllByRecursion (λ t. Lacks (image s t) → Lacks t) ts → list_any (occurs_in_term k) (map (image s) ts) ≡ false → AllByRecursion Lacks ts
    go [] all h = tt
    go (t ∷ ts) all h = let parts = neither (occurs_in_term k (image s t)) (list_any (occurs_in_term k) (map (image s) ts)) h in (all.0 parts.0, go ts all.1 parts.1)

abbrev wipe_step : ℕ → ℕ → term.Term-F Term → Term
wipe_step k n (term.Var j) = Var j
wipe_step k n (term.App f ts) = if f == k then Var n else App f ts

-- the term with variable n in place of what the symbol heads
unfoldable wipe : ℕ → ℕ → Term → Term
wipe k n = fold-Term Term (wipe_step k n)

module _ (k n : ℕ) where
  wipe-Var : (j : ℕ) → wipe k n (Var j) ≡ Var j
  unfolding wipe
  wipe-Var j = fold-Var Term (wipe_step k n) j

  wipe-App : (f : ℕ) (ts : List Term) → wipe k n (App f ts) ≡ (if f == k then Var n else App f (map (wipe k n) ts))
  unfolding wipe
  wipe-App f ts = fold-App Term (wipe_step k n) f ts

  wiped_app : (f : ℕ) (ts : List Term) → (f == k) ≡ true → wipe k n (App f ts) ≡ Var n
  wiped_app f ts e = wipe-App f ts ∙ ap (λ b. if b then Var n else App f (map (wipe k n) ts)) e

  other_app : (f : ℕ) (ts : List Term) → (f == k) ≡ false → wipe k n (App f ts) ≡ App f (map (wipe k n) ts)
  other_app f ts e = wipe-App f ts ∙ ap (λ b. if b then Var n else App f (map (wipe k n) ts)) e

  wiped_lacks : (t : Term) → occurs_in_term k (wipe k n t) ≡ false
  wiped_lacks = term_induction _ (record {
    var = λ j. ap (occurs_in_term k) (wipe-Var j) ∙ occurs_in_term-Var k j;
    app = λ f ts all.
        elim (either (f == k)) [
          | inl e ↦ ap (occurs_in_term k) (wiped_app f ts e) ∙ occurs_in_term-Var k n
          | inr e ↦ ap (occurs_in_term k) (other_app f ts e) ∙ occurs_in_term-App k f (map (wipe k n) ts)
              ∙ both_false (f == k) (list_any (occurs_in_term k) (map (wipe k n) ts)) e (none_mapped (occurs_in_term k) (wipe k n) ts all)
        ];
  })

  module _ (s : ℕ → Term) where
    abbrev wiped : ℕ → Term
    wiped x = wipe k n (s x)

    mapped : (ts : List Term) → AllByRecursion (λ t. image wiped t ≡ wipe k n (image s t)) ts → map (image wiped) ts ≡ map (wipe k n) (map (image s) ts)
    mapped [] h = refl
    mapped (t ∷ ts) h = rw (h.0, mapped ts h.1) refl

    -- images from which the symbol is wiped out are those of a term without the symbol
    wiped_image : (t : Term) → occurs_in_term k t ≡ false → image wiped t ≡ wipe k n (image s t)
    wiped_image = term_induction _ (record {
      var = λ j none. image-Var wiped j ∙ ap (wipe k n) (sym (image-Var s j));
      app = λ f ts all none.
          let parts = neither (f == k) (list_any (occurs_in_term k) ts) (sym (occurs_in_term-App k f ts) ∙ none) in
          image-App wiped f ts
          ∙ ap (App f) (mapped ts (met (λ t. occurs_in_term k t ≡ false) (λ t. image wiped t ≡ wipe k n (image s t)) ts all (each_lacks (occurs_in_term k) ts parts.1)))
          ∙ sym (other_app f (map (image s) ts) parts.0) ∙ ap (wipe k n) (sym (image-App s f ts));
    })

    each_wiped : (ts : List Term) → AllByRecursion (λ t. occurs_in_term k t ≡ false) ts → AllByRecursion (λ t. image wiped t ≡ wipe k n (image s t)) ts
    each_wiped [] h = tt
    each_wiped (t ∷ ts) h = (wiped_image t h.0, each_wiped ts h.1)

    -- equal instances stay equal
    wiped_same : (one other : Term) → IsInNeither k one other ⊎ IsNotBelow k one other → image s one ≡ image s other → image wiped one ≡ image wiped other
    wiped_same one other (inl h) e = wiped_image one h.0 ∙ ap (wipe k n) e ∙ sym (wiped_image other h.1)
    wiped_same one other (inr h) e =
        let both : App h.head (map (image s) h.args) ≡ App h.other_head (map (image s) h.other_args) =
        sym (image-App s h.head h.args) ∙ ap (image s) (sym h.is) ∙ e ∙ ap (image s) h.other_is ∙ image-App s h.other_head h.other_args in
        let below : map (image s) h.args ≡ map (image s) h.other_args = same_args h.head h.other_head (map (image s) h.args) (map (image s) h.other_args) both in
        let first = mapped h.args (each_wiped h.args (recursion_from_All (λ t. occurs_in_term k t ≡ false) h.args h.absent)) in
        let second = mapped h.other_args (each_wiped h.other_args (recursion_from_All (λ t. occurs_in_term k t ≡ false) h.other_args h.other_absent)) in
        let args : map (image wiped) h.args ≡ map (image wiped) h.other_args = first ∙ ap (map (wipe k n)) below ∙ sym second in
        ap (image wiped) h.is ∙ image-App wiped h.head h.args ∙ ap (App h.head) args ∙ ap (λ f. App f (map (image wiped) h.other_args)) (same_head h.head h.other_head (map (image s) h.args) (map (image s) h.other_args) both)
        ∙ sym (image-App wiped h.other_head h.other_args) ∙ ap (image wiped) (sym h.other_is)

-- a wiped term has the sort of the term, over one variable more
module _ (v : Vocabulary) (k : ℕ) (to : List ℕ) where
  abbrev result : ℕ
  result = result_of (slice_get v.symbols k)

  abbrev wide : List ℕ
  wide = to ++ result ∷ []

  wiped_sorted : (t : Term) (r : ℕ) → sort_of_term v to t ≡ Some r → sort_of_term v wide (wipe k (length to) t) ≡ Some r
  wiped_sorted = term_induction _ (record {
    var = λ j r e. ap (sort_of_term v wide) (wipe-Var k (length to) j) ∙ sort_of_term-Var v wide j ∙ get_in_front to (result ∷ []) j r (sym (sort_of_term-Var v to j) ∙ e);
    app = λ f ts all r e.
        let old : applied (slice_get v.symbols f) (map (sort_of_term v to) ts) ≡ Some r = sym (sort_of_term-App v to f ts) ∙ e in
        elim (either (f == k)) [
          | inl same ↦
              ap (sort_of_term v wide) (wiped_app k (length to) f ts same) ∙ sort_of_term-Var v wide (length to) ∙ get_pushed to (length to) result refl
              ∙ ap Some (ap (λ (x : ℕ). result_of (slice_get v.symbols x)) (sym (eqb-true f k same)) ∙ applied_result (slice_get v.symbols f) (map (sort_of_term v to) ts) r old)
          | inr other ↦
              let each = applied_found (sort_of_term v to) ts (slice_get v.symbols f) r old in
              ap (sort_of_term v wide) (other_app k (length to) f ts other) ∙ sort_of_term-App v wide f (map (wipe k (length to)) ts)
              ∙ ap (applied (slice_get v.symbols f)) (map-map (sort_of_term v wide) (wipe k (length to)) ts ∙ kept_answers (sort_of_term v to) (λ t. sort_of_term v wide (wipe k (length to) t)) ts all each) ∙ old
        ];
  })

-- the images of a most general unifier lack what its terms lack
pub unifier_lacks : (v : Vocabulary) (scope : List ℕ) (f : Draft) (mid : List ℕ) (s : ℕ → Term) → IsMostGeneral v scope f mid s → (k : ℕ) → IsInNeither k f.one f.other ⊎ IsNotBelow k f.one f.other
    → (x q : ℕ) → slice_get scope x ≡ Some q → occurs_in_term k (s x) ≡ false
unifier_lacks v scope f mid s most k pair x q at =
    let r : ℕ → Term = λ y. wipe k (length mid) (s y) in
    let images : IsImages v scope (wide v k mid) r = record { sorted = λ y p e. wiped_sorted v k mid (s y) p (most.images.sorted y p e) } in
    let g = most.general (wide v k mid) r images (wiped_same k (length mid) s f.one f.other pair most.unified) in
    lacks_before k g.0 (s x) (ap (occurs_in_term k) (sym (g.2 x q at)) ∙ wiped_lacks k (length mid) (s x))
