-- Terms over another vocabulary: functions that are kept have their new numbers, and in place of each other application
-- stands a variable, one for each function.
use Rattle.std.specs.Prelude.{ℕ, ◌≡◌, ◌+◌, Bool, true, false, if◌then◌else◌, List, ◌++◌, length, map, Option, Some, None, slice_get, refl}
use Rattle.std.specs.List.{AllByRecursion}
use Rattle.std.specs.Option.{option_map}
use Rattle.std.proofs.Common.{ap, sym, ◌∙◌}
use Rattle.std.proofs.lemmas.Simd.{map-map}
use Rattle.std.proofs.lemmas.Option.{slice_get-map}
use Rattle.fof_terms.specs.declared.term.Term.{Term, Var, App}
use Rattle.fof_terms.specs.declared.term.Term.TheFolds.{fold-Term}
use Rattle.fof_terms.specs.declared.signature.Symbol.{Symbol}
use Rattle.fof_terms.specs.declared.signature.Kind.{Kind}
use Rattle.fof_terms.specs.declared.signature.Kind.TheVariants.{Function, Predicate}
use Rattle.fof_terms.specs.Occurs.{occurs_in_term}
use Rattle.fof_terms.specs.Sorts.{are_sorts, made_by, applied, sort_of_term}
use Rattle.fof_terms.specs.Vocabulary.{Vocabulary}
use Rattle.fof_terms.proofs.Induction.{term_induction}
use Rattle.fof_terms.proofs.LiftingLaws.{applied_found}
use Rattle.fof_terms.proofs.SortsFacts.{sort_of_term-Var, sort_of_term-App}
use Rattle.fof_terms.proofs.Trees.{fold-Var, fold-App}
use Rattle.fof_terms.proofs.Walks.{same_terms, staying_term}
use Rattle.clause_form.specs.declared.clause.Lit.{Lit}
use Rattle.clause_form.specs.Covers.{in_lit, lit_image}
use Rattle.clause_form.specs.Images.{image, IsImages}
use Rattle.clause_form.proofs.ImagesFacts.{image-Var, image-App, kept_answers}
use Rattle.clause_rules.proofs.ListPlaces.{before}
use Rattle.clause_rules.proofs.LitImages.{image_itself, imaging, lits_twice}
use Rattle.printed_clauses.specs.Renumbered.{renumbered}
use Rattle.printed_clauses.proofs.RenumberedFacts.{renumbered-Var, renumbered-App}
use Rattle.printed_steps.specs.Carried.{IsCarried}
use Rattle.printed_steps.proofs.Along.{Keeps}
use Rattle.printed_steps.proofs.ListEnds.{place_after}
use Rattle.printed_steps.proofs.Terms.{agree_where, args_good, head_good, lits_same, IsGood, AreGoodLits}
use Rattle.fof_terms.specs.declared.term.Term.TheOpen as term

abbrev carry_step : (ℕ → ℕ) → (ℕ → Bool) → ℕ → term.Term-F Term → Term
carry_step number kept base (term.Var k) = Var k
carry_step number kept base (term.App f ts) = if kept f then App (number f) ts else Var (f + base)

-- the variables in place of applications stand behind the first so many
unfoldable pub carry : (ℕ → ℕ) → (ℕ → Bool) → ℕ → Term → Term
carry number kept base = fold-Term Term (carry_step number kept base)

-- what a function makes of its arguments has its sort
made_result : (k : Kind) (b : Bool) (x r : ℕ) → made_by k b x ≡ Some r → x ≡ r
made_result Function true x r e = cc
made_result Function false x r e = cc
made_result Predicate true x r e = cc
made_result Predicate false x r e = cc

found_result : (o : Option Symbol) (found : List (Option ℕ)) (r : ℕ) → applied o found ≡ Some r → (s : Symbol) × (o ≡ Some s) × (s.result ≡ r)
found_result None found r e = cc
found_result (Some s) found r e = (s, refl, made_result s.kind (are_sorts found s.args) s.result r e)

pub same_applied : (s t : Symbol) (found : List (Option ℕ)) → s.kind ≡ t.kind → s.args ≡ t.args → s.result ≡ t.result → applied (Some t) found ≡ applied (Some s) found
same_applied s t found kind args result =
    ap (λ (k : Kind). made_by k (are_sorts found t.args) t.result) (sym kind) ∙ ap (λ (a : List ℕ). made_by s.kind (are_sorts found a) t.result) (sym args)
    ∙ ap (made_by s.kind (are_sorts found s.args)) (sym result)

-- the sorts of the results of all symbols
abbrev pub results : Vocabulary → List ℕ
results v = map (λ (s : Symbol). s.result) v.symbols

module _ (number : ℕ → ℕ) (kept : ℕ → Bool) (base : ℕ) where
  abbrev change : Term → Term
  change = carry number kept base

  carry-Var : (k : ℕ) → change (Var k) ≡ Var k
  unfolding carry
  carry-Var k = fold-Var Term (carry_step number kept base) k

  carry-App : (f : ℕ) (ts : List Term) → change (App f ts) ≡ (if kept f then App (number f) (map change ts) else Var (f + base))
  unfolding carry
  carry-App f ts = fold-App Term (carry_step number kept base) f ts

  carry_kept : (f : ℕ) (ts : List Term) → kept f ≡ true → change (App f ts) ≡ App (number f) (map change ts)
  carry_kept f ts is = carry-App f ts ∙ ap (λ (b : Bool). if b then App (number f) (map change ts) else Var (f + base)) is

  carry_other : (f : ℕ) (ts : List Term) → kept f ≡ false → change (App f ts) ≡ Var (f + base)
  carry_other f ts is = carry-App f ts ∙ ap (λ (b : Bool). if b then App (number f) (map change ts) else Var (f + base)) is

  -- only functions that are kept stand in the term
  abbrev pub IsKept : Term → Type 0
  IsKept = IsGood occurs_in_term (λ f. kept f ≡ true)

  abbrev pub AreKept : List Lit → Type 0
  AreKept = AreGoodLits occurs_in_term (λ f. kept f ≡ true)

  pub opened : (f : ℕ) (ts : List Term) → IsKept (App f ts) → Keeps number change f × AllByRecursion IsKept ts
  opened f ts h = (λ us. carry_kept f us (head_good (λ g. kept g ≡ true) f ts h), args_good (λ g. kept g ≡ true) f ts h)

  -- an instance, carried
  module _ (s : ℕ → Term) where
    abbrev pub carried_images : ℕ → Term
    carried_images k = change (s k)

    carry_image : (t : Term) → IsKept t → change (image s t) ≡ image carried_images (renumbered number t)
    carry_image = term_induction (λ t. IsKept t → change (image s t) ≡ image carried_images (renumbered number t)) (record {
      var = λ k h. ap change (image-Var s k) ∙ sym (ap (image carried_images) (renumbered-Var number k) ∙ image-Var carried_images k);
      app = λ f ts all h.
          ap change (image-App s f ts) ∙ carry_kept f (map (image s) ts) (head_good (λ g. kept g ≡ true) f ts h)
          ∙ ap (App (number f)) (map-map change (image s) ts ∙ agree_where IsKept (λ t. change (image s t)) (λ t. image carried_images (renumbered number t)) ts all (args_good (λ g. kept g ≡ true) f ts h) ∙ sym (map-map (image carried_images) (renumbered number) ts))
          ∙ sym (ap (image carried_images) (renumbered-App number f ts) ∙ image-App carried_images (number f) (map (renumbered number) ts));
    })

    pub instances_carried : (lits : List Lit) → AreKept lits → map (lit_image carried_images) (map (in_lit (renumbered number)) lits) ≡ map (in_lit change) (map (lit_image s) lits)
    instances_carried lits h =
        lits_twice (image carried_images) (renumbered number) (λ t. image carried_images (renumbered number t)) (λ t. refl) lits
        ∙ sym (lits_same occurs_in_term (λ f. kept f ≡ true) (λ t. change (image s t)) (λ t. image carried_images (renumbered number t)) carry_image lits h)
        ∙ sym (lits_twice change (image s) (λ t. change (image s t)) (λ t. refl) lits)

  -- without substitution
  stays_var : (t : Term) → image (λ k. change (Var k)) t ≡ t
  stays_var = same_terms (image (λ k. change (Var k))) (λ t. t) (imaging (λ k. change (Var k))) staying_term (λ k. image-Var (λ j. change (Var j)) k ∙ carry-Var k)

  carry_itself : (t : Term) → IsKept t → renumbered number t ≡ change t
  carry_itself t h = sym (ap change (sym (image_itself t)) ∙ carry_image Var t h ∙ stays_var (renumbered number t))

  pub line_carried : (lits : List Lit) → AreKept lits → map (in_lit (renumbered number)) lits ≡ map (in_lit change) lits
  line_carried lits h = lits_same occurs_in_term (λ f. kept f ≡ true) (renumbered number) change carry_itself lits h

  module _ (v w : Vocabulary) (carried : (f : ℕ) → kept f ≡ true → IsCarried v w f (number f)) (to : List ℕ) (size : length to ≡ base) where
    abbrev wide : List ℕ
    wide = to ++ results v

    app_sorted : (b : Bool) (f : ℕ) (ts : List Term) (r : ℕ) → kept f ≡ b → AllByRecursion (λ t. (r : ℕ) → sort_of_term v to t ≡ Some r → sort_of_term w wide (change t) ≡ Some r) ts
        → applied (slice_get v.symbols f) (map (sort_of_term v to) ts) ≡ Some r → sort_of_term w wide (change (App f ts)) ≡ Some r
    app_sorted true f ts r is all old =
        let found : List (Option ℕ) = map (sort_of_term v to) ts in
        let each = applied_found (sort_of_term v to) ts (slice_get v.symbols f) r old in
        let same = kept_answers (sort_of_term v to) (λ t. sort_of_term w wide (change t)) ts all each in
        let c = carried f is in
        ap (sort_of_term w wide) (carry_kept f ts is) ∙ sort_of_term-App w wide (number f) (map change ts)
        ∙ ap (applied (slice_get w.symbols (number f))) (map-map (sort_of_term w wide) change ts ∙ same)
        ∙ ap (λ (o : Option Symbol). applied o found) c.new_there ∙ same_applied c.old c.new found c.kind c.args c.result
        ∙ ap (λ (o : Option Symbol). applied o found) (sym c.there) ∙ old
    app_sorted false f ts r is all old =
        let s = found_result (slice_get v.symbols f) (map (sort_of_term v to) ts) r old in
        ap (sort_of_term w wide) (carry_other f ts is) ∙ sort_of_term-Var w wide (f + base)
        ∙ ap (λ n. slice_get wide (f + n)) (sym size) ∙ place_after to (results v) f
        ∙ slice_get-map (λ (x : Symbol). x.result) v.symbols f ∙ ap (option_map (λ (x : Symbol). x.result)) s.1 ∙ ap Some s.2

    carry_sorted : (t : Term) (r : ℕ) → sort_of_term v to t ≡ Some r → sort_of_term w wide (change t) ≡ Some r
    carry_sorted = term_induction (λ t. (r : ℕ) → sort_of_term v to t ≡ Some r → sort_of_term w wide (change t) ≡ Some r) (record {
      var = λ k r e. ap (sort_of_term w wide) (carry-Var k) ∙ sort_of_term-Var w wide k ∙ before to (results v) k r (sym (sort_of_term-Var v to k) ∙ e);
      app = λ f ts all r e. app_sorted (kept f) f ts r refl all (sym (sort_of_term-App v to f ts) ∙ e);
    })

    pub carried_are_images : (from : List ℕ) (s : ℕ → Term) → IsImages v from to s → IsImages w from wide (carried_images s)
    carried_are_images from s h = record { sorted = λ k r e. carry_sorted (s k) r (h.sorted k r e) }
