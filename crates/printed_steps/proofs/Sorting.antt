-- A clause as it is printed is closed and well-sorted.
use Rattle.std.specs.Prelude.{ℕ, ◌≡◌, ◌+◌, ◌<◌, ◌≤◌, ◌||◌, ◌&&◌, suc, Bool, true, false, if◌then◌else◌, List, [], ◌∷◌, ◌++◌, length, map, reverse, Option, Some, slice_get, refl}
use Rattle.std.specs.List.{AllByRecursion, list_all, list_any}
use Rattle.std.proofs.Common.{ap, sym, subst, ◌∙◌, arith, append_assoc, append-nil, eq-eqb}
use Rattle.std.proofs.lemmas.Bool.{lt-ltb}
use Rattle.std.proofs.lemmas.Simd.{map-map}
use Rattle.std.proofs.lemmas.List.Elements.{recursion_from_All}
use Rattle.fof_terms.specs.declared.signature.Symbol.{Symbol}
use Rattle.fof_terms.specs.declared.signature.Kind.{Kind}
use Rattle.fof_terms.specs.declared.term.Term.{Term, Var, App}
use Rattle.fof_terms.specs.Lift.{greatest}
use Rattle.fof_terms.specs.Occurs.{occurs_in_term}
use Rattle.fof_terms.specs.Sorts.{applied, are_sorts, binder_depth, holds_of, is_sorted, one_sort, sort_of_term, stated_by}
use Rattle.fof_terms.specs.Variables.{has_in_term}
use Rattle.fof_terms.specs.Vocabulary.{Vocabulary}
use Rattle.fof_terms.proofs.Induction.{term_induction}
use Rattle.fof_terms.proofs.LiftingLaws.{applied_found, holds_found, one_found}
use Rattle.fof_terms.proofs.SortsFacts.{sort_of_term-Var, sort_of_term-App, is_sorted-Atom, is_sorted-Eq, is_sorted-Not, is_sorted-And, is_sorted-Or, is_sorted-All, binder_depth-Atom, binder_depth-Eq, binder_depth-Not, binder_depth-And, binder_depth-Or, binder_depth-All}
use Rattle.fof_terms.proofs.VariablesFacts.{has_in_term-Var, has_in_term-App}
use Rattle.clause_form.specs.declared.clause.AtomOf.{AtomOf}
use Rattle.clause_form.specs.declared.clause.AtomOf.TheVariants.{Pred, Eq as Equation, True, False}
use Rattle.clause_form.specs.declared.clause.Lit.{Lit}
use Rattle.clause_form.specs.declared.clause.Clause.{Clause}
use Rattle.clause_form.specs.ClauseView.{closed_by, form_of_atom, form_of_lit, form_of_lits}
use Rattle.clause_form.specs.Covers.{at_terms, in_lit, is_sorted_atom, scope_of, AreSorted}
use Rattle.clause_form.specs.Norm.{signed}
use Rattle.clause_form.proofs.ImagesFacts.{kept_answers}
use Rattle.clause_rules.specs.Places.{args_of_atom}
use Rattle.clause_rules.specs.Steps.{IsReady}
use Rattle.clause_rules.proofs.ListPlaces.{reverse_cons}
use Rattle.unify_terms.specs.Substitution.{image_at, instance}
use Rattle.unify_terms.proofs.SubstitutionFacts.{applied-Var, applied-App}
use Rattle.superpose.specs.Drafts.{SortsExist}
use Rattle.printed_clauses.specs.Renumbered.{renumbered, renumbered_clause}
use Rattle.printed_clauses.specs.Trimmed.{count_below, kept_sorts, occurs_in, trimmed}
use Rattle.printed_clauses.proofs.RenumberedFacts.{renumbered-Var, renumbered-App}
use Rattle.printed_steps.specs.Carried.{AreCarried, HasItsVariables, IsCarried, KeepsPredicates, is_headed_by}
use Rattle.printed_steps.specs.Printed.{IsPrintable, printed, printed_clause}
use Rattle.printed_steps.proofs.Carrying.{same_applied}
use Rattle.printed_steps.proofs.Kept.{sort_kept}
use Rattle.printed_steps.proofs.Owning.{renumbered_own, sorted_own}
use Rattle.printed_steps.proofs.Terms.{args_good, each_good, first_good, first_lit, head_good, or_true, rest_good, rest_lits, AreGood, AreGoodLits, IsGood}
use Rattle.printed_steps.proofs.Trimming.{all_occur, number_at, numbers}

apply_each : {X : Type 0} (P Q : X → Type 0) (xs : List X) → AllByRecursion (λ x. P x → Q x) xs → AllByRecursion P xs → AllByRecursion Q xs
apply_each P Q [] f h = tt
apply_each P Q (x ∷ xs) f h = (f.0 h.0, apply_each P Q xs f.1 h.1)

-- sides whose sorts are kept agree as before
sides_kept : (l r l' r' : Option ℕ) → ((s : ℕ) → l ≡ Some s → l' ≡ Some s) → ((s : ℕ) → r ≡ Some s → r' ≡ Some s) → ((s : ℕ) × (l ≡ Some s)) → ((s : ℕ) × (r ≡ Some s)) → one_sort l r ≡ true → one_sort l' r' ≡ true
sides_kept l r l' r' hl hr fl fr e = rw (hl fl.0 fl.1, hr fr.0 fr.1) (rw (fl.1, fr.1) at e)

-- A change of good terms that keeps their sorts.
module _ (v w : Vocabulary) (from to : List ℕ) (f : Term → Term) (test : ℕ → Term → Bool) (Allowed : ℕ → Type 0)
    (keeps : (t : Term) → IsGood test Allowed t → (r : ℕ) → sort_of_term v from t ≡ Some r → sort_of_term w to (f t) ≡ Some r) where
  each_keeps : (ts : List Term) → AreGood test Allowed ts → AllByRecursion (λ t. (r : ℕ) → sort_of_term v from t ≡ Some r → sort_of_term w to (f t) ≡ Some r) ts
  each_keeps [] h = tt
  each_keeps (t ∷ ts) h = (keeps t (first_good test Allowed t ts h), each_keeps ts (rest_good test Allowed t ts h))

  -- the predicates hold of the same sorts
  abbrev Holds : ℕ → Type 0
  Holds p = (found : List (Option ℕ)) → holds_of (slice_get v.symbols p) found ≡ true → holds_of (slice_get w.symbols p) found ≡ true

  atom_kept : (a : AtomOf) → ((p : ℕ) → is_headed_by p a ≡ true → Holds p) → AreGood test Allowed (args_of_atom a) → is_sorted_atom v from a ≡ true → is_sorted_atom w to (at_terms f a) ≡ true
  atom_kept (Pred p ts) heads good e =
      let found = holds_found (sort_of_term v from) ts (slice_get v.symbols p) e in
      let same = kept_answers (sort_of_term v from) (λ t. sort_of_term w to (f t)) ts (each_keeps ts good) found in
      ap (holds_of (slice_get w.symbols p)) (map-map (sort_of_term w to) f ts ∙ same) ∙ heads p (eq-eqb p p refl) (map (sort_of_term v from) ts) e
  atom_kept (Equation l r) heads good e =
      let sides = one_found (sort_of_term v from l) (sort_of_term v from r) e in
      sides_kept (sort_of_term v from l) (sort_of_term v from r) (sort_of_term w to (f l)) (sort_of_term w to (f r))
      (keeps l (first_good test Allowed l (r ∷ []) good)) (keeps r (first_good test Allowed r [] (rest_good test Allowed l (r ∷ []) good))) sides.0 sides.1 e
  atom_kept True heads good e = refl
  atom_kept False heads good e = refl

  lits_kept : (lits : List Lit) → ((p : ℕ) → list_any (λ (l : Lit). is_headed_by p l.atom) lits ≡ true → Holds p) → AreGoodLits test Allowed lits
      → AllByRecursion (λ (l : Lit). is_sorted_atom v from l.atom ≡ true) lits → AllByRecursion (λ (l : Lit). is_sorted_atom w to l.atom ≡ true) (map (in_lit f) lits)
  lits_kept [] heads good h = tt
  lits_kept (l ∷ lits) heads good h = (
    atom_kept l.atom (λ p e. heads p (ap (λ (b : Bool). b || list_any (λ (m : Lit). is_headed_by p m.atom) lits) e)) (first_lit test Allowed l lits good) h.0,
    lits_kept lits (λ p e. heads p (ap (λ (b : Bool). is_headed_by p l.atom || b) e ∙ or_true (is_headed_by p l.atom))) (rest_lits test Allowed l lits good) h.1,
  )

-- other numbers
module _ (v w : Vocabulary) (number : ℕ → ℕ) (scope : List ℕ) where
  abbrev Allows : ℕ → Type 0
  Allows f = IsCarried v w f (number f)

  abbrev Keeps : Term → Type 0
  Keeps t = (r : ℕ) → sort_of_term v scope t ≡ Some r → sort_of_term w scope (renumbered number t) ≡ Some r

  renumbered_sort : (t : Term) → IsGood occurs_in_term Allows t → Keeps t
  renumbered_sort = term_induction (λ t. IsGood occurs_in_term Allows t → Keeps t) (record {
    var = λ k h r e. ap (sort_of_term w scope) (renumbered-Var number k) ∙ sort_of_term-Var w scope k ∙ sym (sort_of_term-Var v scope k) ∙ e;
    app = λ f ts all h r e.
        let old : applied (slice_get v.symbols f) (map (sort_of_term v scope) ts) ≡ Some r = sym (sort_of_term-App v scope f ts) ∙ e in
        let found = applied_found (sort_of_term v scope) ts (slice_get v.symbols f) r old in
        let same = kept_answers (sort_of_term v scope) (λ t. sort_of_term w scope (renumbered number t)) ts (apply_each (IsGood occurs_in_term Allows) Keeps ts all (args_good Allows f ts h)) found in
        let c = head_good Allows f ts h in
        ap (sort_of_term w scope) (renumbered-App number f ts) ∙ sort_of_term-App w scope (number f) (map (renumbered number) ts)
        ∙ ap (applied (slice_get w.symbols (number f))) (map-map (sort_of_term w scope) (renumbered number) ts ∙ same)
        ∙ ap (λ (o : Option Symbol). applied o (map (sort_of_term v scope) ts)) c.new_there ∙ same_applied c.old c.new (map (sort_of_term v scope) ts) c.kind c.args c.result
        ∙ ap (λ (o : Option Symbol). applied o (map (sort_of_term v scope) ts)) (sym c.there) ∙ old;
  })

same_holds : (s t : Symbol) (found : List (Option ℕ)) → s.kind ≡ t.kind → s.args ≡ t.args → holds_of (Some t) found ≡ holds_of (Some s) found
same_holds s t found kind args = ap (λ (k : Kind). stated_by k (are_sorts found t.args)) (sym kind) ∙ ap (λ (a : List ℕ). stated_by s.kind (are_sorts found a)) (sym args)

carried_holds : (v w : Vocabulary) (p : ℕ) → IsCarried v w p p → (found : List (Option ℕ)) → holds_of (slice_get v.symbols p) found ≡ true → holds_of (slice_get w.symbols p) found ≡ true
carried_holds v w p c found e =
    ap (λ (o : Option Symbol). holds_of o found) c.new_there ∙ same_holds c.old c.new found c.kind c.args ∙ ap (λ (o : Option Symbol). holds_of o found) (sym c.there) ∙ e

-- fewer sorts
module _ (w : Vocabulary) (c : Clause) (own : HasItsVariables c) where
  abbrev Present : ℕ → Type 0
  Present k = occurs_in c.lits k ≡ true

  abbrev Fits : Term → Type 0
  Fits t = (r : ℕ) → sort_of_term w (scope_of c) t ≡ Some r → sort_of_term w (scope_of (trimmed c)) (instance (numbers c) t) ≡ Some r

  trimmed_sort : (t : Term) → IsGood has_in_term Present t → Fits t
  trimmed_sort = term_induction (λ t. IsGood has_in_term Present t → Fits t) (record {
    var = at_var;
    app = at_app;
  }) where
    at_var : (k : ℕ) → IsGood has_in_term Present (Var k) → Fits (Var k)
    at_var k h r e =
        let there : Present k = h k (has_in_term-Var k k ∙ eq-eqb k k refl) in
        let number : ℕ = count_below (occurs_in c.lits) k in
        ap (sort_of_term w (scope_of (trimmed c))) (applied-Var (image_at (numbers c)) k ∙ number_at c own k there) ∙ sort_of_term-Var w (scope_of (trimmed c)) number
        ∙ sort_kept (occurs_in c.lits) c.sorts k r there (sym (sort_of_term-Var w (scope_of c) k) ∙ e)

    at_app : (f : ℕ) (ts : List Term) → AllByRecursion (λ t. IsGood has_in_term Present t → Fits t) ts → IsGood has_in_term Present (App f ts) → Fits (App f ts)
    at_app f ts all h r e =
        let old : applied (slice_get w.symbols f) (map (sort_of_term w (scope_of c)) ts) ≡ Some r = sym (sort_of_term-App w (scope_of c) f ts) ∙ e in
        let found = applied_found (sort_of_term w (scope_of c)) ts (slice_get w.symbols f) r old in
        let good = each_good has_in_term Present ts (λ k at. h k (has_in_term-App k f ts ∙ at)) in
        let same = kept_answers (sort_of_term w (scope_of c)) (λ t. sort_of_term w (scope_of (trimmed c)) (instance (numbers c) t)) ts (apply_each (IsGood has_in_term Present) Fits ts all good) found in
        ap (sort_of_term w (scope_of (trimmed c))) (applied-App (image_at (numbers c)) f ts) ∙ sort_of_term-App w (scope_of (trimmed c)) f (map (instance (numbers c)) ts)
        ∙ ap (applied (slice_get w.symbols f)) (map-map (sort_of_term w (scope_of (trimmed c))) (instance (numbers c)) ts ∙ same) ∙ old

-- the formula of a clause
atom_sorted : (w : Vocabulary) (scope : List ℕ) (a : AtomOf) → is_sorted w scope (form_of_atom a) ≡ is_sorted_atom w scope a
atom_sorted w scope (Pred p ts) = is_sorted-Atom w scope p ts
atom_sorted w scope (Equation l r) = is_sorted-Eq w scope l r
atom_sorted w scope True = is_sorted-And w scope []
atom_sorted w scope False = is_sorted-Or w scope []

lit_sorted : (w : Vocabulary) (scope : List ℕ) (g : Bool) (a : AtomOf) → is_sorted w scope (signed g (form_of_atom a)) ≡ is_sorted_atom w scope a
lit_sorted w scope true a = atom_sorted w scope a
lit_sorted w scope false a = is_sorted-Not w scope (form_of_atom a) ∙ atom_sorted w scope a

module _ (w : Vocabulary) where
  abbrev AllFit : List ℕ → List Lit → Type 0
  AllFit scope lits = AllByRecursion (λ (l : Lit). is_sorted_atom w scope l.atom ≡ true) lits

  lits_sorted : (scope : List ℕ) (lits : List Lit) → AllFit scope lits → list_all (is_sorted w scope) (map form_of_lit lits) ≡ true
  lits_sorted scope [] h = refl
  lits_sorted scope (l ∷ lits) h = rw (lit_sorted w scope l.positive l.atom, h.0, lits_sorted scope lits h.1) refl

  body_sorted : (scope : List ℕ) (lits : List Lit) → AllFit scope lits → is_sorted w scope (form_of_lits lits) ≡ true
  body_sorted scope [] h = is_sorted-Or w scope []
  body_sorted scope (l ∷ []) h = lit_sorted w scope l.positive l.atom ∙ h.0
  body_sorted scope (l ∷ k ∷ lits) h = is_sorted-Or w scope (map form_of_lit (l ∷ k ∷ lits)) ∙ lits_sorted scope (l ∷ k ∷ lits) h

  closed_sorted : (sorts : List ℕ) (lits : List Lit) (scope : List ℕ) → AllByRecursion (λ s. s < length w.sorts) sorts → AllFit (reverse sorts ++ scope) lits → is_sorted w scope (closed_by sorts (form_of_lits lits)) ≡ true
  closed_sorted [] lits scope exist h = body_sorted scope lits h
  closed_sorted (s ∷ sorts) lits scope exist h =
      let moved : reverse (s ∷ sorts) ++ scope ≡ reverse sorts ++ s ∷ scope = ap (λ (xs : List ℕ). xs ++ scope) (reverse_cons s sorts) ∙ append_assoc (reverse sorts) (s ∷ []) scope in
      let inner = closed_sorted sorts lits (s ∷ scope) exist.1 (subst (λ (xs : List ℕ). AllFit xs lits) moved h) in
      is_sorted-All w scope s (closed_by sorts (form_of_lits lits)) ∙ ap (λ (b : Bool). b && is_sorted w (s ∷ scope) (closed_by sorts (form_of_lits lits))) (lt-ltb s (length w.sorts) exist.0) ∙ inner

atom_depth : (a : AtomOf) → binder_depth (form_of_atom a) ≡ 0
atom_depth (Pred p ts) = binder_depth-Atom p ts
atom_depth (Equation l r) = binder_depth-Eq l r
atom_depth True = binder_depth-And []
atom_depth False = binder_depth-Or []

lit_depth : (g : Bool) (a : AtomOf) → binder_depth (signed g (form_of_atom a)) ≡ 0
lit_depth true a = atom_depth a
lit_depth false a = binder_depth-Not (form_of_atom a) ∙ atom_depth a

lits_depth : (lits : List Lit) → greatest (map binder_depth (map form_of_lit lits)) ≡ 0
lits_depth [] = refl
lits_depth (l ∷ lits) = rw (lit_depth l.positive l.atom, lits_depth lits) refl

body_depth : (lits : List Lit) → binder_depth (form_of_lits lits) ≡ 0
body_depth [] = binder_depth-Or []
body_depth (l ∷ []) = lit_depth l.positive l.atom
body_depth (l ∷ k ∷ lits) = binder_depth-Or (map form_of_lit (l ∷ k ∷ lits)) ∙ lits_depth (l ∷ k ∷ lits)

closed_depth : (sorts : List ℕ) (lits : List Lit) → binder_depth (closed_by sorts (form_of_lits lits)) ≡ length sorts
closed_depth [] lits = body_depth lits
closed_depth (s ∷ sorts) lits = binder_depth-All s (closed_by sorts (form_of_lits lits)) ∙ ap (λ n. n + 1) (closed_depth sorts lits) ∙ more (length sorts) where
  more : (n : ℕ) → n + 1 ≡ suc n
  more n = omega arith

-- the sorts that are kept
kept_exist : (occurs : ℕ → Bool) (P : ℕ → Type 0) (sorts : List ℕ) → AllByRecursion P sorts → AllByRecursion P (kept_sorts occurs sorts)
kept_exist occurs P [] h = tt
kept_exist occurs P (s ∷ inner) h = go (occurs (length inner)) (kept_exist occurs P inner h.1) where
  go : (b : Bool) → AllByRecursion P (kept_sorts occurs inner) → AllByRecursion P (if b then s ∷ kept_sorts occurs inner else kept_sorts occurs inner)
  go true rest = (h.0, rest)
  go false rest = rest

kept_fewer : (occurs : ℕ → Bool) (sorts : List ℕ) → length (kept_sorts occurs sorts) ≤ length sorts
kept_fewer occurs [] = omega arith
kept_fewer occurs (s ∷ inner) = go (occurs (length inner)) (kept_fewer occurs inner) where
  go : (b : Bool) → length (kept_sorts occurs inner) ≤ length inner → length (if b then s ∷ kept_sorts occurs inner else kept_sorts occurs inner) ≤ suc (length inner)
  go true h = omega arith
  go false h = omega arith

-- it is well-sorted, however many sorts the clause has
pub printed_fits : (v w : Vocabulary) (number : ℕ → ℕ) (c : Clause) → AreSorted v (scope_of c) c.lits → AreCarried v w number c → KeepsPredicates v w c → SortsExist w c.sorts → is_sorted w [] (printed number c) ≡ true
printed_fits v w number c sorted functions predicates exist =
    let d : Clause = renumbered_clause number c in
    let own = renumbered_own number c (sorted_own v c sorted) in
    let old = recursion_from_All (λ (l : Lit). is_sorted_atom v (scope_of c) l.atom ≡ true) c.lits sorted.fits in
    let carried = lits_kept v w (scope_of c) (scope_of c) (renumbered number) occurs_in_term (λ f. IsCarried v w f (number f)) (renumbered_sort v w number (scope_of c)) c.lits (λ p e. carried_holds v w p (predicates p e)) functions old in
    let kept = lits_kept w w (scope_of d) (scope_of (trimmed d)) (instance (numbers d)) has_in_term (λ k. occurs_in d.lits k ≡ true) (trimmed_sort w d own) d.lits (λ p e found g. g) (all_occur d) carried in
    let sorts = kept_exist (occurs_in d.lits) (λ s. s < length w.sorts) c.sorts (recursion_from_All (λ s. s < length w.sorts) c.sorts exist) in
    closed_sorted w (printed_clause number c).sorts (printed_clause number c).lits [] sorts
    (subst (λ (xs : List ℕ). AllByRecursion (λ (l : Lit). is_sorted_atom w xs l.atom ≡ true) (printed_clause number c).lits) (sym (append-nil (scope_of (trimmed d)))) kept)

pub printed_ready : (v w : Vocabulary) (number : ℕ → ℕ) (c : Clause) → IsPrintable v w number c → KeepsPredicates v w c → SortsExist w c.sorts → length c.sorts ≤ 1000000000 → IsReady w (printed number c)
printed_ready v w number c h predicates exist few =
    let d : Clause = renumbered_clause number c in
    let fewer = kept_fewer (occurs_in d.lits) c.sorts in
    let depth = closed_depth (printed_clause number c).sorts (printed_clause number c).lits in
    record {
      scope_fits = record { few_variables = omega arith; sorts_exist = tt };
      few_binders = omega (arith, depth, fewer, few);
      fits = printed_fits v w number c h.sorted h.carried predicates exist;
    }
