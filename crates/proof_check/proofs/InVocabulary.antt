-- A symbol past the vocabulary stands in no formula that is well-sorted.
use Rattle.std.specs.Prelude.{ℕ, ◌≡◌, ◌<◌, ◌≤◌, ◌==◌, ◌&&◌, ◌||◌, Bool, true, false, List, [], ◌∷◌, length, map, slice_get, Option, Some, None, refl}
use Rattle.std.specs.List.{All as Each, AllByRecursion, list_all, list_any}
use Rattle.std.proofs.Common.{zero, suc, arith, get_or}
use Rattle.std.proofs.lemmas.Bool.{ne_eqb}
use Rattle.fof_terms.specs.declared.signature.Kind.{Kind}
use Rattle.fof_terms.specs.declared.signature.Kind.TheVariants.{Function, Predicate}
use Rattle.fof_terms.specs.declared.signature.Symbol.{Symbol}
use Rattle.fof_terms.specs.declared.term.Term.{Term, Var, App}
use Rattle.fof_terms.specs.declared.form.Form.{Form}
use Rattle.fof_terms.specs.Occurs.{occurs_in_term, occurs_in}
use Rattle.fof_terms.specs.Sorts.{is_sort, are_sorts, one_sort, made_by, applied, stated_by, holds_of, sort_of_term, is_sorted, Sorted}
use Rattle.fof_terms.specs.Vocabulary.{Vocabulary}
use Rattle.fof_terms.proofs.Induction.{term_induction, form_induction}
use Rattle.fof_terms.proofs.OccursFacts.{occurs_in_term-Var, occurs_in_term-App, occurs_in-Atom, occurs_in-Eq, occurs_in-Not, occurs_in-And, occurs_in-Or, occurs_in-Imp, occurs_in-Iff, occurs_in-All, occurs_in-Ex}
use Rattle.fof_terms.proofs.SortsFacts.{sort_of_term-App, is_sorted-Atom, is_sorted-Eq, is_sorted-Not, is_sorted-And, is_sorted-Or, is_sorted-Imp, is_sorted-Iff, is_sorted-All, is_sorted-Ex}

within : {X : Type 0} (xs : List X) (f : ℕ) (x : X) → slice_get xs f ≡ Some x → f < length xs
within [] f x e = absurd (cc)
within (y ∷ ys) zero x e = omega arith
within (y ∷ ys) (suc f) x e = let rest = within ys f x e in omega (arith, rest)

left : (a b : Bool) → (a && b) ≡ true → a ≡ true
left true b e = refl
left false b e = cc

right : (a b : Bool) → (a && b) ≡ true → b ≡ true
right true b e = e
right false b e = cc

neither : (a b : Bool) → a ≡ false → b ≡ false → (a || b) ≡ false
neither a b e f = rw (e, f) refl

the_sort : (o : Option ℕ) (s : ℕ) → is_sort o s ≡ true → (r : ℕ) × (o ≡ Some r)
the_sort None s e = absurd (cc)
the_sort (Some r) s e = (r, refl)

both_sorts : (o p : Option ℕ) → one_sort o p ≡ true → ((r : ℕ) × (o ≡ Some r)) × ((r : ℕ) × (p ≡ Some r))
both_sorts o None e = absurd (cc)
both_sorts o (Some s) e = (the_sort o s e, (s, refl))

made_fits : (kind : Kind) (fits : Bool) (result r : ℕ) → made_by kind fits result ≡ Some r → fits ≡ true
made_fits Function true result r e = refl
made_fits Function false result r e = absurd (cc)
made_fits Predicate fits result r e = absurd (cc)

stated_fits : (kind : Kind) (fits : Bool) → stated_by kind fits ≡ true → fits ≡ true
stated_fits Function fits e = absurd (cc)
stated_fits Predicate fits e = e

applied_fits : (o : Option Symbol) (found : List (Option ℕ)) (r : ℕ) → applied o found ≡ Some r → (s : Symbol) × (o ≡ Some s) × (are_sorts found s.args ≡ true)
applied_fits None found r e = absurd (cc)
applied_fits (Some s) found r e = (s, refl, made_fits s.kind (are_sorts found s.args) s.result r e)

holds_fits : (o : Option Symbol) (found : List (Option ℕ)) → holds_of o found ≡ true → (s : Symbol) × (o ≡ Some s) × (are_sorts found s.args ≡ true)
holds_fits None found e = absurd (cc)
holds_fits (Some s) found e = (s, refl, stated_fits s.kind (are_sorts found s.args) e)

module _ (v : Vocabulary) (symbol : ℕ) (past : length v.symbols ≤ symbol) where
  abbrev Lacks : List ℕ → Term → Type 0
  Lacks scope t = (r : ℕ) → sort_of_term v scope t ≡ Some r → occurs_in_term symbol t ≡ false

  other_head : (f : ℕ) (s : Symbol) → slice_get v.symbols f ≡ Some s → (f == symbol) ≡ false
  other_head f s e = let low : f < length v.symbols = within v.symbols f s e in ne_eqb f symbol (λ same. omega (arith, low, past, same))

  none_of_terms : (scope : List ℕ) (ts : List Term) (args : List ℕ) → AllByRecursion (Lacks scope) ts → are_sorts (map (sort_of_term v scope) ts) args ≡ true → list_any (occurs_in_term symbol) ts ≡ false
  none_of_terms scope [] args all e = refl
  none_of_terms scope (t ∷ ts) [] all e = absurd (cc)
  none_of_terms scope (t ∷ ts) (s ∷ args) all e =
      let fit = left (is_sort (sort_of_term v scope t) s) (are_sorts (map (sort_of_term v scope) ts) args) e in
      let fits = right (is_sort (sort_of_term v scope t) s) (are_sorts (map (sort_of_term v scope) ts) args) e in
      let found = the_sort (sort_of_term v scope t) s fit in
      neither (occurs_in_term symbol t) (list_any (occurs_in_term symbol) ts) (all.0 found.0 found.1) (none_of_terms scope ts args all.1 fits)

  lacks : (scope : List ℕ) (t : Term) → Lacks scope t
  lacks scope = term_induction (Lacks scope) (record {
    var = λ k r e. occurs_in_term-Var symbol k;
    app = λ f ts all r e.
        let w = applied_fits (slice_get v.symbols f) (map (sort_of_term v scope) ts) r (rw sort_of_term-App at e) in
        rw occurs_in_term-App (neither (f == symbol) (list_any (occurs_in_term symbol) ts) (other_head f w.0 w.1) (none_of_terms scope ts w.0.args all w.2));
  })

  every : (P : Term → Type 0) (ts : List Term) → ((t : Term) → P t) → AllByRecursion P ts
  every P [] h = tt
  every P (t ∷ ts) h = (h t, every P ts h)

  abbrev Outside : Form → Type 0
  Outside a = (scope : List ℕ) → is_sorted v scope a ≡ true → occurs_in symbol a ≡ false

  none_of_forms : (scope : List ℕ) (as_ : List Form) → AllByRecursion Outside as_ → list_all (is_sorted v scope) as_ ≡ true → list_any (occurs_in symbol) as_ ≡ false
  none_of_forms scope [] all e = refl
  none_of_forms scope (a ∷ as_) all e =
      neither (occurs_in symbol a) (list_any (occurs_in symbol) as_)
      (all.0 scope (left (is_sorted v scope a) (list_all (is_sorted v scope) as_) e))
      (none_of_forms scope as_ all.1 (right (is_sorted v scope a) (list_all (is_sorted v scope) as_) e))

  outside : (a : Form) → Outside a
  outside = form_induction Outside (record {
    atom = λ p ts scope e.
        let w = holds_fits (slice_get v.symbols p) (map (sort_of_term v scope) ts) (rw is_sorted-Atom at e) in
        rw occurs_in-Atom (neither (p == symbol) (list_any (occurs_in_term symbol) ts) (other_head p w.0 w.1) (none_of_terms scope ts w.0.args (every (Lacks scope) ts (lacks scope)) w.2));
    eq = λ l r scope e.
        let w = both_sorts (sort_of_term v scope l) (sort_of_term v scope r) (rw is_sorted-Eq at e) in
        rw occurs_in-Eq (neither (occurs_in_term symbol l) (occurs_in_term symbol r) (lacks scope l w.0.0 w.0.1) (lacks scope r w.1.0 w.1.1));
    not = λ a h scope e. rw occurs_in-Not (h scope (rw is_sorted-Not at e));
    and = λ as_ all scope e. rw occurs_in-And (none_of_forms scope as_ all (rw is_sorted-And at e));
    or = λ as_ all scope e. rw occurs_in-Or (none_of_forms scope as_ all (rw is_sorted-Or at e));
    imp = λ a b h k scope e.
        let w : (is_sorted v scope a && is_sorted v scope b) ≡ true = rw is_sorted-Imp at e in
        rw occurs_in-Imp (neither (occurs_in symbol a) (occurs_in symbol b) (h scope (left (is_sorted v scope a) (is_sorted v scope b) w)) (k scope (right (is_sorted v scope a) (is_sorted v scope b) w)));
    iff = λ a b h k scope e.
        let w : (is_sorted v scope a && is_sorted v scope b) ≡ true = rw is_sorted-Iff at e in
        rw occurs_in-Iff (neither (occurs_in symbol a) (occurs_in symbol b) (h scope (left (is_sorted v scope a) (is_sorted v scope b) w)) (k scope (right (is_sorted v scope a) (is_sorted v scope b) w)));
    all = λ s a h scope e. rw occurs_in-All (h (s ∷ scope) (right _ (is_sorted v (s ∷ scope) a) (rw is_sorted-All at e)));
    ex = λ s a h scope e. rw occurs_in-Ex (h (s ∷ scope) (right _ (is_sorted v (s ∷ scope) a) (rw is_sorted-Ex at e)));
  })

  -- of a closed formula
  pub stays_inside : (a : Form) → Sorted v [] a → occurs_in symbol a ≡ false
  stays_inside a h = outside a [] h.fits

  -- of closed formulas
  pub all_stay_inside : (as_ : List Form) → Each (Sorted v []) as_ → list_any (occurs_in symbol) as_ ≡ false
  all_stay_inside [] all = refl
  all_stay_inside (a ∷ as_) all = neither (occurs_in symbol a) (list_any (occurs_in symbol) as_) (stays_inside a (all zero a (omega arith))) (all_stay_inside as_ (λ k d lt. all (suc k) d (omega arith)))
