-- Lemmas on what specs/SortLaws defines.
use Rattle.std.specs.Prelude.{ℕ, ◌<◌, ◌≤◌, nat_lt, List, [], ◌∷◌, ◌++◌, ◌≡◌, map, refl, true, Option, Some, None, slice_get, length}
use Rattle.std.specs.List.{AllByRecursion, list_all}
use Rattle.std.proofs.Common.{arith, zero, suc}
use Rattle.fof_terms.specs.declared.term.Term.{Term}
use Rattle.fof_terms.specs.declared.form.Form.{Form}
use Rattle.std.proofs.lemmas.List.{length-append}
use Rattle.std.proofs.lemmas.Bool.Decides.{nat_tests}
use Rattle.fof_terms.specs.Vocabulary.{Vocabulary}
use Rattle.fof_terms.specs.declared.signature.Symbol.{Symbol}
use Rattle.fof_terms.specs.Sorts.{SortedTo, applied, holds_of, one_sort, sort_of_term, is_sorted}
use Rattle.fof_terms.proofs.SortsFacts.{sort_of_term-Var, sort_of_term-App, is_sorted-Atom, is_sorted-Eq, is_sorted-Not, is_sorted-And, is_sorted-Or, is_sorted-Imp, is_sorted-Iff, is_sorted-All, is_sorted-Ex}
use Rattle.fof_terms.proofs.Induction.{term_induction, form_induction}
use Rattle.fof_terms.proofs.LiftingLaws.{both, applied_found, holds_found}
use Rattle.fof_terms.specs.SortLaws.{Grows}

-- a place before what comes behind
in_front : {X : Type 0} (xs ys : List X) (k : ℕ) (x : X) → slice_get xs k ≡ Some x → slice_get (xs ++ ys) k ≡ Some x
in_front [] ys k x e = cc
in_front (y ∷ xs) ys zero x e = e
in_front (y ∷ xs) ys (suc k) x e = in_front xs ys k x e

-- answers that are found stay the same
kept_answers : {X : Type 0} (f g : X → Option ℕ) (xs : List X) → AllByRecursion (λ x. (s : ℕ) → f x ≡ Some s → g x ≡ Some s) xs → AllByRecursion (λ x. (s : ℕ) × (f x ≡ Some s)) xs
    → map g xs ≡ map f xs
kept_answers f g [] e h = refl
kept_answers f g (x ∷ xs) e h = rw (e.0 h.0.0 h.0.1, h.0.1, kept_answers f g xs e.1 h.1) refl

-- sides whose sorts are kept agree as before
one_sort_kept : (l r l' r' : Option ℕ) → ((s : ℕ) → l ≡ Some s → l' ≡ Some s) → ((s : ℕ) → r ≡ Some s → r' ≡ Some s) → one_sort l r ≡ true → one_sort l' r' ≡ true
one_sort_kept l None l' r' hl hr e = cc
one_sort_kept None (Some y) l' r' hl hr e = cc
one_sort_kept (Some x) (Some y) l' r' hl hr e = rw (hl x refl, hr y refl) e

of_each : {X : Type 0} (P : X → Type 0) (xs : List X) → ((x : X) → P x) → AllByRecursion P xs
of_each P [] h = tt
of_each P (x ∷ xs) h = (h x, of_each P xs h)

applied_known : (r : Option Symbol) (found : List (Option ℕ)) (s : ℕ) → applied r found ≡ Some s → (symbol : Symbol) × (r ≡ Some symbol)
applied_known None found s e = cc
applied_known (Some symbol) found s e = (symbol, refl)

holds_known : (r : Option Symbol) (found : List (Option ℕ)) → holds_of r found ≡ true → (symbol : Symbol) × (r ≡ Some symbol)
holds_known None found e = cc
holds_known (Some symbol) found e = (symbol, refl)

still_less : (a b c : ℕ) → b ≤ c → nat_lt a b ≡ true → nat_lt a c ≡ true
still_less a b c le e = grind (arith, nat_tests)

module _ (v w : Vocabulary) (g : Grows v w) where
  grown_term : (scope : List ℕ) (t : Term) (s : ℕ) → sort_of_term v scope t ≡ Some s → sort_of_term w scope t ≡ Some s
  grown_term scope = term_induction _ (record {
    var = λ k s e. rw sort_of_term-Var (rw sort_of_term-Var at e);
    app = λ f ts all s e.
        let old : applied (slice_get v.symbols f) (map (sort_of_term v scope) ts) ≡ Some s = rw sort_of_term-App at e in
        let each = applied_found (sort_of_term v scope) ts (slice_get v.symbols f) s old in
        let same = kept_answers (sort_of_term v scope) (sort_of_term w scope) ts all each in
        let symbol = applied_known (slice_get v.symbols f) (map (sort_of_term v scope) ts) s old in
        rw (sort_of_term-App, same, g.same_symbols f symbol.0 symbol.1) (rw symbol.1 at old);
  })

  abbrev Grown : Form → Type 0
  Grown a = (scope : List ℕ) → is_sorted v scope a ≡ true → is_sorted w scope a ≡ true

  all_grown : (scope : List ℕ) (as_ : List Form) → AllByRecursion Grown as_ → list_all (is_sorted v scope) as_ ≡ true → list_all (is_sorted w scope) as_ ≡ true
  all_grown scope [] all e = refl
  all_grown scope (a ∷ as_) all e =
      let parts = both (is_sorted v scope a) (list_all (is_sorted v scope) as_) e in
      rw (all.0 scope parts.0, all_grown scope as_ all.1 parts.1) refl

  -- what is well-sorted stays so
  pub grown_fits : (a : Form) → Grown a
  grown_fits = form_induction _ (record {
    atom = λ p ts scope e.
        let old : holds_of (slice_get v.symbols p) (map (sort_of_term v scope) ts) ≡ true = rw is_sorted-Atom at e in
        let each = holds_found (sort_of_term v scope) ts (slice_get v.symbols p) old in
        let same = kept_answers (sort_of_term v scope) (sort_of_term w scope) ts (of_each (λ t. (s : ℕ) → sort_of_term v scope t ≡ Some s → sort_of_term w scope t ≡ Some s) ts (grown_term scope)) each in
        let symbol = holds_known (slice_get v.symbols p) (map (sort_of_term v scope) ts) old in
        rw (is_sorted-Atom, same, g.same_symbols p symbol.0 symbol.1) (rw symbol.1 at old);
    eq = λ l r scope e.
        let old : one_sort (sort_of_term v scope l) (sort_of_term v scope r) ≡ true = rw is_sorted-Eq at e in
        rw is_sorted-Eq (one_sort_kept _ _ _ _ (grown_term scope l) (grown_term scope r) old);
    not = λ a ih scope e. rw is_sorted-Not (ih scope (rw is_sorted-Not at e));
    and = λ as_ all scope e. rw is_sorted-And (all_grown scope as_ all (rw is_sorted-And at e));
    or = λ as_ all scope e. rw is_sorted-Or (all_grown scope as_ all (rw is_sorted-Or at e));
    imp = λ a b ih jh scope e.
        let parts = both (is_sorted v scope a) (is_sorted v scope b) (rw is_sorted-Imp at e) in
        rw (is_sorted-Imp, ih scope parts.0, jh scope parts.1) refl;
    iff = λ a b ih jh scope e.
        let parts = both (is_sorted v scope a) (is_sorted v scope b) (rw is_sorted-Iff at e) in
        rw (is_sorted-Iff, ih scope parts.0, jh scope parts.1) refl;
    all = λ s a ih scope e.
        let parts = both (nat_lt s (length v.sorts)) (is_sorted v (s ∷ scope) a) (rw is_sorted-All at e) in
        rw (is_sorted-All, still_less s (length v.sorts) (length w.sorts) g.more_sorts parts.0) (ih (s ∷ scope) parts.1);
    ex = λ s a ih scope e.
        let parts = both (nat_lt s (length v.sorts)) (is_sorted v (s ∷ scope) a) (rw is_sorted-Ex at e) in
        rw (is_sorted-Ex, still_less s (length v.sorts) (length w.sorts) g.more_sorts parts.0) (ih (s ∷ scope) parts.1);
  })

  sorts_stay : (scope : List ℕ) → AllByRecursion (λ s. s < length v.sorts) scope → AllByRecursion (λ s. s < length w.sorts) scope
  sorts_stay [] all = tt
  sorts_stay (s ∷ scope) all = (omega (arith, all.0, g.more_sorts), sorts_stay scope all.1)

  pub grown_sorted : (n : ℕ) (scope : List ℕ) (a : Form) → SortedTo n v scope a → SortedTo n w scope a
  grown_sorted n scope a r = record {
    scope_fits = record { few_variables = r.scope_fits.few_variables; sorts_exist = sorts_stay scope r.scope_fits.sorts_exist };
    few_binders = r.few_binders;
    fits = grown_fits a scope r.fits;
  }

-- one sort more, and one symbol more
pub more_sorts_grow : (v : Vocabulary) (name : List ℕ) → Grows v (record v { sorts = v.sorts ++ name ∷ [] })
more_sorts_grow v name = record { more_sorts = rw length-append (omega arith); same_symbols = λ k s e. e }

pub more_symbols_grow : (v : Vocabulary) (symbol : Symbol) → Grows v (record v { symbols = v.symbols ++ symbol ∷ [] })
more_symbols_grow v symbol = record { more_sorts = omega arith; same_symbols = λ k s e. in_front v.symbols (symbol ∷ []) k s e }
