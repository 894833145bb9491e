-- What is well-sorted stays so where only symbols that do not stand in it are others, and so does what a proof shows that
-- states none of them.
use Rattle.std.specs.Prelude.{ℕ, ◌≡◌, ◌<◌, false, List, [], ◌∷◌, length, map, Some, slice_get, refl}
use Rattle.std.specs.List.{AllByRecursion, list_all}
use Rattle.std.proofs.Common.{sym, ◌∙◌, subst, suc}
use Rattle.fof_terms.specs.declared.term.Term.{Term}
use Rattle.fof_terms.specs.declared.form.Form.{Form, Eq, Not, And, Or, Imp, Iff, All, Ex}
use Rattle.fof_terms.specs.Vocabulary.{Vocabulary}
use Rattle.fof_terms.specs.Occurs.{occurs_in, occurs_in_term}
use Rattle.fof_terms.specs.Instance.{instance_at}
use Rattle.fof_terms.specs.Sorts.{Sorted, sort_of_term, is_sorted}
use Rattle.fof_terms.proofs.Induction.{term_induction, form_induction}
use Rattle.fof_terms.proofs.SortsFacts.{sort_of_term-Var, sort_of_term-App, is_sorted-Atom, is_sorted-Eq, is_sorted-Not, is_sorted-And, is_sorted-Or, is_sorted-Imp, is_sorted-Iff, is_sorted-All, is_sorted-Ex}
use Rattle.kernel.specs.Statements.{Statements}
use Rattle.kernel.specs.Entries.{IsFresh}
use Rattle.kernel.specs.Proves.{Proves, ProvesAll, ProvesEach, all_over}
use Rattle.kernel.specs.declared.proof.Proof.{Proof, Line, Hyp, AndI', AndE', OrI', OrE', ImpI', ImpE', NotI', NotE', Raa', IffI', IffL', IffR', AllI', AllE', ExI', ExE', Refl, Subst', Inhabit', Row_of-Proof, end_of-Proof, more_of-Proof}
use Rattle.verifier.specs.Citing.{Spares, SparesAll}
use Rattle.entry_symbols.specs.Inside.{States, AllState, Lacks}
use Rattle.entry_symbols.proofs.Free.{IsFreeTerm, IsFree, AreFree, AreFreeTerms, app_head, app_args, atom_head, atom_args, first_term, later_terms, eq_left, eq_right, of_not, of_and, of_or, imp_left, imp_right, iff_left, iff_right, of_all, of_ex, free_eq, free_not, free_falsehood, free_and, free_or, free_imp, free_iff, free_all, free_ex, free_instance, free_before, free_above}

module _ (v w : Vocabulary) (K : ℕ → Type 0) (sorts : length w.sorts ≡ length v.sorts) (same : (k : ℕ) → (K k → ⊥) → slice_get w.symbols k ≡ slice_get v.symbols k) where
  module _ (scope : List ℕ) where
    abbrev TermStays : Term → Type 0
    TermStays t = IsFreeTerm K t → sort_of_term w scope t ≡ sort_of_term v scope t

    all_sorts : (ts : List Term) → AllByRecursion TermStays ts → AreFreeTerms K ts → map (sort_of_term w scope) ts ≡ map (sort_of_term v scope) ts
    all_sorts [] all free = refl
    all_sorts (t ∷ ts) all free = rw (all.0 (first_term K t ts free), all_sorts ts all.1 (later_terms K t ts free)) refl

    pub term_stays : (t : Term) → TermStays t
    term_stays = term_induction TermStays (record {
      var = λ k free. rw (sort_of_term-Var, sort_of_term-Var) refl;
      app = λ f ts all free. rw (sort_of_term-App, sort_of_term-App, same f (app_head K f ts free), all_sorts ts all (app_args K f ts free)) refl;
    })

    terms_stay : (ts : List Term) → AllByRecursion TermStays ts
    terms_stay [] = tt
    terms_stay (t ∷ ts) = (term_stays t, terms_stay ts)

  abbrev FormStays : Form → Type 0
  FormStays a = (scope : List ℕ) → IsFree K a → is_sorted w scope a ≡ is_sorted v scope a

  all_stay : (scope : List ℕ) (as_ : List Form) → AllByRecursion FormStays as_ → AreFree K as_ → list_all (is_sorted w scope) as_ ≡ list_all (is_sorted v scope) as_
  all_stay scope [] all free = refl
  all_stay scope (a ∷ as_) all free = rw (all.0 scope (free 0 a refl), all_stay scope as_ all.1 (λ i. free (suc i))) refl

  pub form_stays : (a : Form) → FormStays a
  form_stays = form_induction FormStays (record {
    atom = λ p ts scope free. rw (is_sorted-Atom, is_sorted-Atom, same p (atom_head K p ts free), all_sorts scope ts (terms_stay scope ts) (atom_args K p ts free)) refl;
    eq = λ l r scope free. rw (is_sorted-Eq, is_sorted-Eq, term_stays scope l (eq_left K l r free), term_stays scope r (eq_right K l r free)) refl;
    not = λ a ih scope free. rw (is_sorted-Not, is_sorted-Not) (ih scope (of_not K a free));
    and = λ as_ all scope free. rw (is_sorted-And, is_sorted-And) (all_stay scope as_ all (of_and K as_ free));
    or = λ as_ all scope free. rw (is_sorted-Or, is_sorted-Or) (all_stay scope as_ all (of_or K as_ free));
    imp = λ a b ih jh scope free. rw (is_sorted-Imp, is_sorted-Imp, ih scope (imp_left K a b free), jh scope (imp_right K a b free)) refl;
    iff = λ a b ih jh scope free. rw (is_sorted-Iff, is_sorted-Iff, ih scope (iff_left K a b free), jh scope (iff_right K a b free)) refl;
    all = λ s a ih scope free. rw (is_sorted-All, is_sorted-All, sorts, ih (s ∷ scope) (of_all K s a free)) refl;
    ex = λ s a ih scope free. rw (is_sorted-Ex, is_sorted-Ex, sorts, ih (s ∷ scope) (of_ex K s a free)) refl;
  })

  pub sorted_stays : (scope : List ℕ) (a : Form) → IsFree K a → Sorted v scope a → Sorted w scope a
  sorted_stays scope a free s = record {
    scope_fits = record {
      few_variables = s.scope_fits.few_variables;
      sorts_exist = subst (λ n. AllByRecursion (λ x. x < n) scope) (sym sorts) s.scope_fits.sorts_exist;
    };
    few_binders = s.few_binders;
    fits = form_stays a scope free ∙ s.fits;
  }

-- ---- what a proof shows

-- The second theory has the formulas alike that are not hidden, which are free of the symbols, and the other symbols. What
-- is in no formula of the first is in none of the second.
pub record IsLike (t u : Statements) (K Hidden : ℕ → Type 0) : Type 0 where
  pub count : length u.formulas ≡ length t.formulas
  pub symbol_count : length u.vocabulary.symbols ≡ length t.vocabulary.symbols
  pub fresh : (k : ℕ) → IsFresh k t → IsFresh k u
  pub sorts : length u.vocabulary.sorts ≡ length t.vocabulary.sorts
  pub symbols : (k : ℕ) → (K k → ⊥) → slice_get u.vocabulary.symbols k ≡ slice_get t.vocabulary.symbols k
  pub formulas : (i : ℕ) (a : Form) → (Hidden i → ⊥) → slice_get t.formulas i ≡ Some a → slice_get u.formulas i ≡ Some a
  pub free : (i : ℕ) (a : Form) → (Hidden i → ⊥) → slice_get t.formulas i ≡ Some a → IsFree K a

module _ (t u : Statements) (K Hidden : ℕ → Type 0) (like : IsLike t u K Hidden) where
  -- no node of the proof states one of the symbols, or cites a formula that is hidden
  abbrev LackAll : Proof → Type 0
  LackAll p = (k : ℕ) → K k → Lacks k p

  abbrev SpareAll : Proof → Type 0
  SpareAll p = (n : ℕ) → Hidden n → Spares n p

  kept : (v : List ℕ) (a : Form) → IsFree K a → Sorted t.vocabulary v a → Sorted u.vocabulary v a
  kept v a free s = sorted_stays t.vocabulary u.vocabulary K like.sorts like.symbols v a free s

  kept_sort : (v : List ℕ) (x : Term) (s : ℕ) → IsFreeTerm K x → sort_of_term t.vocabulary v x ≡ Some s → sort_of_term u.vocabulary v x ≡ Some s
  kept_sort v x s free is = term_stays t.vocabulary u.vocabulary K like.sorts like.symbols v x free ∙ is

  free_as : (a b : Form) → a ≡ b → IsFree K b → IsFree K a
  free_as a b is free = subst (IsFree K) (sym is) free

  mutual
    unfolding Proves ProvesAll ProvesEach States AllState Spares SparesAll

    -- what the proof shows is free of the symbols too
    pub shown_free : (v : List ℕ) (h : List Form) (p : Proof) (a : Form) → LackAll p → SpareAll p → AreFree K h → Proves t v h p a → IsFree K a
    shown_free v h (Line i) a lack spare hyps w = like.free i a (λ hidden. spare i hidden refl) w.1
    shown_free v h (Hyp i) a lack spare hyps w = hyps i a w.1
    shown_free v h (AndI' u ps) a lack spare hyps w = free_as a (And w.1.0) w.1.1 (free_and K w.1.0 (all_shown_free v h ps w.1.0 lack spare hyps w.1.2))
    shown_free v h (AndE' k u (more_of-Proof p end_of-Proof)) a lack spare hyps w = of_and K w.1.0 (shown_free v h p _ lack spare hyps w.1.1) k a w.1.2
    shown_free v h (OrI' as_ k u (more_of-Proof p end_of-Proof)) a lack spare hyps w = free_as a (Or as_) w.1 (free_or K as_ (λ j is. (lack j is).0))
    shown_free v h (OrE' g u (more_of-Proof p end_of-Proof) x qs) a lack spare hyps w = free_as a g w.1 (λ j is. (lack j is).0)
    shown_free v h (ImpI' b u (more_of-Proof p end_of-Proof)) a lack spare hyps w =
        let left : IsFree K b = λ j is. (lack j is).0 in
        free_as a (Imp b w.1.0) w.1.1 (free_imp K b w.1.0 left (shown_free v (b ∷ h) p _ (λ j is. (lack j is).1) spare (free_before K b h left hyps) w.1.2))
    shown_free v h (ImpE' u (more_of-Proof p end_of-Proof) x (more_of-Proof q end_of-Proof)) a lack spare hyps w =
        imp_right K w.1.0 a (shown_free v h p _ (λ j is. (lack j is).0) (λ n is. (spare n is).0) hyps w.1.1)
    shown_free v h (NotI' b u (more_of-Proof p end_of-Proof)) a lack spare hyps w = free_as a (Not b) w.1 (free_not K b (λ j is. (lack j is).0))
    shown_free v h (NotE' u (more_of-Proof p end_of-Proof) x (more_of-Proof q end_of-Proof)) a lack spare hyps w = free_as a (Or []) w.1 (free_falsehood K)
    shown_free v h (Raa' g u (more_of-Proof p end_of-Proof)) a lack spare hyps w = free_as a g w.1 (λ j is. (lack j is).0)
    shown_free v h (IffI' b c u (more_of-Proof p end_of-Proof) x (more_of-Proof q end_of-Proof)) a lack spare hyps w =
        free_as a (Iff b c) w.1 (free_iff K b c (λ j is. (lack j is).0) (λ j is. (lack j is).1))
    shown_free v h (IffL' u (more_of-Proof p end_of-Proof) x (more_of-Proof q end_of-Proof)) a lack spare hyps w =
        iff_right K w.1.0 a (shown_free v h p _ (λ j is. (lack j is).0) (λ n is. (spare n is).0) hyps w.1.1)
    shown_free v h (IffR' u (more_of-Proof p end_of-Proof) x (more_of-Proof q end_of-Proof)) a lack spare hyps w =
        iff_left K a w.1.0 (shown_free v h p _ (λ j is. (lack j is).0) (λ n is. (spare n is).0) hyps w.1.1)
    shown_free v h (AllI' s u (more_of-Proof p end_of-Proof)) a lack spare hyps w =
        free_as a (All s w.1.0) w.1.1 (free_all K s w.1.0 (shown_free (s ∷ v) (all_over h) p _ lack spare (free_above K h hyps) w.1.2))
    shown_free v h (AllE' x u (more_of-Proof p end_of-Proof)) a lack spare hyps w =
        free_as a (instance_at x 0 w.1.1) w.1.4 (free_instance K x w.1.1 (λ j is. (lack j is).0) (of_all K w.1.0 w.1.1 (shown_free v h p _ (λ j is. (lack j is).1) spare hyps w.1.2)))
    shown_free v h (ExI' s b x u (more_of-Proof p end_of-Proof)) a lack spare hyps w = free_as a (Ex s b) w.1 (free_ex K s b (λ j is. (lack j is).0))
    shown_free v h (ExE' g u (more_of-Proof p end_of-Proof) x (more_of-Proof q end_of-Proof)) a lack spare hyps w = free_as a g w.1 (λ j is. (lack j is).0)
    shown_free v h (Refl x) a lack spare hyps w = free_as a (Eq x x) w.1 (free_eq K x x lack lack)
    shown_free v h (Subst' s b u (more_of-Proof p end_of-Proof) x (more_of-Proof q end_of-Proof)) a lack spare hyps w =
        free_as a (instance_at w.2.1 0 b) w.2.5
        (free_instance K w.2.1 b (eq_right K w.2.0 w.2.1 (shown_free v h p _ (λ j is. (lack j is).1) (λ n is. (spare n is).0) hyps w.2.2)) (λ j is. (lack j is).0))
    shown_free v h (Inhabit' s g u (more_of-Proof p end_of-Proof)) a lack spare hyps w = free_as a g w.1 (λ j is. (lack j is).0)

    all_shown_free : {m : _} (v : List ℕ) (h : List Form) (row : Row_of-Proof m) (bs : List Form) → ((k : ℕ) → K k → AllState (λ a. occurs_in k a ≡ false) (λ x. occurs_in_term k x ≡ false) row) → ((n : ℕ) → Hidden n → SparesAll n row)
        → AreFree K h → ProvesAll t v h row bs → AllByRecursion (IsFree K) bs
    all_shown_free v h end_of-Proof [] lack spare hyps w = tt
    all_shown_free v h end_of-Proof (b ∷ bs) lack spare hyps w = absurd w
    all_shown_free v h (more_of-Proof p ps) [] lack spare hyps w = absurd w
    all_shown_free v h (more_of-Proof p ps) (b ∷ bs) lack spare hyps w =
        (shown_free v h p b (λ j is. (lack j is).0) (λ n is. (spare n is).0) hyps w.0, all_shown_free v h ps bs (λ j is. (lack j is).1) (λ n is. (spare n is).1) hyps w.1)

  mutual
    unfolding Proves ProvesAll ProvesEach States AllState Spares SparesAll

    -- it shows the same in the other theory
    pub shown_stays : (v : List ℕ) (h : List Form) (p : Proof) (a : Form) → LackAll p → SpareAll p → AreFree K h → Proves t v h p a → Proves u v h p a
    shown_stays v h (Line i) a lack spare hyps w = (kept v a (like.free i a (λ hidden. spare i hidden refl) w.1) w.0, like.formulas i a (λ hidden. spare i hidden refl) w.1)
    shown_stays v h (Hyp i) a lack spare hyps w = (kept v a (hyps i a w.1) w.0, w.1)
    shown_stays v h (AndI' u ps) a lack spare hyps w =
        (kept v a (shown_free v h (AndI' u ps) a lack spare hyps w) w.0, (w.1.0, w.1.1, all_shown_stay v h ps w.1.0 lack spare hyps w.1.2))
    shown_stays v h (AndE' k u (more_of-Proof p end_of-Proof)) a lack spare hyps w =
        (kept v a (shown_free v h (AndE' k u (more_of-Proof p end_of-Proof)) a lack spare hyps w) w.0, (w.1.0, shown_stays v h p _ lack spare hyps w.1.1, w.1.2))
    shown_stays v h (OrI' as_ k u (more_of-Proof p end_of-Proof)) a lack spare hyps w =
        (kept v a (shown_free v h (OrI' as_ k u (more_of-Proof p end_of-Proof)) a lack spare hyps w) w.0, w.1, (w.2.0, w.2.1, shown_stays v h p _ (λ j is. (lack j is).1) spare hyps w.2.2))
    shown_stays v h (OrE' g u (more_of-Proof p end_of-Proof) x qs) a lack spare hyps w =
        let whole = shown_free v h p _ (λ j is. (lack j is).1) (λ n is. (spare n is).0) hyps w.2.1 in (
          kept v a (shown_free v h (OrE' g u (more_of-Proof p end_of-Proof) x qs) a lack spare hyps w) w.0,
          w.1,
          (
            w.2.0,
            shown_stays v h p _ (λ j is. (lack j is).1) (λ n is. (spare n is).0) hyps w.2.1,
            each_shown_stays v h qs w.2.0 a (λ j is. (lack j is).2) (λ n is. (spare n is).1) hyps (of_or K w.2.0 whole) w.2.2,
          ),
        )
    shown_stays v h (ImpI' b u (more_of-Proof p end_of-Proof)) a lack spare hyps w = (
      kept v a (shown_free v h (ImpI' b u (more_of-Proof p end_of-Proof)) a lack spare hyps w) w.0,
      (
        w.1.0,
        w.1.1,
        shown_stays v (b ∷ h) p _ (λ j is. (lack j is).1) spare (free_before K b h (λ j is. (lack j is).0) hyps) w.1.2,
      ),
    )
    shown_stays v h (ImpE' u (more_of-Proof p end_of-Proof) x (more_of-Proof q end_of-Proof)) a lack spare hyps w = (
      kept v a (shown_free v h (ImpE' u (more_of-Proof p end_of-Proof) x (more_of-Proof q end_of-Proof)) a lack spare hyps w) w.0,
      (
        w.1.0,
        shown_stays v h p _ (λ j is. (lack j is).0) (λ n is. (spare n is).0) hyps w.1.1,
        shown_stays v h q _ (λ j is. (lack j is).1) (λ n is. (spare n is).1) hyps w.1.2,
      ),
    )
    shown_stays v h (NotI' b u (more_of-Proof p end_of-Proof)) a lack spare hyps w =
        (kept v a (shown_free v h (NotI' b u (more_of-Proof p end_of-Proof)) a lack spare hyps w) w.0, w.1, shown_stays v (b ∷ h) p _ (λ j is. (lack j is).1) spare (free_before K b h (λ j is. (lack j is).0) hyps) w.2)
    shown_stays v h (NotE' u (more_of-Proof p end_of-Proof) x (more_of-Proof q end_of-Proof)) a lack spare hyps w = (
      kept v a (shown_free v h (NotE' u (more_of-Proof p end_of-Proof) x (more_of-Proof q end_of-Proof)) a lack spare hyps w) w.0,
      w.1,
      (
        w.2.0,
        shown_stays v h p _ (λ j is. (lack j is).0) (λ n is. (spare n is).0) hyps w.2.1,
        shown_stays v h q _ (λ j is. (lack j is).1) (λ n is. (spare n is).1) hyps w.2.2,
      ),
    )
    shown_stays v h (Raa' g u (more_of-Proof p end_of-Proof)) a lack spare hyps w =
        let free = shown_free v h (Raa' g u (more_of-Proof p end_of-Proof)) a lack spare hyps w in
        (kept v a free w.0, w.1, shown_stays v (Not a ∷ h) p _ (λ j is. (lack j is).1) spare (free_before K (Not a) h (free_not K a free) hyps) w.2)
    shown_stays v h (IffI' b c u (more_of-Proof p end_of-Proof) x (more_of-Proof q end_of-Proof)) a lack spare hyps w = (
      kept v a (shown_free v h (IffI' b c u (more_of-Proof p end_of-Proof) x (more_of-Proof q end_of-Proof)) a lack spare hyps w) w.0,
      w.1,
      shown_stays v (b ∷ h) p _ (λ j is. (lack j is).2) (λ n is. (spare n is).0) (free_before K b h (λ j is. (lack j is).0) hyps) w.2,
      shown_stays v (c ∷ h) q _ (λ j is. (lack j is).3) (λ n is. (spare n is).1) (free_before K c h (λ j is. (lack j is).1) hyps) w.3,
    )
    shown_stays v h (IffL' u (more_of-Proof p end_of-Proof) x (more_of-Proof q end_of-Proof)) a lack spare hyps w = (
      kept v a (shown_free v h (IffL' u (more_of-Proof p end_of-Proof) x (more_of-Proof q end_of-Proof)) a lack spare hyps w) w.0,
      (
        w.1.0,
        shown_stays v h p _ (λ j is. (lack j is).0) (λ n is. (spare n is).0) hyps w.1.1,
        shown_stays v h q _ (λ j is. (lack j is).1) (λ n is. (spare n is).1) hyps w.1.2,
      ),
    )
    shown_stays v h (IffR' u (more_of-Proof p end_of-Proof) x (more_of-Proof q end_of-Proof)) a lack spare hyps w = (
      kept v a (shown_free v h (IffR' u (more_of-Proof p end_of-Proof) x (more_of-Proof q end_of-Proof)) a lack spare hyps w) w.0,
      (
        w.1.0,
        shown_stays v h p _ (λ j is. (lack j is).0) (λ n is. (spare n is).0) hyps w.1.1,
        shown_stays v h q _ (λ j is. (lack j is).1) (λ n is. (spare n is).1) hyps w.1.2,
      ),
    )
    shown_stays v h (AllI' s u (more_of-Proof p end_of-Proof)) a lack spare hyps w =
        (kept v a (shown_free v h (AllI' s u (more_of-Proof p end_of-Proof)) a lack spare hyps w) w.0, (w.1.0, w.1.1, shown_stays (s ∷ v) (all_over h) p _ lack spare (free_above K h hyps) w.1.2))
    shown_stays v h (AllE' x u (more_of-Proof p end_of-Proof)) a lack spare hyps w = (
      kept v a (shown_free v h (AllE' x u (more_of-Proof p end_of-Proof)) a lack spare hyps w) w.0,
      (
        w.1.0,
        w.1.1,
        shown_stays v h p _ (λ j is. (lack j is).1) spare hyps w.1.2,
        kept_sort v x w.1.0 (λ j is. (lack j is).0) w.1.3,
        w.1.4,
      ),
    )
    shown_stays v h (ExI' s b x u (more_of-Proof p end_of-Proof)) a lack spare hyps w = (
      kept v a (shown_free v h (ExI' s b x u (more_of-Proof p end_of-Proof)) a lack spare hyps w) w.0,
      w.1,
      kept (s ∷ v) b (λ j is. (lack j is).0) w.2,
      kept_sort v x s (λ j is. (lack j is).1) w.3,
      shown_stays v h p _ (λ j is. (lack j is).2) spare hyps w.4,
    )
    shown_stays v h (ExE' g u (more_of-Proof p end_of-Proof) x (more_of-Proof q end_of-Proof)) a lack spare hyps w =
        let inner = of_ex K w.2.0 w.2.1 (shown_free v h p _ (λ j is. (lack j is).1) (λ n is. (spare n is).0) hyps w.2.2) in (
          kept v a (shown_free v h (ExE' g u (more_of-Proof p end_of-Proof) x (more_of-Proof q end_of-Proof)) a lack spare hyps w) w.0,
          w.1,
          (
            w.2.0,
            w.2.1,
            shown_stays v h p _ (λ j is. (lack j is).1) (λ n is. (spare n is).0) hyps w.2.2,
            shown_stays (w.2.0 ∷ v) (w.2.1 ∷ all_over h) q _ (λ j is. (lack j is).2) (λ n is. (spare n is).1) (free_before K w.2.1 (all_over h) inner (free_above K h hyps)) w.2.3,
          ),
        )
    shown_stays v h (Refl x) a lack spare hyps w = (kept v a (shown_free v h (Refl x) a lack spare hyps w) w.0, w.1)
    shown_stays v h (Subst' s b u (more_of-Proof p end_of-Proof) x (more_of-Proof q end_of-Proof)) a lack spare hyps w =
        let left = eq_left K w.2.0 w.2.1 (shown_free v h p _ (λ j is. (lack j is).1) (λ n is. (spare n is).0) hyps w.2.2) in (
          kept v a (shown_free v h (Subst' s b u (more_of-Proof p end_of-Proof) x (more_of-Proof q end_of-Proof)) a lack spare hyps w) w.0,
          kept (s ∷ v) b (λ j is. (lack j is).0) w.1,
          (
            w.2.0,
            w.2.1,
            shown_stays v h p _ (λ j is. (lack j is).1) (λ n is. (spare n is).0) hyps w.2.2,
            kept_sort v w.2.0 s left w.2.3,
            shown_stays v h q _ (λ j is. (lack j is).2) (λ n is. (spare n is).1) hyps w.2.4,
            w.2.5,
          ),
        )
    shown_stays v h (Inhabit' s g u (more_of-Proof p end_of-Proof)) a lack spare hyps w =
        (kept v a (shown_free v h (Inhabit' s g u (more_of-Proof p end_of-Proof)) a lack spare hyps w) w.0, w.1, shown_stays (s ∷ v) (all_over h) p _ (λ j is. (lack j is).1) spare (free_above K h hyps) w.2)

    all_shown_stay : {m : _} (v : List ℕ) (h : List Form) (row : Row_of-Proof m) (bs : List Form) → ((k : ℕ) → K k → AllState (λ a. occurs_in k a ≡ false) (λ x. occurs_in_term k x ≡ false) row) → ((n : ℕ) → Hidden n → SparesAll n row)
        → AreFree K h → ProvesAll t v h row bs → ProvesAll u v h row bs
    all_shown_stay v h end_of-Proof [] lack spare hyps w = w
    all_shown_stay v h end_of-Proof (b ∷ bs) lack spare hyps w = absurd w
    all_shown_stay v h (more_of-Proof p ps) [] lack spare hyps w = absurd w
    all_shown_stay v h (more_of-Proof p ps) (b ∷ bs) lack spare hyps w =
        (shown_stays v h p b (λ j is. (lack j is).0) (λ n is. (spare n is).0) hyps w.0, all_shown_stay v h ps bs (λ j is. (lack j is).1) (λ n is. (spare n is).1) hyps w.1)

    each_shown_stays : {m : _} (v : List ℕ) (h : List Form) (row : Row_of-Proof m) (bs : List Form) (a : Form) → ((k : ℕ) → K k → AllState (λ a. occurs_in k a ≡ false) (λ x. occurs_in_term k x ≡ false) row) → ((n : ℕ) → Hidden n → SparesAll n row)
        → AreFree K h → AreFree K bs → ProvesEach t v h row bs a → ProvesEach u v h row bs a
    each_shown_stays v h end_of-Proof [] a lack spare hyps members w = w
    each_shown_stays v h end_of-Proof (b ∷ bs) a lack spare hyps members w = absurd w
    each_shown_stays v h (more_of-Proof p ps) [] a lack spare hyps members w = absurd w
    each_shown_stays v h (more_of-Proof p ps) (b ∷ bs) a lack spare hyps members w = (
      shown_stays v (b ∷ h) p a (λ j is. (lack j is).0) (λ n is. (spare n is).0) (free_before K b h (members 0 b refl) hyps) w.0,
      each_shown_stays v h ps bs a (λ j is. (lack j is).1) (λ n is. (spare n is).1) hyps (λ i. members (suc i)) w.1,
    )
