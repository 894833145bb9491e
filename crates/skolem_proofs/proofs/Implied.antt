-- The proof shows that the formula implies what it is with the functions.
use Rattle.std.specs.Prelude.{ℕ, ◌≡◌, ◌+◌, ◌≤◌, ◌<◌, true, false, List, [], ◌∷◌, ◌++◌, length, map, Some, slice_get, refl}
use Rattle.std.specs.List.{AllByRecursion as Each}
use Rattle.std.proofs.Common.{ap, sym, subst, ◌∙◌, arith, append_assoc, zero, suc}
use Rattle.fof_terms.specs.declared.term.Term.{Var}
use Rattle.fof_terms.specs.declared.form.Form.{Form, And, Or, Imp, All, Ex}
use Rattle.fof_terms.specs.Instance.{instance_of, instance_at, instance_term}
use Rattle.fof_terms.specs.Lift.{greatest}
use Rattle.fof_terms.proofs.LiftFacts.{lifted-All}
use Rattle.fof_terms.proofs.Moved.{closed_anywhere}
use Rattle.fof_terms.specs.Sorts.{Sorted}
use Rattle.fof_terms.proofs.Scoped.{raised, or_sorted, sorted_of_and, sorted_of_or, sorted_of_imp, sorted_of_all, all_sorted}
use Rattle.fof_terms.specs.Sorts.{binder_depth}
use Rattle.fof_terms.proofs.SortsFacts.{binder_depth-And, binder_depth-Or, binder_depth-All, binder_depth-Ex}
use Rattle.fof_terms.specs.Vocabulary.{Vocabulary}
use Rattle.fof_terms.proofs.Walks.{placing, same_depth}
use Rattle.clause_form.proofs.ClauseLaws.{sorted_more}
use Rattle.kernel.specs.Statements.{Statements}
use Rattle.kernel.specs.Proves.{Proves, over, all_over}
use Rattle.kernel.specs.code.Rules.{ProveAll}
use Rattle.kernel.specs.Rules.{ProveEach}
use Rattle.kernel.proofs.Building.{shown_sorted, over_sorted, by_hyp, by_imp_i, by_imp_e, by_and_i, by_and_e, by_or_i, by_or_e, by_all_i, by_all_e_here}
use Rattle.kernel.specs.Entries.{choice}
use Rattle.kernel.specs.declared.proof.Proof.{Proof, Hyp, AndE, ImpI, ImpE, AllI, AllE}
use Rattle.kernel.specs.declared.entry.Entry.{Entry}
use Rattle.kernel.specs.declared.entry.Entry.TheVariants.{Declare, Lemma, Name, Choice}
use Rattle.skolem_fresh.specs.declared.just.Use.{Use}
use Rattle.skolem_fresh.specs.code.Only.{only_has}
use Rattle.skolem_fresh.proofs.OnlyFacts.{only_has-Ex}
use Rattle.skolem_fresh.specs.Renamed.{renamed}
use Rattle.skolem_fresh.specs.SkolemRule.{MayReplace, IsSkolemized, AreSkolemized}
use Rattle.skolem_fresh.specs.SkolemRule as rule
use Rattle.skolem_fresh.specs.Told.{AddedFrom}
use Rattle.skolem_fresh.specs.Uses.{value_of}
use Rattle.skolem_fresh.proofs.Chosen.{arguments_only}
use Rattle.skolem_fresh.proofs.Openable.{use_symbol, same_symbol, choice_instance}
use Rattle.skolem_fresh.proofs.Skolemized.{depth_kept}
use Rattle.skolem_proofs.specs.Choosing.{ChooseInTurn}
use Rattle.skolem_proofs.specs.code.Witnessed.{arms, cases, StepShows, IsWitnessed, AreWitnessed, itself, a_conjunction, a_disjunction, for_each, for_some, none, more}

-- it is the formula with the functions
module _ (v : Vocabulary) where
  mutual
    pub as_skolemized : (scope : List ℕ) (n : ℕ) (uses : List Use) (a b : Form) (told : List Entry) (p : Proof) → IsWitnessed v scope n uses a b told p → IsSkolemized v scope uses a b
    as_skolemized scope n uses a b told p (itself sc m c k) = k
    as_skolemized scope n uses a b told p (a_conjunction sc m us as_ bs ts ps w) = rule.a_conjunction sc us as_ bs (all_skolemized sc m us as_ bs ts ps w)
    as_skolemized scope n uses a b told p (a_disjunction sc m us as_ bs ts ps w) = rule.a_disjunction sc us as_ bs (all_skolemized sc m us as_ bs ts ps w)
    as_skolemized scope n uses a b told p (for_each sc m us s c d ts q w) = rule.for_each sc us s c d (as_skolemized (s ∷ sc) m us c d ts q w)
    as_skolemized scope n uses a b told p (for_some sc m u us s c d ts step q may shows w) = rule.for_some sc u us s c d may (as_skolemized sc (m + 1) us (instance_of c (value_of u)) d ts q w)

    all_skolemized : (scope : List ℕ) (n : ℕ) (uses : List Use) (as_ bs : List Form) (told : List Entry) (ps : List Proof) → AreWitnessed v scope n uses as_ bs told ps → AreSkolemized v scope uses as_ bs
    all_skolemized scope n uses as_ bs told ps (none sc m) = rule.none sc
    all_skolemized scope n uses as_ bs told ps (more sc m first rest c d cs ds ts os q qs w ws) =
        rule.more sc first rest c d cs ds (as_skolemized sc m first c d ts q w) (all_skolemized sc (m + length ts) rest cs ds os qs ws)

-- each function has its entry
choose_both : (first rest : List Use) (told others : List Entry) → ChooseInTurn first told → ChooseInTurn rest others → ChooseInTurn (first ++ rest) (told ++ others)
choose_both [] rest [] others h g = g
choose_both [] rest (e ∷ told) others h g = absurd h
choose_both (u ∷ first) rest [] others h g = absurd h
choose_both (u ∷ first) rest (Choice f a ∷ told) others h g = (h.0, choose_both first rest told others h.1 g)
choose_both (u ∷ first) rest (Declare d ∷ told) others h g = absurd h
choose_both (u ∷ first) rest (Lemma p ∷ told) others h g = absurd h
choose_both (u ∷ first) rest (Name k a ∷ told) others h g = absurd h

module _ (v : Vocabulary) where
  mutual
    pub choose_in_turn : (scope : List ℕ) (n : ℕ) (uses : List Use) (a b : Form) (told : List Entry) (p : Proof) → IsWitnessed v scope n uses a b told p → ChooseInTurn uses told
    choose_in_turn scope n uses a b told p (itself sc m c k) = tt
    choose_in_turn scope n uses a b told p (a_conjunction sc m us as_ bs ts ps w) = all_choose sc m us as_ bs ts ps w
    choose_in_turn scope n uses a b told p (a_disjunction sc m us as_ bs ts ps w) = all_choose sc m us as_ bs ts ps w
    choose_in_turn scope n uses a b told p (for_each sc m us s c d ts q w) = choose_in_turn (s ∷ sc) m us c d ts q w
    choose_in_turn scope n uses a b told p (for_some sc m u us s c d ts step q may shows w) = (refl, choose_in_turn sc (m + 1) us (instance_of c (value_of u)) d ts q w)

    all_choose : (scope : List ℕ) (n : ℕ) (uses : List Use) (as_ bs : List Form) (told : List Entry) (ps : List Proof) → AreWitnessed v scope n uses as_ bs told ps → ChooseInTurn uses told
    all_choose scope n uses as_ bs told ps (none sc m) = tt
    all_choose scope n uses as_ bs told ps (more sc m first rest c d cs ds ts os q qs w ws) = choose_both first rest ts os (choose_in_turn sc m first c d ts q w) (all_choose sc (m + length ts) rest cs ds os qs ws)

-- more variables further out
module _ (v : Vocabulary) (back : List ℕ) where
  mutual
    pub wider : (scope : List ℕ) (uses : List Use) (a b : Form) → IsSkolemized v scope uses a b → IsSkolemized v (scope ++ back) uses a b
    wider scope uses a b (rule.an_atom sc p ts) = rule.an_atom (sc ++ back) p ts
    wider scope uses a b (rule.an_equation sc l r) = rule.an_equation (sc ++ back) l r
    wider scope uses a b (rule.a_negation sc c) = rule.a_negation (sc ++ back) c
    wider scope uses a b (rule.a_conjunction sc us as_ bs h) = rule.a_conjunction (sc ++ back) us as_ bs (all_wider sc us as_ bs h)
    wider scope uses a b (rule.a_disjunction sc us as_ bs h) = rule.a_disjunction (sc ++ back) us as_ bs (all_wider sc us as_ bs h)
    wider scope uses a b (rule.for_each sc us s c d h) = rule.for_each (sc ++ back) us s c d (wider (s ∷ sc) us c d h)
    wider scope uses a b (rule.for_some sc u rest s c d may h) =
        rule.for_some (sc ++ back) u rest s c d (record { sort = may.sort; arguments = may.arguments; fits = sorted_more v sc back (value_of u) u.sort may.fits }) (wider sc rest (instance_of c (value_of u)) d h)

    all_wider : (scope : List ℕ) (uses : List Use) (as_ bs : List Form) → AreSkolemized v scope uses as_ bs → AreSkolemized v (scope ++ back) uses as_ bs
    all_wider scope uses as_ bs (rule.none sc) = rule.none (sc ++ back)
    all_wider scope uses as_ bs (rule.more sc first rest c d cs ds h g) = rule.more (sc ++ back) first rest c d cs ds (wider sc first c d h) (all_wider sc rest cs ds g)

-- what entries add, and others behind them
pub added_both : (t : Statements) (n : ℕ) (told others : List Entry) → AddedFrom t n (told ++ others) → AddedFrom t n told × AddedFrom t (n + length told) others
added_both t n [] others h = let same : n ≡ n + 0 = omega arith in (tt, subst (λ m. AddedFrom t m others) same h)
added_both t n (Choice f a ∷ told) others h =
    let rest = added_both t (suc n) told others h.1 in
    let same : suc n + length told ≡ n + suc (length told) = omega arith in
    ((h.0, rest.0), subst (λ m. AddedFrom t m others) same rest.1)
added_both t n (Declare d ∷ told) others h = absurd h
added_both t n (Lemma p ∷ told) others h = absurd h
added_both t n (Name k a ∷ told) others h = absurd h

-- what stands behind others
pub at_end : {X : Type 0} (front rest : List X) (x : X) (k : ℕ) → length front ≡ k → slice_get (front ++ x ∷ rest) k ≡ Some x
at_end [] rest x zero e = refl
at_end [] rest x (suc k) e = absurd (omega arith)
at_end (y ∷ front) rest x zero e = absurd (omega arith)
at_end (y ∷ front) rest x (suc k) e = at_end front rest x k (omega arith)

pub one_longer : {X : Type 0} (front : List X) (x : X) (k : ℕ) → length front ≡ k → length (front ++ x ∷ []) ≡ k + 1
one_longer [] x k e = let same : 0 ≡ k = e in rw (sym same) refl
one_longer (y ∷ front) x zero e = absurd (omega arith)
one_longer (y ∷ front) x (suc k) e = let rest = one_longer front x k (omega arith) in omega arith

-- each formula implies its own
abbrev pub EachImplies : Statements → List ℕ → List Form → List Form → List Proof → Type 0
EachImplies t v [] [] [] = Unit {0}
EachImplies t v [] [] (p ∷ ps) = ⊥
EachImplies t v [] (b ∷ bs) ps = ⊥
EachImplies t v (a ∷ as_) [] ps = ⊥
EachImplies t v (a ∷ as_) (b ∷ bs) [] = ⊥
EachImplies t v (a ∷ as_) (b ∷ bs) (p ∷ ps) = ((h : List Form) → Proves t v h p (Imp a b)) × EachImplies t v as_ bs ps

module _ (t : Statements) (v : List ℕ) where
  result_sorted : (p : Proof) (a b : Form) → ((h : List Form) → Proves t v h p (Imp a b)) → Sorted t.vocabulary v b
  result_sorted p a b f = (sorted_of_imp t.vocabulary v 2147483647 a b (shown_sorted t v [] p (Imp a b) (f []))).1

  results_sorted : (as_ bs : List Form) (ps : List Proof) → EachImplies t v as_ bs ps → Each (Sorted t.vocabulary v) bs
  results_sorted [] [] [] i = tt
  results_sorted [] [] (p ∷ ps) i = absurd i
  results_sorted [] (b ∷ bs) ps i = absurd i
  results_sorted (a ∷ as_) [] ps i = absurd i
  results_sorted (a ∷ as_) (b ∷ bs) [] i = absurd i
  results_sorted (a ∷ as_) (b ∷ bs) (p ∷ ps) i = (result_sorted p a b i.0, results_sorted as_ bs ps i.1)

  -- the members by a conjunction
  by_members : (h : List Form) (whole front as_ bs : List Form) (ps : List Proof) (k : ℕ) → whole ≡ front ++ as_ → length front ≡ k → Sorted t.vocabulary v (And whole) → EachImplies t v as_ bs ps
      → ProveAll t v (And whole ∷ h) (arms true k ps) bs
  by_members h whole front [] [] [] k e n s i = tt
  by_members h whole front [] [] (p ∷ ps) k e n s i = absurd i
  by_members h whole front [] (b ∷ bs) ps k e n s i = absurd i
  by_members h whole front (a ∷ as_) [] ps k e n s i = absurd i
  by_members h whole front (a ∷ as_) (b ∷ bs) [] k e n s i = absurd i
  by_members h whole front (a ∷ as_) (b ∷ bs) (p ∷ ps) k e n s i =
      let at : slice_get whole k ≡ Some a = ap (λ (xs : List Form). slice_get xs k) e ∙ at_end front as_ a k n in
      let h1 = And whole ∷ h in
      let own = by_and_e t v h1 k (Hyp 0) whole a at (by_hyp t v h1 0 (And whole) s refl) in (
        by_imp_e t v h1 p (AndE k (Hyp 0)) a b (i.0 h1) own,
        by_members h whole (front ++ a ∷ []) as_ bs ps (k + 1) (e ∙ sym (append_assoc front (a ∷ []) as_)) (one_longer front a k n) s i.1,
      )

  -- a disjunction in each of the cases
  by_cases : (h : List Form) (whole front as_ bs : List Form) (ps : List Proof) (k j : ℕ) → whole ≡ front ++ bs → length front ≡ k → Sorted t.vocabulary v (Or whole) → Each (Sorted t.vocabulary v) as_ → EachImplies t v as_ bs ps
      → ProveEach t v h (cases whole k (arms false j ps)) as_ (Or whole)
  by_cases h whole front [] [] [] k j e n s all i = tt
  by_cases h whole front [] [] (p ∷ ps) k j e n s all i = absurd i
  by_cases h whole front [] (b ∷ bs) ps k j e n s all i = absurd i
  by_cases h whole front (a ∷ as_) [] ps k j e n s all i = absurd i
  by_cases h whole front (a ∷ as_) (b ∷ bs) [] k j e n s all i = absurd i
  by_cases h whole front (a ∷ as_) (b ∷ bs) (p ∷ ps) k j e n s all i =
      let at : slice_get whole k ≡ Some b = ap (λ (xs : List Form). slice_get xs k) e ∙ at_end front bs b k n in
      let h1 = a ∷ h in
      let own = by_imp_e t v h1 p (Hyp 0) a b (i.0 h1) (by_hyp t v h1 0 a all.0 refl) in (
        by_or_i t v h1 whole k (ImpE p (Hyp 0)) b s at own,
        by_cases h whole (front ++ b ∷ []) as_ bs ps (k + 1) (j + 1) (e ∙ sym (append_assoc front (b ∷ []) bs)) (one_longer front b k n) s all.1 i.1,
      )

  -- the body by a universal quantifier, at its own variable
  from_all : (s : ℕ) (a : Form) (h : List Form) (p : Proof) → Sorted t.vocabulary (s ∷ v) a → Proves t (s ∷ v) h p (over (All s a)) → Proves t (s ∷ v) h (AllE (Var 0) p) a
  from_all s a h p r w = by_all_e_here t v h s a p r (rw lifted-All at w)

  all_implies : (s : ℕ) (a b : Form) (p : Proof) (h : List Form) → length v < 2147483647 → binder_depth b ≤ binder_depth a → Sorted t.vocabulary v (All s a) → (Sorted t.vocabulary (s ∷ v) a → (g : List Form) → Proves t (s ∷ v) g p (Imp a b))
      → Proves t v h (ImpI (All s a) (AllI s (ImpE p (AllE (Var 0) (Hyp 0))))) (Imp (All s a) (All s b))
  all_implies s a b p h room small r inner =
      let ra = sorted_of_all t.vocabulary v 2147483647 2147483646 s a (omega arith) room r in
      let sa = raised t.vocabulary (s ∷ v) 2147483646 2147483647 a (omega arith) ra in
      let sb = (sorted_of_imp t.vocabulary (s ∷ v) 2147483647 a b (shown_sorted t (s ∷ v) [] p (Imp a b) (inner sa []))).1 in
      let sq = all_sorted t.vocabulary v 2147483646 s b (record { scope_fits = sb.scope_fits; few_binders = omega (arith, ra.few_binders); fits = sb.fits }) in
      let h1 = All s a ∷ h in
      let own = by_hyp t (s ∷ v) (all_over h1) 0 (over (All s a)) (over_sorted t v s (All s a) sa.scope_fits r) refl in
      by_imp_i t v h (All s a) (All s b) _ r (by_all_i t v h1 s b _ sq (by_imp_e t (s ∷ v) (all_over h1) p _ a b (inner sa (all_over h1)) (from_all s a (all_over h1) (Hyp 0) sa own)))

  -- an existential formula by what its function chooses
  module _ (n : ℕ) (u : Use) (s : ℕ) (a : Form) (step : Proof) (told : List Entry) (may : MayReplace t.vocabulary v u s a) (steps : StepShows u.variables n (Hyp 0) step) (r : Sorted t.vocabulary v (Ex s a))
      (added : AddedFrom t n (Choice u.function (renamed u.variables 1 a) ∷ told)) (h : List Form) where
    step_shown : Proves t v (Ex s a ∷ h) step (instance_of a (value_of u))
    step_shown =
        let symbol = use_symbol t.vocabulary v u may.fits in
        let here = added.0 in
        let one : symbol.0 ≡ here.0 = same_symbol symbol.0 here.0 (slice_get t.vocabulary.symbols u.function) symbol.1 here.1 in
        let whole : only_has u.variables 0 (Ex s a) ≡ true = arguments_only u.variables (Ex s a) may.arguments in
        let only : only_has u.variables 1 a ≡ true = rw only_has-Ex at whole in
        let instance = choice_instance t.vocabulary v s u.function u.variables a only symbol.0 symbol.3 (symbol.4 ∙ may.sort) in
        let at : slice_get t.formulas n ≡ Some (choice u.function symbol.0 (renamed u.variables 1 a)) = rw one here.2 in
        let closed : Sorted t.vocabulary [] (choice u.function symbol.0 (renamed u.variables 1 a)) = rw one here.3 in
        steps t v (Ex s a ∷ h) (choice u.function symbol.0 (renamed u.variables 1 a)) (Ex s a) (instance_of a (value_of u)) (closed_anywhere t.vocabulary v 2147483647 _ r.scope_fits closed) at instance (by_hyp t v (Ex s a ∷ h) 0 (Ex s a) r refl)

next_depth : (u : Use) (a : Form) → binder_depth (instance_of a (value_of u)) ≡ binder_depth a
next_depth u a = same_depth (instance_term (value_of u)) (instance_at (value_of u)) (placing (value_of u) (λ d. d) (λ d. refl)) a 0

module _ (t : Statements) where
  mutual
    pub implies : (v : List ℕ) (n : ℕ) (uses : List Use) (a b : Form) (told : List Entry) (p : Proof) → IsWitnessed t.vocabulary v n uses a b told p → binder_depth a + length v < 2147483647 → Sorted t.vocabulary v a → AddedFrom t n told
        → (h : List Form) → Proves t v h p (Imp a b)
    implies v n uses a b told p (itself sc m c k) room s added h = by_imp_i t sc h c c (Hyp 0) s (by_hyp t sc (c ∷ h) 0 c s refl)
    implies v n uses a b told p (a_conjunction sc m us as_ bs ts ps w) room s added h =
        let few : greatest (map binder_depth as_) + length sc < 2147483647 = rw binder_depth-And at room in
        let each = all_imply sc m us as_ bs ts ps w few (sorted_of_and t.vocabulary sc 2147483647 as_ s) added in
        by_imp_i t sc h (And as_) (And bs) _ s (by_and_i t sc (And as_ ∷ h) (arms true 0 ps) bs s.scope_fits (by_members t sc h as_ [] as_ bs ps 0 refl refl s each))
    implies v n uses a b told p (a_disjunction sc m us as_ bs ts ps w) room s added h =
        let few : greatest (map binder_depth as_) + length sc < 2147483647 = rw binder_depth-Or at room in
        let all = sorted_of_or t.vocabulary sc 2147483647 as_ s in
        let each = all_imply sc m us as_ bs ts ps w few all added in
        let so = or_sorted t.vocabulary sc 2147483647 s.scope_fits bs (results_sorted t sc as_ bs ps each) in
        let h1 = Or as_ ∷ h in
        by_imp_i t sc h (Or as_) (Or bs) _ s (by_or_e t sc h1 (Or bs) (Hyp 0) (cases bs 0 (arms false 0 ps)) as_ so (by_hyp t sc h1 0 (Or as_) s refl) (by_cases t sc h1 bs [] as_ bs ps 0 0 refl refl so all each))
    implies v n uses a b told p (for_each sc m us s c d ts q w) room r added h =
        let few : binder_depth c + 1 + length sc < 2147483647 = rw binder_depth-All at room in
        all_implies t sc s c d q h (omega arith) (depth_kept t.vocabulary (s ∷ sc) us c d (as_skolemized t.vocabulary (s ∷ sc) m us c d ts q w)) r (λ sa g. implies (s ∷ sc) m us c d ts q w (omega arith) sa added g)
    implies v n uses a b told p (for_some sc m u us s c d ts step q may steps w) room r added h =
        let few : binder_depth c + 1 + length sc < 2147483647 = rw binder_depth-Ex at room in
        let same = next_depth u c in
        let shown = step_shown t sc m u s c step ts may steps r added h in
        let next : suc m ≡ m + 1 = omega arith in
        let h1 = Ex s c ∷ h in
        let inner = implies sc (m + 1) us (instance_of c (value_of u)) d ts q w (omega arith) (shown_sorted t sc h1 step (instance_of c (value_of u)) shown) (subst (λ k. AddedFrom t k ts) next added.1) h1 in
        by_imp_i t sc h (Ex s c) d _ r (by_imp_e t sc h1 q step (instance_of c (value_of u)) d inner shown)

    all_imply : (v : List ℕ) (n : ℕ) (uses : List Use) (as_ bs : List Form) (told : List Entry) (ps : List Proof) → AreWitnessed t.vocabulary v n uses as_ bs told ps → greatest (map binder_depth as_) + length v < 2147483647
        → Each (Sorted t.vocabulary v) as_ → AddedFrom t n told → EachImplies t v as_ bs ps
    all_imply v n uses as_ bs told ps (none sc m) room s added = tt
    all_imply v n uses as_ bs told ps (more sc m first rest c d cs ds ts os q qs w ws) room s added =
        let parts = added_both t m ts os added in
        (λ h. implies sc m first c d ts q w (omega arith) s.0 parts.0 h, all_imply sc (m + length ts) rest cs ds os qs ws (omega arith) s.1 parts.1)
