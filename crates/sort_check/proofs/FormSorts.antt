-- Formulas that are denoted are well-sorted, and bind no more variables than were counted.
use Rattle.std.proofs.Common.{◌≡◌, ℕ, suc, ◌+◌, ◌<◌, ◌≤◌, ◌==◌, nat_lt, Bool, true, false, cond, List, [], ◌∷◌, ◌++◌, length, map, drop, Option, Some, None, Ok, Err, refl, sym, ◌∙◌, ap, subst, arith, append_assoc, position, nat_eq}
use Rattle.std.specs.List.{AllByRecursion, list_all}
use Rattle.std.proofs.lemmas.Bool.Decides.{nat_tests}
use Rattle.std.proofs.lemmas.List.{append-nil, length-drop}
use Rattle.std.proofs.lemmas.List.Quantifiers.{position-Some}
use Rattle.std.specs.Option.{option_map}
use Rattle.std.specs.Cmp.Lexicographic.{pointwise}
use Rattle.tptp_base.specs.declared.surface.STerm.{STerm}
use Rattle.tptp_base.specs.declared.surface.Surface.{Surface}
use Rattle.tptp_base.specs.declared.surface.BoundVar.{BoundVar}
use Rattle.tptp_base.specs.declared.surface.SortName.{SortName}
use Rattle.tptp_base.specs.declared.surface.SortName.TheVariants as name
use Rattle.tptp_base.specs.declared.surface.BinOp.{BinOp}
use Rattle.tptp_base.specs.declared.surface.BinOp.TheVariants as op
use Rattle.tptp_base.specs.declared.surface.Quant.{Quant}
use Rattle.tptp_base.specs.declared.surface.Quant.TheVariants as q
use Rattle.fof_terms.specs.Vocabulary.{Vocabulary, found_sort}
use Rattle.fof_terms.specs.Lift.{greatest}
use Rattle.fof_terms.specs.Sorts.{are_sorts, holds_of, stated_by, sort_of_term, is_sorted, binder_depth}
use Rattle.fof_terms.proofs.SortsFacts.{is_sorted-Atom, is_sorted-Eq, is_sorted-Not, is_sorted-And, is_sorted-Or, is_sorted-Imp, is_sorted-Iff, is_sorted-All, is_sorted-Ex, binder_depth-Atom, binder_depth-Eq, binder_depth-Not, binder_depth-And, binder_depth-Or, binder_depth-Imp, binder_depth-Iff, binder_depth-All, binder_depth-Ex}
use Rattle.fof_terms.proofs.SortLawsFacts.{grown_fits}
use Rattle.fof_terms.specs.declared.signature.Kind.TheVariants.{Predicate}
use Rattle.fof_terms.specs.declared.form.Form.{Form, Atom, Eq, Not, And, Or}
use Rattle.sort_check.specs.declared.fault.SortRule.{SortRule}
use Rattle.sort_check.specs.declared.fault.SortRule.TheVariants.{WrongSort, Variables}
use Rattle.sort_check.specs.declared.scope.Variable.{Variable}
use Rattle.sort_check.specs.declared.terms.Sorted.{Sorted}
use Rattle.sort_check.specs.Outcomes.{Outcome, and_then, mapped, each}
use Rattle.sort_check.specs.Symbols.{Text, head, known}
use Rattle.sort_check.specs.Denotation.{Setting, State, beside, atom, equal, equation, joined, variable_sort, bound_variable, quantified, closed, argument, denoted_term, known_sort, denoted_form}
use Rattle.sort_check.specs.code.Denotation.{bound}
use Rattle.sort_check.proofs.Equations.{new_predicate, denoted_form-True, denoted_form-False, denoted_form-Atom, denoted_form-Eq, denoted_form-Neq, denoted_form-Not, denoted_form-And, denoted_form-Or, denoted_form-Binary, denoted_form-Bind}
use Rattle.sort_check.specs.Sorting.{Extends}
use Rattle.sort_check.proofs.Inducing.{form_induction}
use Rattle.sort_check.proofs.Stepping.{at_ok, then_ok, mapped_ok}
use Rattle.sort_check.proofs.TermSorts.{sorts_of, sorts_over-append, grows_not, grows_on, kept_sort, head_of, HasSort, terms_fit, arguments_fit}

-- The formula is well-sorted in the vocabulary behind it, and all that it binds was counted.
pub record IsDenoted (s t : State) (scope : List ℕ) (a : Form) : Type 0 where
  pub grows : Extends s.vocabulary t.vocabulary
  pub depth : s.bound + binder_depth a ≤ t.bound
  pub few : s.bound ≤ 250 → t.bound ≤ 250
  pub fits : is_sorted t.vocabulary scope a ≡ true

-- The same of a formula without binders, and its vocabularies.
pub record IsPlain (v w : Vocabulary) (scope : List ℕ) (a : Form) : Type 0 where
  pub grows : Extends v w
  pub depth : binder_depth a ≡ 0
  pub fits : is_sorted w scope a ≡ true

terms_of_each : (ts : List STerm) → AllByRecursion (λ t. (here : Setting) (scope : List Variable) (asked : Option ℕ) (v w : Vocabulary) (x : Sorted) → denoted_term here scope t asked v ≡ Ok (x, w) → HasSort v w (sorts_of scope) x) ts
terms_of_each [] = tt
terms_of_each (t ∷ ts) = (terms_fit t, terms_of_each ts)

atom_fits : (here : Setting) (scope : List Variable) (p : Text) (ts : List STerm) (v w : Vocabulary) (a : Form) → atom here scope p ts v ≡ Ok (a, w) → IsPlain v w (sorts_of scope) a
atom_fits here scope p ts v w a e =
    let parts = then_ok (head here.declared p Predicate (length ts) (new_predicate here scope v p ts) v) (λ g u. mapped (Atom g) (each (λ place t. argument g place (denoted_term here scope t)) 0 ts u)) a w e in
    let found = head_of here scope p Predicate ts None v parts.1 parts.0 parts.2 in
    let made_of = mapped_ok (Atom parts.0) (each (λ place t. argument parts.0 place (denoted_term here scope t)) 0 ts parts.1) a w parts.3 in
    let fit = arguments_fit here scope parts.0 found.symbol ts 0 parts.1 w made_of.0 (terms_of_each ts) found.at (omega (arith, found.args)) made_of.1 in
    let fits : is_sorted w (sorts_of scope) (Atom parts.0 made_of.0) ≡ true =
    is_sorted-Atom w (sorts_of scope) parts.0 made_of.0
    ∙ ap (λ r. holds_of r (map (sort_of_term w (sorts_of scope)) made_of.0)) (fit.grows.grows.same_symbols parts.0 found.symbol found.at)
    ∙ ap (λ k. stated_by k (are_sorts (map (sort_of_term w (sorts_of scope)) made_of.0) found.symbol.args)) found.of_kind
    ∙ fit.sorts in
    subst (IsPlain v w (sorts_of scope)) made_of.2 (record {
      grows = grows_on v parts.1 w found.grows fit.grows;
      depth = binder_depth-Atom parts.0 made_of.0;
      fits = fits;
    })

equation_fits : (here : Setting) (scope : List Variable) (l r : STerm) (v w : Vocabulary) (a : Form) → equation here scope l r v ≡ Ok (a, w) → IsPlain v w (sorts_of scope) a
equation_fits here scope l r v w a e =
    let known = known_sort scope v r in
    let left = then_ok (denoted_term here scope l known v) (λ x u. and_then (denoted_term here scope r (Some x.sort) u) (equal x)) a w e in
    let right = then_ok (denoted_term here scope r (Some left.0.sort) left.1) (equal left.0) a w left.3 in
    let one = terms_fit l here scope known v left.1 left.0 left.2 in
    let two = terms_fit r here scope (Some left.0.sort) left.1 right.1 right.0 right.2 in
    let sort : sort_of_term right.1 (sorts_of scope) left.0.term ≡ Some left.0.sort = kept_sort left.1 right.1 two.grows (sorts_of scope) left.0.term left.0.sort one.sort in
    by left.0 right.0 right.1 sort two.sort (grows_on v left.1 right.1 one.grows two.grows) (left.0.sort == right.0.sort) refl right.3
  where
    by : (x y : Sorted) (u : Vocabulary) → sort_of_term u (sorts_of scope) x.term ≡ Some x.sort → sort_of_term u (sorts_of scope) y.term ≡ Some y.sort → Extends v u
        → (b : Bool) → (x.sort == y.sort) ≡ b → ◌≡◌ {A = Outcome SortRule Vocabulary Form} (cond b (Ok (Eq x.term y.term, u)) (Err WrongSort)) (Ok (a, w)) → IsPlain v w (sorts_of scope) a
    by x y u left right grows false is k = absurd (cc)
    by x y u left right grows true is k =
        at_ok {E = SortRule} (λ b o. IsPlain v o (sorts_of scope) b) (Eq x.term y.term) a u w k (record {
          grows = grows;
          depth = binder_depth-Eq x.term y.term;
          fits = rw (is_sorted-Eq, left, right) is;
        })

-- a formula without binders, beside what is bound
beside_fits : (n : ℕ) (scope : List ℕ) (v : Vocabulary) (o : Outcome SortRule Vocabulary Form) (a : Form) (t : State) → ((w : Vocabulary) (b : Form) → o ≡ Ok (b, w) → IsPlain v w scope b) → beside n o ≡ Ok (a, t)
    → IsDenoted (record { vocabulary = v; bound = n }) t scope a
beside_fits n scope v (Err x) a t plain e = absurd (cc)
beside_fits n scope v (Ok p) a t plain e =
    let good = plain p.1 p.0 refl in
    at_ok {E = SortRule} (λ b u. IsDenoted (record { vocabulary = v; bound = n }) u scope b) p.0 a (record { vocabulary = p.1; bound = n }) t e
    (record { grows = good.grows; depth = omega (arith, good.depth); few = λ h. h; fits = good.fits })

negated : (s t : State) (scope : List ℕ) (a : Form) → IsDenoted s t scope a → IsDenoted s t scope (Not a)
negated s t scope a good = record { grows = good.grows; depth = rw binder_depth-Not good.depth; few = good.few; fits = rw is_sorted-Not good.fits }

-- ---- lists of formulas

abbrev pub FormFits : Surface → Type 0
FormFits a = (here : Setting) (scope : List Variable) (s t : State) (form : Form) → 0 < length s.vocabulary.sorts → denoted_form here a scope s ≡ Ok (form, t) → IsDenoted s t (sorts_of scope) form

-- Each of the formulas is well-sorted in the vocabulary behind them all.
pub record AreDenoted (s t : State) (scope : List ℕ) (as_ : List Form) : Type 0 where
  pub grows : Extends s.vocabulary t.vocabulary
  pub depth : s.bound + greatest (map binder_depth as_) ≤ t.bound
  pub few : s.bound ≤ 250 → t.bound ≤ 250
  pub fits : list_all (is_sorted t.vocabulary scope) as_ ≡ true

each_fits : (here : Setting) (scope : List Variable) (as_ : List Surface) (place : ℕ) (s t : State) (forms : List Form) → AllByRecursion FormFits as_ → 0 < length s.vocabulary.sorts → each (λ p a. denoted_form here a scope) place as_ s ≡ Ok (forms, t) → AreDenoted s t (sorts_of scope) forms
each_fits here scope [] place s t forms all some e =
    at_ok {E = SortRule} (λ (as_ : List Form) u. AreDenoted s u (sorts_of scope) as_) [] forms s t e (record { grows = grows_not s.vocabulary; depth = omega arith; few = λ h. h; fits = refl })
each_fits here scope (a ∷ as_) place s t forms all some e =
    let parts = then_ok (denoted_form here a scope s) (λ y u. mapped (λ ys. y ∷ ys) (each (λ p b. denoted_form here b scope) (place + 1) as_ u)) forms t e in
    let one = all.0 here scope s parts.1 parts.0 some parts.2 in
    let more = mapped_ok (λ (ys : List Form). parts.0 ∷ ys) (each (λ p b. denoted_form here b scope) (place + 1) as_ parts.1) forms t parts.3 in
    let rest = each_fits here scope as_ (place + 1) parts.1 t more.0 all.1 (omega (arith, some, one.grows.grows.more_sorts)) more.1 in
    let first : is_sorted t.vocabulary (sorts_of scope) parts.0 ≡ true = grown_fits parts.1.vocabulary t.vocabulary rest.grows.grows parts.0 (sorts_of scope) one.fits in
    subst (AreDenoted s t (sorts_of scope)) more.2 (record {
      grows = grows_on s.vocabulary parts.1.vocabulary t.vocabulary one.grows rest.grows;
      depth = omega (arith, one.depth, rest.depth);
      few = λ h. rest.few (one.few h);
      fits = rw first rest.fits;
    })

-- ---- connectives

binary_fits : (o : BinOp) (s u t : State) (scope : List ℕ) (a b : Form) → IsDenoted s u scope a → IsDenoted u t scope b → IsDenoted s t scope (joined o a b)
binary_fits o s u t scope a b one two = record {
  grows = grows_on s.vocabulary u.vocabulary t.vocabulary one.grows two.grows;
  depth = deep o;
  few = λ h. two.few (one.few h);
  fits = fit o;
}
  where
    left : is_sorted t.vocabulary scope a ≡ true
    left = grown_fits u.vocabulary t.vocabulary two.grows.grows a scope one.fits

    low : s.bound + binder_depth a ≤ t.bound
    low = omega (arith, one.depth, two.depth)

    high : s.bound + binder_depth b ≤ t.bound
    high = omega (arith, one.depth, two.depth)

    deep : (o : BinOp) → s.bound + binder_depth (joined o a b) ≤ t.bound
    deep op.Imp = rw binder_depth-Imp (omega (arith, low, high))
    deep op.RevImp = rw binder_depth-Imp (omega (arith, low, high))
    deep op.Iff = rw binder_depth-Iff (omega (arith, low, high))
    deep op.Xor = rw (binder_depth-Not, binder_depth-Iff) (omega (arith, low, high))
    deep op.Nor = rw (binder_depth-Not, binder_depth-Or) (omega (arith, low, high))
    deep op.Nand = rw (binder_depth-Not, binder_depth-And) (omega (arith, low, high))

    fit : (o : BinOp) → is_sorted t.vocabulary scope (joined o a b) ≡ true
    fit op.Imp = rw (is_sorted-Imp, left, two.fits) refl
    fit op.RevImp = rw (is_sorted-Imp, two.fits, left) refl
    fit op.Iff = rw (is_sorted-Iff, left, two.fits) refl
    fit op.Xor = rw (is_sorted-Not, is_sorted-Iff, left, two.fits) refl
    fit op.Nor = rw (is_sorted-Not, is_sorted-Or, left, two.fits) refl
    fit op.Nand = rw (is_sorted-Not, is_sorted-And, left, two.fits) refl

-- ---- binders

-- Variables that are bound have sorts that are there, and are counted; the vocabulary stays.
pub record AreBound (s t : State) (vs : List Variable) : Type 0 where
  pub same : t.vocabulary ≡ s.vocabulary
  pub counted : t.bound ≡ s.bound + length vs
  pub few : s.bound ≤ 250 → t.bound ≤ 250
  pub known : AllByRecursion (λ (x : Variable). x.sort < length s.vocabulary.sorts) vs

abbrev the_variable : Text → ℕ → Variable
the_variable name sort = record { name = name; sort = sort }

abbrev the_state : Vocabulary → ℕ → State
the_state v bound = record { vocabulary = v; bound = bound }

pub found_sort_below : (v : Vocabulary) (word : Text) (n : ℕ) → found_sort v word ≡ Some n → n < length v.sorts
found_sort_below v word n e = by (position (λ sort. pointwise nat_eq sort word) (drop 1 v.sorts)) refl e
  where
    by : (o : Option ℕ) → position (λ sort. pointwise nat_eq sort word) (drop 1 v.sorts) ≡ o → option_map (λ i. i + 1) o ≡ Some n → n < length v.sorts
    by None is k = absurd (cc)
    by (Some i) is k =
        let found = position-Some (λ sort. pointwise nat_eq sort word) (drop 1 v.sorts) i [] is in
        let same : i + 1 ≡ n = cc in
        omega (arith, found.0, same, length-drop 1 v.sorts)

-- a sort that is found is there
sort_known : (sort : Option SortName) (v w : Vocabulary) (x : ℕ) → 0 < length v.sorts → variable_sort sort v ≡ Ok (x, w) → (w ≡ v) × (x < length v.sorts)
sort_known None v w x some e = at_ok {E = SortRule} (λ y u. (u ≡ v) × (y < length v.sorts)) 0 x v w e (refl, some)
sort_known (Some name.Individual) v w x some e = at_ok {E = SortRule} (λ y u. (u ≡ v) × (y < length v.sorts)) 0 x v w e (refl, some)
sort_known (Some name.Truth) v w x some e = absurd (cc)
sort_known (Some (name.Word word)) v w x some e = by (found_sort v word) refl e
  where
    by : (o : Option ℕ) → found_sort v word ≡ o → known o v ≡ Ok (x, w) → (w ≡ v) × (x < length v.sorts)
    by None is k = absurd (cc)
    by (Some n) is k = at_ok {E = SortRule} (λ y u. (u ≡ v) × (y < length v.sorts)) n x v w k (refl, found_sort_below v word n is)

bound_one : (x : BoundVar) (s t : State) (y : Variable) → 0 < length s.vocabulary.sorts → bound_variable x s ≡ Ok (y, t) → (t ≡ record { vocabulary = s.vocabulary; bound = s.bound + 1 }) × (y.sort < length s.vocabulary.sorts) × (s.bound ≡ 250 → ⊥)
bound_one x s t y some e = by (s.bound == 250) refl e
  where
    by : (b : Bool) → (s.bound == 250) ≡ b → ◌≡◌ {A = Outcome SortRule State Variable} (cond b (Err Variables) (mapped (λ sort. record { name = x.name; sort = sort }) (beside (s.bound + 1) (variable_sort x.sort s.vocabulary)))) (Ok (y, t))
        → (t ≡ record { vocabulary = s.vocabulary; bound = s.bound + 1 }) × (y.sort < length s.vocabulary.sorts) × (s.bound ≡ 250 → ⊥)
    by true at k = absurd (cc)
    by false at k =
        let inner = mapped_ok (λ (sort : ℕ). the_variable x.name sort) (beside (s.bound + 1) (variable_sort x.sort s.vocabulary)) y t k in
        let good = counted (variable_sort x.sort s.vocabulary) refl inner.0 inner.1 in
        (good.0, subst (λ (z : Variable). z.sort < length s.vocabulary.sorts) inner.2 good.1, λ full. grind (arith, nat_tests))
      where
        counted : (o : Outcome SortRule Vocabulary ℕ) → variable_sort x.sort s.vocabulary ≡ o → (n : ℕ) → beside (s.bound + 1) o ≡ Ok (n, t) → (t ≡ record { vocabulary = s.vocabulary; bound = s.bound + 1 }) × (n < length s.vocabulary.sorts)
        counted (Err z) is n k = absurd (cc)
        counted (Ok p) is n k =
            let good = sort_known x.sort s.vocabulary p.1 p.0 some is in
            at_ok {E = SortRule} (λ m (u : State). (u ≡ record { vocabulary = s.vocabulary; bound = s.bound + 1 }) × (m < length s.vocabulary.sorts)) p.0 n (record { vocabulary = p.1; bound = s.bound + 1 }) t k
            (ap (λ (v : Vocabulary). the_state v (s.bound + 1)) good.0, good.1)

bound_each : (xs : List BoundVar) (place : ℕ) (s t : State) (vs : List Variable) → 0 < length s.vocabulary.sorts → each (λ p. bound_variable) place xs s ≡ Ok (vs, t) → AreBound s t vs
bound_each [] place s t vs some e = at_ok {E = SortRule} (λ (ys : List Variable) u. AreBound s u ys) [] vs s t e (record { same = refl; counted = omega arith; few = λ h. h; known = tt })
bound_each (x ∷ xs) place s t vs some e =
    let parts = then_ok (bound_variable x s) (λ y u. mapped (λ ys. y ∷ ys) (each (λ p. bound_variable) (place + 1) xs u)) vs t e in
    let one = bound_one x s parts.1 parts.0 some parts.2 in
    let more = mapped_ok (λ (ys : List Variable). parts.0 ∷ ys) (each (λ p. bound_variable) (place + 1) xs parts.1) vs t parts.3 in
    let same : parts.1.vocabulary ≡ s.vocabulary = ap (λ (u : State). u.vocabulary) one.0 in
    let count : parts.1.bound ≡ s.bound + 1 = ap (λ (u : State). u.bound) one.0 in
    let rest = bound_each xs (place + 1) parts.1 t more.0 (subst (λ (v : Vocabulary). 0 < length v.sorts) (sym same) some) more.1 in
    subst (AreBound s t) more.2 (record {
      same = rest.same ∙ same;
      counted = omega (arith, rest.counted, count);
      few = λ h. rest.few (let more : s.bound + 1 ≤ 250 = omega (arith, h, one.2) in omega (arith, more, count));
      known = (one.1, subst (λ (v : Vocabulary). AllByRecursion (λ (y : Variable). y.sort < length v.sorts) more.0) same rest.known);
    })

-- the binders around a formula
pub closed_depth : (quant : Quant) (vs : List Variable) (a : Form) → binder_depth (closed quant vs a) ≡ length vs + binder_depth a
closed_depth quant [] a = omega arith
closed_depth quant (x ∷ vs) a = by quant ∙ more (closed_depth quant vs a)
  where
    by : (k : Quant) → binder_depth (quantified k x.sort (closed quant vs a)) ≡ binder_depth (closed quant vs a) + 1
    by q.All = binder_depth-All x.sort (closed quant vs a)
    by q.Ex = binder_depth-Ex x.sort (closed quant vs a)

    more : binder_depth (closed quant vs a) ≡ length vs + binder_depth a → binder_depth (closed quant vs a) + 1 ≡ suc (length vs) + binder_depth a
    more e = omega (arith, e)

less_test : (a b : ℕ) → a < b → nat_lt a b ≡ true
less_test a b h = grind (arith, nat_tests)

pub closed_fits : (quant : Quant) (vs : List Variable) (scope : List Variable) (w : Vocabulary) (a : Form) → AllByRecursion (λ (x : Variable). x.sort < length w.sorts) vs → is_sorted w (sorts_of (scope ++ vs)) a ≡ true → is_sorted w (sorts_of scope) (closed quant vs a) ≡ true
closed_fits quant [] scope w a known fits = subst (λ (xs : List Variable). is_sorted w (sorts_of xs) a ≡ true) (append-nil scope) fits
closed_fits quant (x ∷ vs) scope w a known fits =
    let inner : is_sorted w (sorts_of (scope ++ x ∷ [])) (closed quant vs a) ≡ true = closed_fits quant vs (scope ++ x ∷ []) w a known.1 (subst (λ (xs : List Variable). is_sorted w (sorts_of xs) a ≡ true) (sym (append_assoc scope (x ∷ []) vs)) fits) in
    let under : is_sorted w (x.sort ∷ sorts_of scope) (closed quant vs a) ≡ true = subst (λ (sorts : List ℕ). is_sorted w sorts (closed quant vs a) ≡ true) (sorts_over-append scope (x ∷ []) []) inner in
    by quant under
  where
    by : (k : Quant) → is_sorted w (x.sort ∷ sorts_of scope) (closed quant vs a) ≡ true → is_sorted w (sorts_of scope) (quantified k x.sort (closed quant vs a)) ≡ true
    by q.All under = rw (is_sorted-All, less_test x.sort (length w.sorts) known.0) under
    by q.Ex under = rw (is_sorted-Ex, less_test x.sort (length w.sorts) known.0) under

known_on : (v w : Vocabulary) → Extends v w → (vs : List Variable) → AllByRecursion (λ (x : Variable). x.sort < length v.sorts) vs → AllByRecursion (λ (x : Variable). x.sort < length w.sorts) vs
known_on v w grows [] known = tt
known_on v w grows (x ∷ vs) known = (omega (arith, known.0, grows.grows.more_sorts), known_on v w grows vs known.1)

bind_fits : (here : Setting) (quant : Quant) (xs : List BoundVar) (a : Surface) → FormFits a → (scope : List Variable) (s t : State) (form : Form) → 0 < length s.vocabulary.sorts → bound here quant xs a scope s ≡ Ok (form, t) → IsDenoted s t (sorts_of scope) form
bind_fits here quant xs a fits scope s t form some e =
    let parts = then_ok (each (λ p. bound_variable) 0 xs s) (λ vs u. mapped (closed quant vs) (denoted_form here a (scope ++ vs) u)) form t e in
    let vars = bound_each xs 0 s parts.1 parts.0 some parts.2 in
    let inner = mapped_ok (closed quant parts.0) (denoted_form here a (scope ++ parts.0) parts.1) form t parts.3 in
    let grew : Extends s.vocabulary parts.1.vocabulary = subst (Extends s.vocabulary) (sym vars.same) (grows_not s.vocabulary) in
    let body = fits here (scope ++ parts.0) parts.1 t inner.0 (omega (arith, some, grew.grows.more_sorts)) inner.1 in
    let grows = grows_on s.vocabulary parts.1.vocabulary t.vocabulary grew body.grows in
    subst (IsDenoted s t (sorts_of scope)) inner.2 (record {
      grows = grows;
      depth = omega (arith, closed_depth quant parts.0 inner.0, body.depth, vars.counted);
      few = λ h. body.few (vars.few h);
      fits = closed_fits quant parts.0 scope t.vocabulary inner.0 (known_on s.vocabulary t.vocabulary grows parts.0 vars.known) body.fits;
    })

-- ---- each formula that is denoted is well-sorted
pub forms_fit : (a : Surface) → FormFits a
forms_fit = form_induction FormFits (record {
  truth = λ here scope s t form some e. at_ok {E = SortRule} (λ b u. IsDenoted s u (sorts_of scope) b) (And []) form s t (rw denoted_form-True at e)
      (record { grows = grows_not s.vocabulary; depth = rw binder_depth-And (omega arith); few = λ h. h; fits = rw is_sorted-And refl });
  falsity = λ here scope s t form some e. at_ok {E = SortRule} (λ b u. IsDenoted s u (sorts_of scope) b) (Or []) form s t (rw denoted_form-False at e)
      (record { grows = grows_not s.vocabulary; depth = rw binder_depth-Or (omega arith); few = λ h. h; fits = rw is_sorted-Or refl });
  atom = λ p ts here scope s t form some e. beside_fits s.bound (sorts_of scope) s.vocabulary (atom here scope p ts s.vocabulary) form t (λ w b k. atom_fits here scope p ts s.vocabulary w b k) (rw denoted_form-Atom at e);
  eq = λ l r here scope s t form some e. beside_fits s.bound (sorts_of scope) s.vocabulary (equation here scope l r s.vocabulary) form t (λ w b k. equation_fits here scope l r s.vocabulary w b k) (rw denoted_form-Eq at e);
  neq = λ l r here scope s t form some e.
      let inner = mapped_ok Not (beside s.bound (equation here scope l r s.vocabulary)) form t (rw denoted_form-Neq at e) in
      subst (IsDenoted s t (sorts_of scope)) inner.2 (negated s t (sorts_of scope) inner.0 (beside_fits s.bound (sorts_of scope) s.vocabulary (equation here scope l r s.vocabulary) inner.0 t (λ w b k. equation_fits here scope l r s.vocabulary w b k) inner.1));
  not = λ a fits here scope s t form some e.
      let inner = mapped_ok Not (denoted_form here a scope s) form t (rw denoted_form-Not at e) in
      subst (IsDenoted s t (sorts_of scope)) inner.2 (negated s t (sorts_of scope) inner.0 (fits here scope s t inner.0 some inner.1));
  and = λ as_ all here scope s t form some e.
      let inner = mapped_ok And (each (λ p a. denoted_form here a scope) 0 as_ s) form t (rw denoted_form-And at e) in
      let good = each_fits here scope as_ 0 s t inner.0 all some inner.1 in
      subst (IsDenoted s t (sorts_of scope)) inner.2 (record { grows = good.grows; depth = rw binder_depth-And good.depth; few = good.few; fits = rw is_sorted-And good.fits });
  or = λ as_ all here scope s t form some e.
      let inner = mapped_ok Or (each (λ p a. denoted_form here a scope) 0 as_ s) form t (rw denoted_form-Or at e) in
      let good = each_fits here scope as_ 0 s t inner.0 all some inner.1 in
      subst (IsDenoted s t (sorts_of scope)) inner.2 (record { grows = good.grows; depth = rw binder_depth-Or good.depth; few = good.few; fits = rw is_sorted-Or good.fits });
  binary = λ o a b one two here scope s t form some e.
      let parts = then_ok (denoted_form here a scope s) (λ x u. mapped (joined o x) (denoted_form here b scope u)) form t (rw denoted_form-Binary at e) in
      let left = one here scope s parts.1 parts.0 some parts.2 in
      let inner = mapped_ok (joined o parts.0) (denoted_form here b scope parts.1) form t parts.3 in
      let right = two here scope parts.1 t inner.0 (omega (arith, some, left.grows.grows.more_sorts)) inner.1 in
      subst (IsDenoted s t (sorts_of scope)) inner.2 (binary_fits o s parts.1 t (sorts_of scope) parts.0 inner.0 left right);
  bind = λ quant xs a fits here scope s t form some e. bind_fits here quant xs a fits scope s t form some (rw denoted_form-Bind at e);
})
