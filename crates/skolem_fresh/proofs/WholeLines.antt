-- Lines that say of functions that they choose, taken apart.
use Rattle.std.specs.Prelude.{ℕ, ◌≡◌, ◌-◌, ◌<◌, ◌≤◌, ◌^◌, ◌||◌, ◌==◌, Bool, true, false, List, [], ◌∷◌, ◌++◌, length, reverse, slice_get, Some, refl}
use Rattle.std.specs.List.{AllByRecursion as Each}
use Rattle.std.proofs.Common.{ap, sym, subst, ◌∙◌, arith, append_assoc, ◌⊎◌, inl, inr}
use Rattle.std.proofs.lemmas.Bool.Decides.{nat_tests}
use Rattle.std.proofs.lemmas.Option.{slice_get_within}
use Rattle.std.proofs.lemmas.List.{append-nil}
use Rattle.std.proofs.lemmas.Map.Steps.{length-le_from_distinct_below}
use Rattle.fof_terms.specs.declared.form.Form.{Form, Imp, All}
use Rattle.fof_terms.specs.Vocabulary.{Vocabulary}
use Rattle.fof_terms.proofs.Trees.{Imp-injective, All-injective}
use Rattle.fof_terms.specs.Occurs.{occurs_in}
use Rattle.fof_terms.proofs.OccursFacts.{occurs_in-Imp}
use Rattle.fof_terms.specs.Sorts.{Sorted, SortedTo, is_sort, are_sorts, sort_of_term, binder_depth}
use Rattle.fof_terms.proofs.SortsFacts.{sort_of_term-Var}
use Rattle.fof_terms.proofs.LiftingLaws.{both}
use Rattle.fof_terms.specs.declared.term.Term.{Var}
use Rattle.kernel.specs.Statements.{Statements}
use Rattle.kernel.specs.Proves.{Proves, all_over}
use Rattle.kernel.proofs.Building.{by_hyp, by_imp_i, by_all_i}
use Rattle.kernel.specs.Entries.{for_all, Admits, IsFresh, with_formula}
use Rattle.kernel.proofs.EntryLaws.{admits_more}
use Rattle.kernel.specs.declared.proof.Proof.{Proof, Hyp, ImpI, AllI}
use Rattle.kernel.specs.declared.entry.Entry.{Entry}
use Rattle.kernel.specs.declared.entry.Entry.TheVariants.{Lemma}
use Rattle.derive_kit.specs.Derived.{IsDerivedFrom, HasCited, Adds, with_formulas}
use Rattle.skolem_fresh.specs.declared.just.Use.{Use}
use Rattle.skolem_fresh.specs.declared.just.SkolemJust.{SkolemJust}
use Rattle.skolem_fresh.specs.declared.just.SkolemJust.TheVariants.{Skolem, Choice}
use Rattle.skolem_fresh.specs.Justified.{ShowsChoice}
use Rattle.skolem_fresh.specs.code.Leading.{leading}
use Rattle.fof_terms.specs.Standing.{is_listed}
use Rattle.skolem_fresh.specs.code.Only.{only_has}
use Rattle.skolem_fresh.specs.Uses.{Fits, AreArguments}
use Rattle.skolem_fresh.specs.ChoiceRule.{IsOpened, MayChooseFor, Chooses}
use Rattle.skolem_fresh.specs.Choosing.{IsWithin}
use Rattle.skolem_fresh.specs.code.Choosing.{ChoosesUnder}
use Rattle.skolem_fresh.specs.code.Told.{AreTold, IsOpenable, IsLed, IsTellable, ToldUnder, IsShown}
use Rattle.skolem_fresh.proofs.Chosen.{scope_under, never_both, imp_room, within_all, within_left, within_start, arguments_only}
use Rattle.skolem_fresh.proofs.Distinct.{same_among}
use Rattle.skolem_fresh.proofs.Opened.{leading_opened}
use Rattle.skolem_fresh.proofs.Argued.{sorts_at, sort_is}
use Rattle.skolem_fresh.proofs.Openable.{use_symbol}
use Rattle.skolem_fresh.specs.Entered.{formulas_told}
use Rattle.skolem_fresh.proofs.Entering.{enter, told_lacks, neither}
use Rattle.skolem_fresh.proofs.Admitting.{for_all_occurs}

-- under a quantifier
inner_choice : (t : Statements) (scope : List ℕ) (line body left right : Form) (s k : ℕ) (uses : List Use) → line ≡ All s body → (sorts : List ℕ) → ChoosesUnder t scope line sorts left right k uses
    → (rest : List ℕ) × ChoosesUnder t (s ∷ scope) body rest left right k uses
inner_choice t scope line body left right s k uses is [] c = absurd (never_both s body left right (sym is ∙ c.is))
inner_choice t scope line body left right s k uses is (r ∷ sorts) c =
    let same = All-injective s r body (for_all sorts (Imp left right)) (sym is ∙ c.is) in
    let scopes : reverse (r ∷ sorts) ++ scope ≡ reverse sorts ++ s ∷ scope = scope_under r sorts scope ∙ ap (λ x. reverse sorts ++ x ∷ scope) (sym same.0) in
    (sorts, record { is = same.1; some = c.some; opened = c.opened; may = subst (λ sc. MayChooseFor t sc left uses) scopes c.may })

pub inner : (t : Statements) (scope : List ℕ) (line body : Form) (s : ℕ) (uses : List Use) → line ≡ All s body → IsTellable t scope line uses → IsTellable t (s ∷ scope) body uses
inner t scope line body s uses is d =
    let c = inner_choice t scope line body d.left d.right s d.count uses is d.sorts d.chooses in
    record { within = within_all t.vocabulary scope s body (subst (IsWithin t.vocabulary scope) is d.within); sorts = c.0; left = d.left; right = d.right; count = d.count; chooses = c.1 }

pub shown_all : (line body : Form) (s : ℕ) (uses : List Use) (n : ℕ) (old new : List Entry) (part made : Proof) → line ≡ All s body → made ≡ AllI s part → IsShown body uses n old new part → IsShown line uses n old new made
unfolding inner
shown_all line body s uses n old new part made is em p = record {
  told = p.told;
  gained = p.gained;
  are = λ t scope d. p.are t (s ∷ scope) (inner t scope line body s uses is d);
  shows = λ t v h u e d added.
      let sorted : Sorted t.vocabulary v (All s body) = subst (Sorted t.vocabulary v) is (subst (λ w. Sorted w v line) e d.within.sorted) in
      rw (is, em) (by_all_i t v h s body part sorted (p.shows t (s ∷ v) (all_over h) u e (inner u v line body s uses is d) added));
}

-- the functions' variables are of the scope, so they are few
one_of : (a b : Bool) → (a || b) ≡ true → (a ≡ true) ⊎ (b ≡ true)
one_of true b e = inl refl
one_of false b e = inr e

variables_below : (v : Vocabulary) (scope xs args : List ℕ) → are_sorts (sorts_at v scope xs) args ≡ true → (q : ℕ) → is_listed xs q ≡ true → q < length scope
variables_below v scope [] args e q h = cc
variables_below v scope (x ∷ xs) [] e q h = cc
variables_below v scope (x ∷ xs) (s ∷ args) e q h =
    let parts = both (is_sort (sort_of_term v scope (Var x)) s) (are_sorts (sorts_at v scope xs) args) e in
    let at : slice_get scope x ≡ Some s = sym (sort_of_term-Var v scope x) ∙ sort_is (sort_of_term v scope (Var x)) s parts.0 in
    elim (one_of (x == q) (is_listed xs q) h) [
      | inl here ↦ let same : x ≡ q = grind (arith, nat_tests) in subst (λ n. n < length scope) same (slice_get_within scope x s at)
      | inr there ↦ variables_below v scope xs args parts.1 q there
    ]

pub few_variables : (v : Vocabulary) (scope : List ℕ) (left : Form) (uses : List Use) → length scope ≤ 1000000000 → Each (Fits v scope) uses → Each (λ (u : Use). AreArguments u.variables left) uses → Each (λ (u : Use). length u.variables ≤ 1000000000) uses
few_variables v scope left [] few fits args = tt
few_variables v scope left (u ∷ uses) few fits args =
    let symbol = use_symbol v scope u fits.0 in
    let below : length u.variables ≤ length scope = length-le_from_distinct_below u.variables (length scope) args.0.distinct (λ q h. variables_below v scope u.variables symbol.0.args symbol.3 q (sym (same_among u.variables q) ∙ h)) in
    (omega arith, few_variables v scope left uses few fits.1 args.1)

only_variables : (left : Form) (uses : List Use) → Each (λ (u : Use). AreArguments u.variables left) uses → Each (λ (u : Use). only_has u.variables 0 left ≡ true) uses
only_variables left [] args = tt
only_variables left (u ∷ uses) args = (arguments_only u.variables left args.0, only_variables left uses args.1)

openable_by : (t : Statements) (scope : List ℕ) (left right : Form) (k : ℕ) (uses : List Use) → IsWithin t.vocabulary scope (Imp left right) → IsOpened k uses left right → MayChooseFor t scope left uses → IsOpenable t.vocabulary scope k uses left right
openable_by t scope left right k uses w o m = record {
  within = within_left t.vocabulary scope left right w;
  opened = o;
  fits = m.fits;
  few = let room = (imp_room t.vocabulary scope left right w).0 in few_variables t.vocabulary scope left uses (omega arith) m.fits m.arguments;
  variables = m.variables;
  same = m.same;
  only = only_variables left uses m.arguments;
}

-- the line is the implication itself
record AtImp (t : Statements) (scope : List ℕ) (l r : Form) (uses : List Use) (d_left d_right : Form) (d_count : ℕ) : Type 0 where
  pub same_left : d_left ≡ l
  pub same_right : d_right ≡ r
  pub opened : IsOpened d_count uses l r
  pub may : MayChooseFor t scope l uses

at_imp : (t : Statements) (scope : List ℕ) (line l r left right : Form) (k : ℕ) (uses : List Use) → line ≡ Imp l r → (sorts : List ℕ) → ChoosesUnder t scope line sorts left right k uses → AtImp t scope l r uses left right k
at_imp t scope line l r left right k uses is [] c =
    let same = Imp-injective l r left right (sym is ∙ c.is) in
    record { same_left = sym same.0; same_right = sym same.1; opened = rw (same.0, same.1) c.opened; may = rw same.0 c.may }
at_imp t scope line l r left right k uses is (s ∷ sorts) c = absurd (never_both s (for_all sorts (Imp left right)) l r (sym c.is ∙ is))

counted : (k : ℕ) (uses : List Use) (l r : Form) → IsOpened k uses l r → k ≡ leading l - leading r
counted k uses l r o = let total = leading_opened k uses l r o in omega arith

module _ (line l r : Form) (uses : List Use) (is : line ≡ Imp l r) where
  pub imp_openable : (t : Statements) (scope : List ℕ) → IsTellable t scope line uses → IsOpenable t.vocabulary scope (leading l - leading r) uses l r
  imp_openable t scope d =
      let a = at_imp t scope line l r d.left d.right d.count uses is d.sorts d.chooses in
      let w : IsWithin t.vocabulary scope (Imp l r) = subst (IsWithin t.vocabulary scope) is d.within in
      subst (λ k. IsOpenable t.vocabulary scope k uses l r) (counted d.count uses l r a.opened) (openable_by t scope l r d.count uses w a.opened a.may)

  imp_told : (told : List Entry) → AreTold (leading l - leading r) uses l told → ToldUnder line uses told
  imp_told told are t scope d =
      let a = at_imp t scope line l r d.left d.right d.count uses is d.sorts d.chooses in
      subst (λ b. AreTold d.count uses b told) (sym a.same_left) (subst (λ k. AreTold k uses l told) (sym (counted d.count uses l r a.opened)) are)

  pub shown_imp : (n : ℕ) (old new : List Entry) (part made : Proof) → made ≡ ImpI l part → IsLed (leading l - leading r) uses l r n (Hyp 0) old new part → IsShown line uses n old new made
  shown_imp n old new part made em p = record {
    told = p.told;
    gained = p.gained;
    are = imp_told p.told p.are;
    shows = λ t v h u e d added.
        let o : IsOpenable t.vocabulary v (leading l - leading r) uses l r = subst (λ w. IsOpenable w v (leading l - leading r) uses l r) e (imp_openable u v d) in
        rw (is, em) (by_imp_i t v h l r part o.within.sorted (p.leads t v (l ∷ h) o added (by_hyp t v (l ∷ h) 0 l o.within.sorted refl)));
  }

-- the whole line
within_under : (v : Vocabulary) (sorts scope : List ℕ) (a : Form) → IsWithin v scope (for_all sorts a) → IsWithin v (reverse sorts ++ scope) a
within_under v [] scope a w = w
within_under v (s ∷ sorts) scope a w = subst (λ sc. IsWithin v sc a) (sym (scope_under s sorts scope)) (within_under v sorts (s ∷ scope) a (within_all v scope s (for_all sorts a) w))

pub tellable : (t : Statements) (line left right : Form) (sorts : List ℕ) (k : ℕ) (uses : List Use) → SortedTo 1000000000 t.vocabulary [] line → Chooses t line sorts left right k uses → IsTellable t [] line uses
tellable t line left right sorts k uses s c = record {
  within = within_start t.vocabulary line s;
  sorts = sorts;
  left = left;
  right = right;
  count = k;
  chooses = record { is = c.is; some = c.some; opened = c.opened; may = subst (λ sc. MayChooseFor t sc left uses) (sym (append-nil (reverse sorts))) c.may };
}

other_theory : (t u : Statements) (scope : List ℕ) (left : Form) (uses : List Use) → u.vocabulary ≡ t.vocabulary → ((k : ℕ) → IsFresh k t → IsFresh k u) → MayChooseFor t scope left uses → Each (λ (x : Use). IsFresh x.function u) uses
other_theory t u scope left uses e f m = go uses m.new.fresh where
  go : (us : List Use) → Each (λ (x : Use). IsFresh x.function t) us → Each (λ (x : Use). IsFresh x.function u) us
  go [] h = tt
  go (x ∷ us) h = (f x.function h.0, go us h.1)

module _ (t : Statements) (cites : List ℕ) (line : Form) (uses : List Use) (d : IsTellable t [] line uses) (n : ℕ) (count : n ≡ length t.formulas) (new : List Entry) (made : Proof) (p : IsShown line uses n [] new made) where
  all_adds : (u : Statements) → HasCited t cites u → Adds u (p.told ++ Lemma made ∷ []) (formulas_told t.vocabulary p.told) line
  all_adds u h =
      let w : IsWithin t.vocabulary [] (for_all d.sorts (Imp d.left d.right)) = subst (IsWithin t.vocabulary []) d.chooses.is d.within in
      let w' : IsWithin t.vocabulary (reverse d.sorts ++ []) (Imp d.left d.right) = within_under t.vocabulary d.sorts [] (Imp d.left d.right) w in
      let o : IsOpenable t.vocabulary (reverse d.sorts ++ []) d.count uses d.left d.right = openable_by t (reverse d.sorts ++ []) d.left d.right d.count uses w' d.chooses.opened d.chooses.may in
      let o' : IsOpenable u.vocabulary (reverse d.sorts ++ []) d.count uses d.left d.right = subst (λ v. IsOpenable v (reverse d.sorts ++ []) d.count uses d.left d.right) (sym h.vocabulary) o in
      let are = p.are t [] d in
      let m = d.chooses.may in
      let e = enter d.count u (reverse d.sorts ++ []) uses d.left d.right p.told are o' m.new.distinct (other_theory t u (reverse d.sorts ++ []) d.left uses h.vocabulary h.fresh m) m.absent in
      let fs = formulas_told u.vocabulary p.told in
      let same : fs ≡ formulas_told t.vocabulary p.told = ap (λ v. formulas_told v p.told) h.vocabulary in
      let behind : u.formulas ++ fs ≡ u.formulas ++ (fs ++ []) = ap (λ (gs : List Form). u.formulas ++ gs) (sym (append-nil fs)) in
      let added = e.stands (with_formulas u fs) refl u.formulas [] behind n (h.count ∙ sym count) in
      let shown : Proves (with_formulas u fs) [] [] made line = p.shows (with_formulas u fs) [] [] t (sym h.vocabulary) d added in
      let last = admits_more u (with_formulas u fs) (with_formula (with_formulas u fs) line) p.told (Lemma made) e.admits (line, shown) (line, shown, refl) in
      let end : with_formula (with_formulas u fs) line ≡ with_formulas u (formulas_told t.vocabulary p.told ++ line ∷ []) = ap (λ (gs : List Form). record u { formulas = gs }) (append_assoc u.formulas fs (line ∷ []) ∙ ap (λ (gs : List Form). u.formulas ++ (gs ++ line ∷ [])) same) in
      record {
        legal = subst (Admits u (p.told ++ Lemma made ∷ [])) end last;
        speak = λ j fresh off.
            let inside : occurs_in j (Imp d.left d.right) ≡ false = sym (for_all_occurs j d.sorts (Imp d.left d.right)) ∙ ap (occurs_in j) (sym d.chooses.is) ∙ off in
            let parts = neither (occurs_in j d.left) (occurs_in j d.right) (sym (occurs_in-Imp j d.left d.right) ∙ inside) in
            told_lacks j d.count t.vocabulary uses d.left d.right p.told are d.chooses.opened parts.1;
      }

  pub derived : (entries : List Entry) → entries ≡ new ++ Lemma made ∷ [] → IsDerivedFrom t cites entries line
  derived entries e = record {
    first = p.told;
    last = made;
    is = e ∙ ap (λ (es : List Entry). es ++ Lemma made ∷ []) p.gained;
    before = formulas_told t.vocabulary p.told;
    adds = λ u h. subst (λ (es : List Entry). Adds u es (formulas_told t.vocabulary p.told) line) (sym (e ∙ ap (λ (es : List Entry). es ++ Lemma made ∷ []) p.gained)) (all_adds u h);
  }

-- as code meets the implication
module _ (line l0 r0 l r : Form) (uses : List Use) (is : line ≡ Imp l0 r0) (el : l ≡ l0) (er : r ≡ r0) where
  imp_is : line ≡ Imp l r
  imp_is = is ∙ (rw (el, er) refl)

  pub imp_depths : (t : Statements) (scope : List ℕ) → IsTellable t scope line uses → (binder_depth l < 2 ^ 32) × (binder_depth r < 2 ^ 32)
  imp_depths t scope d = let room = imp_room t.vocabulary scope l r (subst (IsWithin t.vocabulary scope) imp_is d.within) in (omega (arith, room.0), omega (arith, room.1))

  pub imp_less : (t : Statements) (scope : List ℕ) → IsTellable t scope line uses → (before after : ℕ) → before ≡ leading l → after ≡ leading r → after ≤ before
  imp_less t scope d before after e f =
      let a = at_imp t scope line l r d.left d.right d.count uses imp_is d.sorts d.chooses in
      let total = leading_opened d.count uses l r a.opened in
      omega arith

  pub imp_openable_at : (t : Statements) (scope : List ℕ) → IsTellable t scope line uses → (before after : ℕ) → before ≡ leading l → after ≡ leading r → IsOpenable t.vocabulary scope (before - after) uses l r
  imp_openable_at t scope d before after e f = rw (e, f) (imp_openable line l r uses imp_is t scope d)

  pub shown_imp_at : (before after : ℕ) → before ≡ leading l → after ≡ leading r → (n : ℕ) (old new : List Entry) (own part made : Proof) (left : Form) → own ≡ Hyp 0 → left ≡ l → made ≡ ImpI left part → IsLed (before - after) uses l r n own old new part
      → IsShown line uses n old new made
  shown_imp_at before after e f n old new own part made left eo ef em p =
      let p' : IsLed (leading l - leading r) uses l r n (Hyp 0) old new part = rw (sym e, sym f, sym eo) p in
      shown_imp line l r uses imp_is n old new part made (em ∙ ap (λ a. ImpI a part) ef) p'

-- as code meets the whole
pub is_choice : (t : Statements) (line : Form) (just : SkolemJust) → ShowsChoice t line just → ((uses : List Use) → just ≡ Choice uses → ⊥) → ⊥
is_choice t line (Skolem i uses) h none = h
is_choice t line (Choice uses) h none = none uses refl

pub told_from : (t : Statements) (line : Form) (just : SkolemJust) (uses slice : List Use) → just ≡ Choice uses → slice ≡ uses → SortedTo 1000000000 t.vocabulary [] line → ShowsChoice t line just → IsTellable t [] line slice
told_from t line just uses slice ej es s h =
    let c : ShowsChoice t line (Choice uses) = subst (ShowsChoice t line) ej h in
    subst (IsTellable t [] line) (sym es) (tellable t line c.1 c.2 c.0 c.3 uses s c.4)

pub told_by : (t : Statements) (cites : List ℕ) (line : Form) (uses : List Use) → IsTellable t [] line uses → (n : ℕ) → n ≡ length t.formulas → (start new : List Entry) → start ≡ [] → (part : Proof) → IsShown line uses n start new part
    → (made : Proof) → made ≡ part → (entries : List Entry) → entries ≡ new ++ Lemma made ∷ [] → IsDerivedFrom t cites entries line
told_by t cites line uses d n count start new es part p made em entries e =
    let p' : IsShown line uses n [] new part = subst (λ (old : List Entry). IsShown line uses n old new part) es p in
    derived t cites line uses d n count new part p' entries (e ∙ ap (λ q. new ++ Lemma q ∷ []) em)
