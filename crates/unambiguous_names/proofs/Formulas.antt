-- What terms and formulas make of a vocabulary, by single steps: symbols that are not there yet.
use Rattle.std.proofs.Common.{◌≡◌, ℕ, ◌+◌, ◌==◌, Bool, true, false, cond, List, [], ◌∷◌, ◌++◌, length, map, Option, Some, None, Ok, Err, refl, sym, ◌∙◌, ap, subst}
use Rattle.std.specs.List.{AllByRecursion}
use Rattle.std.proofs.lemmas.List.{length-map}
use Rattle.tptp_base.specs.declared.limit.LimitName.TheVariants.{Symbols}
use Rattle.tptp_base.specs.declared.surface.STerm.{STerm}
use Rattle.tptp_base.specs.declared.surface.STerm.TheVariants as tm
use Rattle.tptp_base.specs.declared.surface.Surface.{Surface}
use Rattle.tptp_base.specs.declared.surface.BoundVar.{BoundVar}
use Rattle.tptp_base.specs.declared.surface.SortName.{SortName}
use Rattle.tptp_base.specs.declared.surface.Quant.{Quant}
use Rattle.fof_terms.specs.Vocabulary.{Vocabulary, found_symbol}
use Rattle.fof_terms.specs.Sorts.{is_sort}
use Rattle.fof_terms.specs.declared.signature.Kind.{Kind}
use Rattle.fof_terms.specs.declared.signature.Kind.TheVariants.{Function, Predicate}
use Rattle.fof_terms.specs.declared.signature.Symbol.{Symbol}
use Rattle.fof_terms.specs.declared.term.Term.{Term, Var}
use Rattle.fof_terms.specs.declared.form.Form.{Form, Atom, Eq, Not, And, Or}
use Rattle.sort_check.specs.declared.fault.SortRule.{SortRule}
use Rattle.sort_check.specs.declared.fault.SortRule.TheVariants.{WrongSort, Arity, Limit, Variables}
use Rattle.sort_check.specs.declared.scope.Variable.{Variable}
use Rattle.sort_check.specs.declared.terms.Sorted.{Sorted}
use Rattle.sort_check.specs.Outcomes.{Outcome, and_then, mapped, each}
use Rattle.sort_check.specs.Symbols.{Text, place_sort, with_symbol, is_among, head, head_at, argument_sort, result_sort}
use Rattle.sort_check.specs.Denotation.{Setting, State, nearest, variable_at, fitting, argument, made, denoted_term, known_sort, beside, atom, equal, equation, joined, variable_sort, bound_variable, closed, denoted_form}
use Rattle.sort_check.specs.code.Denotation.{bound}
use Rattle.sort_check.proofs.Equations.{new_function, new_predicate, denoted_term-Var, denoted_term-App, denoted_form-True, denoted_form-False, denoted_form-Atom, denoted_form-Eq, denoted_form-Neq, denoted_form-Not, denoted_form-And, denoted_form-Or, denoted_form-Binary, denoted_form-Bind}
use Rattle.sort_check.proofs.Inducing.{term_induction, form_induction}
use Rattle.sort_check.proofs.Stepping.{at_ok, then_ok, mapped_ok}
use Rattle.sort_check.proofs.LineSorts.{named_same}
use Rattle.unambiguous_names.proofs.Steps.{Steps, and_symbol}

-- ---- binders: sorts are looked up alone

sort_same : (sort : Option SortName) (v w : Vocabulary) (x : ℕ) → variable_sort sort v ≡ Ok (x, w) → w ≡ v
sort_same None v w x e = at_ok {E = SortRule} (λ (y : ℕ) u. u ≡ v) 0 x v w e refl
sort_same (Some name) v w x e = named_same name v w x e

abbrev the_variable : Text → ℕ → Variable
the_variable name sort = record { name = name; sort = sort }

bound_same : (x : BoundVar) (s t : State) (y : Variable) → bound_variable x s ≡ Ok (y, t) → t.vocabulary ≡ s.vocabulary
bound_same x s t y e = by (s.bound == 250) e
  where
    counted : (o : Outcome SortRule Vocabulary ℕ) → variable_sort x.sort s.vocabulary ≡ o → (n : ℕ) → beside (s.bound + 1) o ≡ Ok (n, t) → t.vocabulary ≡ s.vocabulary
    counted (Err z) is n k = absurd (cc)
    counted (Ok p) is n k =
        at_ok {E = SortRule} (λ (m : ℕ) (u : State). u.vocabulary ≡ s.vocabulary) p.0 n (record { vocabulary = p.1; bound = s.bound + 1 }) t k (sort_same x.sort s.vocabulary p.1 p.0 is)

    by : (b : Bool) → ◌≡◌ {A = Outcome SortRule State Variable} (cond b (Err Variables) (mapped (λ sort. record { name = x.name; sort = sort }) (beside (s.bound + 1) (variable_sort x.sort s.vocabulary)))) (Ok (y, t)) → t.vocabulary ≡ s.vocabulary
    by true k = absurd (cc)
    by false k =
        let inner = mapped_ok (λ (sort : ℕ). the_variable x.name sort) (beside (s.bound + 1) (variable_sort x.sort s.vocabulary)) y t k in
        counted (variable_sort x.sort s.vocabulary) refl inner.0 inner.1

all_same : (xs : List BoundVar) (place : ℕ) (s t : State) (vs : List Variable) → each (λ p. bound_variable) place xs s ≡ Ok (vs, t) → t.vocabulary ≡ s.vocabulary
all_same [] place s t vs e = at_ok {E = SortRule} (λ (ys : List Variable) (u : State). u.vocabulary ≡ s.vocabulary) [] vs s t e refl
all_same (x ∷ xs) place s t vs e =
    let parts = then_ok (bound_variable x s) (λ y u. mapped (λ ys. y ∷ ys) (each (λ p. bound_variable) (place + 1) xs u)) vs t e in
    let more = mapped_ok (λ (ys : List Variable). parts.0 ∷ ys) (each (λ p. bound_variable) (place + 1) xs parts.1) vs t parts.3 in
    all_same xs (place + 1) parts.1 t more.0 more.1 ∙ bound_same x s parts.1 parts.0 parts.2

-- how many arguments a new symbol has
counted : (here : Setting) (scope : List Variable) (v : Vocabulary) (ts : List STerm) → length (map (place_sort here.by_place v) (map (known_sort scope v) ts)) ≡ length ts
counted here scope v ts = length-map (map (known_sort scope v) ts) (place_sort here.by_place v) ∙ length-map ts (known_sort scope v)

-- the same name, kind and number of arguments
pub same_search : (v : Vocabulary) (s : Symbol) (name : Text) (kind : Kind) (arity : ℕ) → s.name ≡ name → s.kind ≡ kind → length s.args ≡ arity → found_symbol v s.name s.kind (length s.args) ≡ found_symbol v name kind arity
same_search v s name kind arity named of_kind count =
    ap (λ (n : Text). found_symbol v n s.kind (length s.args)) named ∙ ap (λ (k : Kind). found_symbol v name k (length s.args)) of_kind ∙ ap (λ (n : ℕ). found_symbol v name kind n) count

module _ (R : Vocabulary → Vocabulary → Type 0) (steps : Steps R) where
  pub added_steps : (s : Symbol) (v w : Vocabulary) (n : ℕ) → found_symbol v s.name s.kind (length s.args) ≡ None → with_symbol s v ≡ Ok (n, w) → R v w
  added_steps s v w n new e = by (length v.symbols == 16777216) e
    where
      by : (b : Bool) → ◌≡◌ {A = Outcome SortRule Vocabulary ℕ} (cond b (Err (Limit Symbols)) (Ok (length v.symbols, and_symbol v s))) (Ok (n, w)) → R v w
      by true k = absurd (cc)
      by false k = at_ok {E = SortRule} (λ (m : ℕ) u. R v u) (length v.symbols) n (and_symbol v s) w k (steps.symbol v s new)

  head_steps : (declared : List Text) (name : Text) (kind : Kind) (arity : ℕ) (added : Symbol) (v w : Vocabulary) (number : ℕ) → added.name ≡ name → added.kind ≡ kind → length added.args ≡ arity → head declared name kind arity added v ≡ Ok (number, w) → R v w
  unfolding head
  head_steps declared name kind arity added v w number named of_kind count e = by (found_symbol v name kind arity) refl e
    where
      new : found_symbol v name kind arity ≡ None → (b : Bool) → ◌≡◌ {A = Outcome SortRule Vocabulary ℕ} (cond b (Err Arity) (with_symbol added v)) (Ok (number, w)) → R v w
      new none true k = absurd (cc)
      new none false k = added_steps added v w number (same_search v added name kind arity named of_kind count ∙ none) k

      by : (o : Option ℕ) → found_symbol v name kind arity ≡ o → head_at declared name added o v ≡ Ok (number, w) → R v w
      by (Some n) is k = at_ok {E = SortRule} (λ (m : ℕ) u. R v u) n number v w k (steps.none v)
      by None is k = new is (is_among name declared) k

  -- ---- terms

  abbrev TermSteps : STerm → Type 0
  TermSteps t = (here : Setting) (scope : List Variable) (asked : Option ℕ) (v w : Vocabulary) (x : Sorted) → denoted_term here scope t asked v ≡ Ok (x, w) → R v w

  one_argument : (here : Setting) (scope : List Variable) (number place : ℕ) (t : STerm) (v w : Vocabulary) (y : Term) → TermSteps t → argument number place (denoted_term here scope t) v ≡ Ok (y, w) → R v w
  one_argument here scope number place t v w y walks e =
      let asked = argument_sort v number place in
      let parts = then_ok (denoted_term here scope t asked v) (fitting number place) y w e in
      by parts.0 parts.1 (walks here scope asked v parts.1 parts.0 parts.2) (is_sort (argument_sort parts.1 number place) parts.0.sort) parts.3
    where
      by : (x : Sorted) (u : Vocabulary) → R v u → (b : Bool) → ◌≡◌ {A = Outcome SortRule Vocabulary Term} (cond b (Ok (x.term, u)) (Err WrongSort)) (Ok (y, w)) → R v w
      by x u walked false k = absurd (cc)
      by x u walked true k = at_ok {E = SortRule} (λ (z : Term) o. R v o) x.term y u w k walked

  arguments_step : (here : Setting) (scope : List Variable) (number : ℕ) (ts : List STerm) (place : ℕ) (v w : Vocabulary) (xs : List Term) → AllByRecursion TermSteps ts
      → each (λ p t. argument number p (denoted_term here scope t)) place ts v ≡ Ok (xs, w) → R v w
  arguments_step here scope number [] place v w xs all e = at_ok {E = SortRule} (λ (ys : List Term) u. R v u) [] xs v w e (steps.none v)
  arguments_step here scope number (t ∷ ts) place v w xs all e =
      let parts = then_ok (argument number place (denoted_term here scope t) v) (λ y u. mapped (λ ys. y ∷ ys) (each (λ p s. argument number p (denoted_term here scope s)) (place + 1) ts u)) xs w e in
      let more = mapped_ok (λ (ys : List Term). parts.0 ∷ ys) (each (λ p s. argument number p (denoted_term here scope s)) (place + 1) ts parts.1) xs w parts.3 in
      steps.on v parts.1 w (one_argument here scope number place t v parts.1 parts.0 all.0 parts.2) (arguments_step here scope number ts (place + 1) parts.1 w more.0 all.1 more.1)

  terms_step : (t : STerm) → TermSteps t
  terms_step = term_induction TermSteps (record { var = of_variable; app = of_application })
    where
      of_variable : (name : Text) → TermSteps (tm.Var name)
      of_variable name here scope asked v w x e = by (nearest scope name) (rw denoted_term-Var at e)
        where
          by : (o : Option (ℕ × ℕ)) → variable_at here.outside o v ≡ Ok (x, w) → R v w
          by None k = absurd (cc)
          by (Some p) k = at_ok {E = SortRule} (λ (y : Sorted) u. R v u) (record { term = Var p.0; sort = p.1 }) x v w k (steps.none v)

      of_application : (f : Text) (ts : List STerm) → AllByRecursion TermSteps ts → TermSteps (tm.App f ts)
      of_application f ts all here scope asked v w x e =
          let parts = then_ok (head here.declared f Function (length ts) (new_function here scope v f ts asked) v) (λ g u. mapped (made g (result_sort u g)) (each (λ place t. argument g place (denoted_term here scope t)) 0 ts u)) x w (rw denoted_term-App at e) in
          let made_of = mapped_ok (made parts.0 (result_sort parts.1 parts.0)) (each (λ place t. argument parts.0 place (denoted_term here scope t)) 0 ts parts.1) x w parts.3 in
          steps.on v parts.1 w (head_steps here.declared f Function (length ts) (new_function here scope v f ts asked) v parts.1 parts.0 refl refl (counted here scope v ts) parts.2)
          (arguments_step here scope parts.0 ts 0 parts.1 w made_of.0 all made_of.1)

  each_steps : (ts : List STerm) → AllByRecursion TermSteps ts
  each_steps [] = tt
  each_steps (t ∷ ts) = (terms_step t, each_steps ts)

  -- ---- atoms

  atom_steps : (here : Setting) (scope : List Variable) (p : Text) (ts : List STerm) (v w : Vocabulary) (a : Form) → atom here scope p ts v ≡ Ok (a, w) → R v w
  atom_steps here scope p ts v w a e =
      let parts = then_ok (head here.declared p Predicate (length ts) (new_predicate here scope v p ts) v) (λ g u. mapped (Atom g) (each (λ place t. argument g place (denoted_term here scope t)) 0 ts u)) a w e in
      let made_of = mapped_ok (Atom parts.0) (each (λ place t. argument parts.0 place (denoted_term here scope t)) 0 ts parts.1) a w parts.3 in
      steps.on v parts.1 w (head_steps here.declared p Predicate (length ts) (new_predicate here scope v p ts) v parts.1 parts.0 refl refl (counted here scope v ts) parts.2)
      (arguments_step here scope parts.0 ts 0 parts.1 w made_of.0 (each_steps ts) made_of.1)

  equation_steps : (here : Setting) (scope : List Variable) (l r : STerm) (v w : Vocabulary) (a : Form) → equation here scope l r v ≡ Ok (a, w) → R v w
  equation_steps here scope l r v w a e =
      let known = known_sort scope v r in
      let left = then_ok (denoted_term here scope l known v) (λ x u. and_then (denoted_term here scope r (Some x.sort) u) (equal x)) a w e in
      let right = then_ok (denoted_term here scope r (Some left.0.sort) left.1) (equal left.0) a w left.3 in
      by left.0 right.0 right.1 (steps.on v left.1 right.1 (terms_step l here scope known v left.1 left.0 left.2) (terms_step r here scope (Some left.0.sort) left.1 right.1 right.0 right.2)) (left.0.sort == right.0.sort) right.3
    where
      by : (x y : Sorted) (u : Vocabulary) → R v u → (b : Bool) → ◌≡◌ {A = Outcome SortRule Vocabulary Form} (cond b (Ok (Eq x.term y.term, u)) (Err WrongSort)) (Ok (a, w)) → R v w
      by x y u walked false k = absurd (cc)
      by x y u walked true k = at_ok {E = SortRule} (λ (b : Form) o. R v o) (Eq x.term y.term) a u w k walked

  beside_steps : (n : ℕ) (v : Vocabulary) (o : Outcome SortRule Vocabulary Form) (a : Form) (t : State) → ((w : Vocabulary) (b : Form) → o ≡ Ok (b, w) → R v w) → beside n o ≡ Ok (a, t) → R v t.vocabulary
  beside_steps n v (Err x) a t plain e = absurd (cc)
  beside_steps n v (Ok p) a t plain e = at_ok {E = SortRule} (λ (b : Form) (u : State). R v u.vocabulary) p.0 a (record { vocabulary = p.1; bound = n }) t e (plain p.1 p.0 refl)

  -- ---- formulas

  abbrev FormSteps : Surface → Type 0
  FormSteps a = (here : Setting) (scope : List Variable) (s t : State) (form : Form) → denoted_form here a scope s ≡ Ok (form, t) → R s.vocabulary t.vocabulary

  members_step : (here : Setting) (scope : List Variable) (as_ : List Surface) (place : ℕ) (s t : State) (forms : List Form) → AllByRecursion FormSteps as_
      → each (λ p a. denoted_form here a scope) place as_ s ≡ Ok (forms, t) → R s.vocabulary t.vocabulary
  members_step here scope [] place s t forms all e = at_ok {E = SortRule} (λ (fs : List Form) (u : State). R s.vocabulary u.vocabulary) [] forms s t e (steps.none s.vocabulary)
  members_step here scope (a ∷ as_) place s t forms all e =
      let parts = then_ok (denoted_form here a scope s) (λ y u. mapped (λ ys. y ∷ ys) (each (λ p b. denoted_form here b scope) (place + 1) as_ u)) forms t e in
      let more = mapped_ok (λ (ys : List Form). parts.0 ∷ ys) (each (λ p b. denoted_form here b scope) (place + 1) as_ parts.1) forms t parts.3 in
      steps.on s.vocabulary parts.1.vocabulary t.vocabulary (all.0 here scope s parts.1 parts.0 parts.2) (members_step here scope as_ (place + 1) parts.1 t more.0 all.1 more.1)

  bind_steps : (here : Setting) (quant : Quant) (xs : List BoundVar) (a : Surface) → FormSteps a → (scope : List Variable) (s t : State) (form : Form) → bound here quant xs a scope s ≡ Ok (form, t) → R s.vocabulary t.vocabulary
  bind_steps here quant xs a walks scope s t form e =
      let parts = then_ok (each (λ p. bound_variable) 0 xs s) (λ vs u. mapped (closed quant vs) (denoted_form here a (scope ++ vs) u)) form t e in
      let inner = mapped_ok (closed quant parts.0) (denoted_form here a (scope ++ parts.0) parts.1) form t parts.3 in
      subst (λ (v : Vocabulary). R v t.vocabulary) (all_same xs 0 s parts.1 parts.0 parts.2) (walks here (scope ++ parts.0) parts.1 t inner.0 inner.1)

  pub forms_step : (a : Surface) → FormSteps a
  forms_step = form_induction FormSteps (record {
    truth = λ here scope s t form e. at_ok {E = SortRule} (λ (b : Form) (u : State). R s.vocabulary u.vocabulary) (And []) form s t (rw denoted_form-True at e) (steps.none s.vocabulary);
    falsity = λ here scope s t form e. at_ok {E = SortRule} (λ (b : Form) (u : State). R s.vocabulary u.vocabulary) (Or []) form s t (rw denoted_form-False at e) (steps.none s.vocabulary);
    atom = λ p ts here scope s t form e.
        beside_steps s.bound s.vocabulary (atom here scope p ts s.vocabulary) form t (λ w b k. atom_steps here scope p ts s.vocabulary w b k) (rw denoted_form-Atom at e);
    eq = λ l r here scope s t form e.
        beside_steps s.bound s.vocabulary (equation here scope l r s.vocabulary) form t (λ w b k. equation_steps here scope l r s.vocabulary w b k) (rw denoted_form-Eq at e);
    neq = λ l r here scope s t form e.
        let inner = mapped_ok Not (beside s.bound (equation here scope l r s.vocabulary)) form t (rw denoted_form-Neq at e) in
        beside_steps s.bound s.vocabulary (equation here scope l r s.vocabulary) inner.0 t (λ w b k. equation_steps here scope l r s.vocabulary w b k) inner.1;
    not = λ a walks here scope s t form e.
        let inner = mapped_ok Not (denoted_form here a scope s) form t (rw denoted_form-Not at e) in
        walks here scope s t inner.0 inner.1;
    and = λ as_ all here scope s t form e.
        let inner = mapped_ok And (each (λ p a. denoted_form here a scope) 0 as_ s) form t (rw denoted_form-And at e) in
        members_step here scope as_ 0 s t inner.0 all inner.1;
    or = λ as_ all here scope s t form e.
        let inner = mapped_ok Or (each (λ p a. denoted_form here a scope) 0 as_ s) form t (rw denoted_form-Or at e) in
        members_step here scope as_ 0 s t inner.0 all inner.1;
    binary = λ o a b one two here scope s t form e.
        let parts = then_ok (denoted_form here a scope s) (λ x u. mapped (joined o x) (denoted_form here b scope u)) form t (rw denoted_form-Binary at e) in
        let inner = mapped_ok (joined o parts.0) (denoted_form here b scope parts.1) form t parts.3 in
        steps.on s.vocabulary parts.1.vocabulary t.vocabulary (one here scope s parts.1 parts.0 parts.2) (two here scope parts.1 t inner.0 inner.1);
    bind = λ quant xs a walks here scope s t form e. bind_steps here quant xs a walks scope s t form (rw denoted_form-Bind at e);
  })
