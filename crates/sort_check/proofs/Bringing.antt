-- What terms and formulas bring to a signature: symbols that they name.
use Rattle.std.proofs.Common.{◌≡◌, ℕ, ◌+◌, ◌==◌, Bool, true, false, cond, List, [], ◌∷◌, ◌++◌, length, map, Option, Some, None, Ok, Err, refl, sym, ◌∙◌, ap, subst, append_assoc}
use Rattle.std.specs.List.{AllByRecursion}
use Rattle.std.proofs.lemmas.List.{append-nil}
use Rattle.tptp_base.specs.declared.limit.LimitName.TheVariants.{Symbols}
use Rattle.tptp_base.specs.declared.surface.STerm.{STerm}
use Rattle.tptp_base.specs.declared.surface.STerm.TheVariants as tm
use Rattle.tptp_base.specs.declared.surface.Surface.{Surface}
use Rattle.tptp_base.specs.declared.surface.BoundVar.{BoundVar}
use Rattle.tptp_base.specs.declared.surface.SortName.{SortName}
use Rattle.tptp_base.specs.declared.surface.Quant.{Quant}
use Rattle.tptp_base.specs.Names.{together, names_of_term, names_of_form}
use Rattle.tptp_base.specs.Quotable.{IsQuotable, AreQuotable}
use Rattle.tptp_base.proofs.Naming.{names-App, names-Atom, names-Eq, names-Neq, names-Not, names-And, names-Or, names-Binary, names-Bind, quotable_both, quotable_parts, quotable_in_each}
use Rattle.fof_terms.specs.Vocabulary.{Vocabulary, found_symbol}
use Rattle.fof_terms.specs.Sorts.{is_sort}
use Rattle.fof_terms.specs.declared.signature.Kind.{Kind}
use Rattle.fof_terms.specs.declared.signature.Kind.TheVariants.{Function, Predicate}
use Rattle.fof_terms.specs.declared.signature.Symbol.{Symbol}
use Rattle.fof_terms.specs.declared.term.Term.{Term, Var}
use Rattle.fof_terms.specs.declared.form.Form.{Form, Atom, Eq, Not, And, Or}
use Rattle.sort_check.specs.declared.fault.SortRule.{SortRule}
use Rattle.sort_check.specs.declared.fault.SortRule.TheVariants.{WrongSort, Arity, Limit, Variables}
use Rattle.sort_check.specs.declared.scope.Variable.{Variable}
use Rattle.sort_check.specs.declared.terms.Sorted.{Sorted}
use Rattle.sort_check.specs.Bringing.{IsNamed, Brings}
use Rattle.sort_check.specs.Outcomes.{Outcome, and_then, mapped, each}
use Rattle.sort_check.specs.Symbols.{Text, place_sort, with_symbol, is_among, head, head_at, argument_sort, result_sort}
use Rattle.sort_check.specs.Denotation.{Setting, State, nearest, variable_at, fitting, argument, made, denoted_term, known_sort, beside, atom, equal, equation, joined, variable_sort, bound_variable, closed, denoted_form}
use Rattle.sort_check.specs.code.Denotation.{bound}
use Rattle.sort_check.proofs.Equations.{new_function, new_predicate, denoted_term-Var, denoted_term-App, denoted_form-True, denoted_form-False, denoted_form-Atom, denoted_form-Eq, denoted_form-Neq, denoted_form-Not, denoted_form-And, denoted_form-Or, denoted_form-Binary, denoted_form-Bind}
use Rattle.sort_check.proofs.Inducing.{term_induction, form_induction}
use Rattle.sort_check.proofs.Stepping.{at_ok, then_ok, mapped_ok}
use Rattle.sort_check.proofs.LineSorts.{named_same}

-- ---- vocabularies

pub brings_nothing : (v : Vocabulary) → Brings v v
brings_nothing v = record { more_sorts = []; sorts = sym (append-nil v.sorts); quotable = tt; more_symbols = []; symbols = sym (append-nil v.symbols); named = tt }

all_both : {X : Type 0} (P : X → Type 0) (xs ys : List X) → AllByRecursion P xs → AllByRecursion P ys → AllByRecursion P (xs ++ ys)
all_both P [] ys first second = second
all_both P (x ∷ xs) ys first second = (first.0, all_both P xs ys first.1 second)

goes_on : {X : Type 0} (a b c more then : List X) → b ≡ a ++ more → c ≡ b ++ then → c ≡ a ++ (more ++ then)
goes_on a b c more then one two = two ∙ ap (λ front. front ++ then) one ∙ append_assoc a more then

pub brings_on : (u v w : Vocabulary) → Brings u v → Brings v w → Brings u w
brings_on u v w one two = record {
  more_sorts = one.more_sorts ++ two.more_sorts;
  sorts = goes_on u.sorts v.sorts w.sorts one.more_sorts two.more_sorts one.sorts two.sorts;
  quotable = quotable_both one.more_sorts two.more_sorts one.quotable two.quotable;
  more_symbols = one.more_symbols ++ two.more_symbols;
  symbols = goes_on u.symbols v.symbols w.symbols one.more_symbols two.more_symbols one.symbols two.symbols;
  named = all_both IsNamed one.more_symbols two.more_symbols one.named two.named;
}

pub brings_sort : (v : Vocabulary) (name : Text) → IsQuotable name → Brings v (record v { sorts = v.sorts ++ name ∷ [] })
brings_sort v name h = record { more_sorts = name ∷ []; sorts = refl; quotable = (h, tt); more_symbols = []; symbols = sym (append-nil v.symbols); named = tt }

brings_symbol : (v : Vocabulary) (s : Symbol) → IsNamed s → Brings v (record v { symbols = v.symbols ++ s ∷ [] })
brings_symbol v s h = record { more_sorts = []; sorts = sym (append-nil v.sorts); quotable = tt; more_symbols = s ∷ []; symbols = refl; named = (h, tt) }

pub with_symbol_brings : (s : Symbol) (v w : Vocabulary) (n : ℕ) → IsNamed s → with_symbol s v ≡ Ok (n, w) → Brings v w
with_symbol_brings s v w n named e = by (length v.symbols == 16777216) e
  where
    by : (b : Bool) → ◌≡◌ {A = Outcome SortRule Vocabulary ℕ} (cond b (Err (Limit Symbols)) (Ok (length v.symbols, record v { symbols = v.symbols ++ s ∷ [] }))) (Ok (n, w)) → Brings v w
    by true k = absurd (cc)
    by false k = at_ok {E = SortRule} (λ (m : ℕ) u. Brings v u) (length v.symbols) n (record v { symbols = v.symbols ++ s ∷ [] }) w k (brings_symbol v s named)

head_brings : (declared : List Text) (name : Text) (kind : Kind) (arity : ℕ) (added : Symbol) (v w : Vocabulary) (number : ℕ) → IsNamed added → head declared name kind arity added v ≡ Ok (number, w) → Brings v w
unfolding head
head_brings declared name kind arity added v w number h e = by (found_symbol v name kind arity) e
  where
    new : (b : Bool) → ◌≡◌ {A = Outcome SortRule Vocabulary ℕ} (cond b (Err Arity) (with_symbol added v)) (Ok (number, w)) → Brings v w
    new true k = absurd (cc)
    new false k = with_symbol_brings added v w number h k

    by : (o : Option ℕ) → head_at declared name added o v ≡ Ok (number, w) → Brings v w
    by (Some n) k = at_ok {E = SortRule} (λ (m : ℕ) u. Brings v u) n number v w k (brings_nothing v)
    by None k = new (is_among name declared) k

-- a new function, and a new predicate, whose place asks for no sort
function_named : (here : Setting) (scope : List Variable) (v : Vocabulary) (f : Text) (ts : List STerm) (asked : Option ℕ) → IsQuotable f → IsNamed (new_function here scope v f ts asked)
function_named here scope v f ts asked h = record { quotable = h; no_result = λ never. absurd (cc) }

predicate_named : (here : Setting) (scope : List Variable) (v : Vocabulary) (p : Text) (ts : List STerm) → IsQuotable p → IsNamed (new_predicate here scope v p ts)
predicate_named here scope v p ts h = record { quotable = h; no_result = λ is. none here.by_place }
  where
    none : (b : Bool) → place_sort b v None ≡ 0
    none true = refl
    none false = refl

-- ---- terms

abbrev TermBrings : STerm → Type 0
TermBrings t = (here : Setting) (scope : List Variable) (asked : Option ℕ) (v w : Vocabulary) (x : Sorted) → AreQuotable (names_of_term t) → denoted_term here scope t asked v ≡ Ok (x, w) → Brings v w

module _ (here : Setting) (scope : List Variable) (number : ℕ) where
  one_argument : (place : ℕ) (t : STerm) (v w : Vocabulary) (y : Term) → TermBrings t → AreQuotable (names_of_term t) → argument number place (denoted_term here scope t) v ≡ Ok (y, w) → Brings v w
  one_argument place t v w y brings names e =
      let asked = argument_sort v number place in
      let parts = then_ok (denoted_term here scope t asked v) (fitting number place) y w e in
      by parts.0 parts.1 (brings here scope asked v parts.1 parts.0 names parts.2) (is_sort (argument_sort parts.1 number place) parts.0.sort) parts.3
    where
      by : (x : Sorted) (u : Vocabulary) → Brings v u → (b : Bool) → ◌≡◌ {A = Outcome SortRule Vocabulary Term} (cond b (Ok (x.term, u)) (Err WrongSort)) (Ok (y, w)) → Brings v w
      by x u brought false k = absurd (cc)
      by x u brought true k = at_ok {E = SortRule} (λ (z : Term) o. Brings v o) x.term y u w k brought

  arguments_bring : (ts : List STerm) (place : ℕ) (v w : Vocabulary) (xs : List Term) → AllByRecursion TermBrings ts → AllByRecursion (λ t. AreQuotable (names_of_term t)) ts
      → each (λ p t. argument number p (denoted_term here scope t)) place ts v ≡ Ok (xs, w) → Brings v w
  arguments_bring [] place v w xs all names e = at_ok {E = SortRule} (λ (ys : List Term) u. Brings v u) [] xs v w e (brings_nothing v)
  arguments_bring (t ∷ ts) place v w xs all names e =
      let parts = then_ok (argument number place (denoted_term here scope t) v) (λ y u. mapped (λ ys. y ∷ ys) (each (λ p s. argument number p (denoted_term here scope s)) (place + 1) ts u)) xs w e in
      let more = mapped_ok (λ (ys : List Term). parts.0 ∷ ys) (each (λ p s. argument number p (denoted_term here scope s)) (place + 1) ts parts.1) xs w parts.3 in
      brings_on v parts.1 w (one_argument place t v parts.1 parts.0 all.0 names.0 parts.2) (arguments_bring ts (place + 1) parts.1 w more.0 all.1 names.1 more.1)

terms_bring : (t : STerm) → TermBrings t
terms_bring = term_induction TermBrings (record { var = of_variable; app = of_application })
  where
    of_variable : (name : Text) (here : Setting) (scope : List Variable) (asked : Option ℕ) (v w : Vocabulary) (x : Sorted) → AreQuotable (names_of_term (tm.Var name)) → denoted_term here scope (tm.Var name) asked v ≡ Ok (x, w) → Brings v w
    of_variable name here scope asked v w x names e = by (nearest scope name) (rw denoted_term-Var at e)
      where
        by : (o : Option (ℕ × ℕ)) → variable_at here.outside o v ≡ Ok (x, w) → Brings v w
        by None k = absurd (cc)
        by (Some p) k = at_ok {E = SortRule} (λ (y : Sorted) u. Brings v u) (record { term = Var p.0; sort = p.1 }) x v w k (brings_nothing v)

    of_application : (f : Text) (ts : List STerm) → AllByRecursion TermBrings ts → TermBrings (tm.App f ts)
    of_application f ts all here scope asked v w x names e =
        let own : AreQuotable (f ∷ together (map names_of_term ts)) = rw names-App at names in
        let parts = then_ok (head here.declared f Function (length ts) (new_function here scope v f ts asked) v) (λ g u. mapped (made g (result_sort u g)) (each (λ place t. argument g place (denoted_term here scope t)) 0 ts u)) x w (rw denoted_term-App at e) in
        let made_of = mapped_ok (made parts.0 (result_sort parts.1 parts.0)) (each (λ place t. argument parts.0 place (denoted_term here scope t)) 0 ts parts.1) x w parts.3 in
        brings_on v parts.1 w (head_brings here.declared f Function (length ts) (new_function here scope v f ts asked) v parts.1 parts.0 (function_named here scope v f ts asked own.0) parts.2)
        (arguments_bring here scope parts.0 ts 0 parts.1 w made_of.0 all (quotable_in_each names_of_term ts own.1) made_of.1)

each_brings : (ts : List STerm) → AllByRecursion TermBrings ts
each_brings [] = tt
each_brings (t ∷ ts) = (terms_bring t, each_brings ts)

-- ---- atoms

atom_brings : (here : Setting) (scope : List Variable) (p : Text) (ts : List STerm) (v w : Vocabulary) (a : Form) → AreQuotable (p ∷ together (map names_of_term ts)) → atom here scope p ts v ≡ Ok (a, w) → Brings v w
atom_brings here scope p ts v w a names e =
    let parts = then_ok (head here.declared p Predicate (length ts) (new_predicate here scope v p ts) v) (λ g u. mapped (Atom g) (each (λ place t. argument g place (denoted_term here scope t)) 0 ts u)) a w e in
    let made_of = mapped_ok (Atom parts.0) (each (λ place t. argument parts.0 place (denoted_term here scope t)) 0 ts parts.1) a w parts.3 in
    brings_on v parts.1 w (head_brings here.declared p Predicate (length ts) (new_predicate here scope v p ts) v parts.1 parts.0 (predicate_named here scope v p ts names.0) parts.2)
    (arguments_bring here scope parts.0 ts 0 parts.1 w made_of.0 (each_brings ts) (quotable_in_each names_of_term ts names.1) made_of.1)

equation_brings : (here : Setting) (scope : List Variable) (l r : STerm) (v w : Vocabulary) (a : Form) → AreQuotable (names_of_term l ++ names_of_term r) → equation here scope l r v ≡ Ok (a, w) → Brings v w
equation_brings here scope l r v w a names e =
    let own = quotable_parts (names_of_term l) (names_of_term r) names in
    let known = known_sort scope v r in
    let left = then_ok (denoted_term here scope l known v) (λ x u. and_then (denoted_term here scope r (Some x.sort) u) (equal x)) a w e in
    let right = then_ok (denoted_term here scope r (Some left.0.sort) left.1) (equal left.0) a w left.3 in
    by left.0 right.0 right.1 (brings_on v left.1 right.1 (terms_bring l here scope known v left.1 left.0 own.0 left.2) (terms_bring r here scope (Some left.0.sort) left.1 right.1 right.0 own.1 right.2)) (left.0.sort == right.0.sort) right.3
  where
    by : (x y : Sorted) (u : Vocabulary) → Brings v u → (b : Bool) → ◌≡◌ {A = Outcome SortRule Vocabulary Form} (cond b (Ok (Eq x.term y.term, u)) (Err WrongSort)) (Ok (a, w)) → Brings v w
    by x y u brought false k = absurd (cc)
    by x y u brought true k = at_ok {E = SortRule} (λ (b : Form) o. Brings v o) (Eq x.term y.term) a u w k brought

beside_brings : (n : ℕ) (v : Vocabulary) (o : Outcome SortRule Vocabulary Form) (a : Form) (t : State) → ((w : Vocabulary) (b : Form) → o ≡ Ok (b, w) → Brings v w) → beside n o ≡ Ok (a, t) → Brings v t.vocabulary
beside_brings n v (Err x) a t plain e = absurd (cc)
beside_brings n v (Ok p) a t plain e = at_ok {E = SortRule} (λ (b : Form) (u : State). Brings v u.vocabulary) p.0 a (record { vocabulary = p.1; bound = n }) t e (plain p.1 p.0 refl)

-- ---- binders: sorts are looked up alone

sort_same : (sort : Option SortName) (v w : Vocabulary) (x : ℕ) → variable_sort sort v ≡ Ok (x, w) → w ≡ v
sort_same None v w x e = at_ok {E = SortRule} (λ (y : ℕ) u. u ≡ v) 0 x v w e refl
sort_same (Some name) v w x e = named_same name v w x e

abbrev the_variable : Text → ℕ → Variable
the_variable name sort = record { name = name; sort = sort }

bound_same : (x : BoundVar) (s t : State) (y : Variable) → bound_variable x s ≡ Ok (y, t) → t.vocabulary ≡ s.vocabulary
bound_same x s t y e = by (s.bound == 250) e
  where
    counted : (o : Outcome SortRule Vocabulary ℕ) → variable_sort x.sort s.vocabulary ≡ o → (n : ℕ) → beside (s.bound + 1) o ≡ Ok (n, t) → t.vocabulary ≡ s.vocabulary
    counted (Err z) is n k = absurd (cc)
    counted (Ok p) is n k =
        at_ok {E = SortRule} (λ (m : ℕ) (u : State). u.vocabulary ≡ s.vocabulary) p.0 n (record { vocabulary = p.1; bound = s.bound + 1 }) t k (sort_same x.sort s.vocabulary p.1 p.0 is)

    by : (b : Bool) → ◌≡◌ {A = Outcome SortRule State Variable} (cond b (Err Variables) (mapped (λ sort. record { name = x.name; sort = sort }) (beside (s.bound + 1) (variable_sort x.sort s.vocabulary)))) (Ok (y, t)) → t.vocabulary ≡ s.vocabulary
    by true k = absurd (cc)
    by false k =
        let inner = mapped_ok (λ (sort : ℕ). the_variable x.name sort) (beside (s.bound + 1) (variable_sort x.sort s.vocabulary)) y t k in
        counted (variable_sort x.sort s.vocabulary) refl inner.0 inner.1

all_same : (xs : List BoundVar) (place : ℕ) (s t : State) (vs : List Variable) → each (λ p. bound_variable) place xs s ≡ Ok (vs, t) → t.vocabulary ≡ s.vocabulary
all_same [] place s t vs e = at_ok {E = SortRule} (λ (ys : List Variable) (u : State). u.vocabulary ≡ s.vocabulary) [] vs s t e refl
all_same (x ∷ xs) place s t vs e =
    let parts = then_ok (bound_variable x s) (λ y u. mapped (λ ys. y ∷ ys) (each (λ p. bound_variable) (place + 1) xs u)) vs t e in
    let more = mapped_ok (λ (ys : List Variable). parts.0 ∷ ys) (each (λ p. bound_variable) (place + 1) xs parts.1) vs t parts.3 in
    all_same xs (place + 1) parts.1 t more.0 more.1 ∙ bound_same x s parts.1 parts.0 parts.2

-- ---- formulas

abbrev FormBrings : Surface → Type 0
FormBrings a = (here : Setting) (scope : List Variable) (s t : State) (form : Form) → AreQuotable (names_of_form a) → denoted_form here a scope s ≡ Ok (form, t) → Brings s.vocabulary t.vocabulary

members_bring : (here : Setting) (scope : List Variable) (as_ : List Surface) (place : ℕ) (s t : State) (forms : List Form) → AllByRecursion FormBrings as_ → AllByRecursion (λ a. AreQuotable (names_of_form a)) as_
    → each (λ p a. denoted_form here a scope) place as_ s ≡ Ok (forms, t) → Brings s.vocabulary t.vocabulary
members_bring here scope [] place s t forms all names e = at_ok {E = SortRule} (λ (fs : List Form) (u : State). Brings s.vocabulary u.vocabulary) [] forms s t e (brings_nothing s.vocabulary)
members_bring here scope (a ∷ as_) place s t forms all names e =
    let parts = then_ok (denoted_form here a scope s) (λ y u. mapped (λ ys. y ∷ ys) (each (λ p b. denoted_form here b scope) (place + 1) as_ u)) forms t e in
    let more = mapped_ok (λ (ys : List Form). parts.0 ∷ ys) (each (λ p b. denoted_form here b scope) (place + 1) as_ parts.1) forms t parts.3 in
    brings_on s.vocabulary parts.1.vocabulary t.vocabulary (all.0 here scope s parts.1 parts.0 names.0 parts.2) (members_bring here scope as_ (place + 1) parts.1 t more.0 all.1 names.1 more.1)

bind_brings : (here : Setting) (quant : Quant) (xs : List BoundVar) (a : Surface) → FormBrings a → (scope : List Variable) (s t : State) (form : Form) → AreQuotable (names_of_form a) → bound here quant xs a scope s ≡ Ok (form, t) → Brings s.vocabulary t.vocabulary
bind_brings here quant xs a brings scope s t form names e =
    let parts = then_ok (each (λ p. bound_variable) 0 xs s) (λ vs u. mapped (closed quant vs) (denoted_form here a (scope ++ vs) u)) form t e in
    let inner = mapped_ok (closed quant parts.0) (denoted_form here a (scope ++ parts.0) parts.1) form t parts.3 in
    subst (λ (v : Vocabulary). Brings v t.vocabulary) (all_same xs 0 s parts.1 parts.0 parts.2) (brings here (scope ++ parts.0) parts.1 t inner.0 names inner.1)

pub forms_bring : (a : Surface) → FormBrings a
forms_bring = form_induction FormBrings (record {
  truth = λ here scope s t form names e. at_ok {E = SortRule} (λ (b : Form) (u : State). Brings s.vocabulary u.vocabulary) (And []) form s t (rw denoted_form-True at e) (brings_nothing s.vocabulary);
  falsity = λ here scope s t form names e. at_ok {E = SortRule} (λ (b : Form) (u : State). Brings s.vocabulary u.vocabulary) (Or []) form s t (rw denoted_form-False at e) (brings_nothing s.vocabulary);
  atom = λ p ts here scope s t form names e.
      let own : AreQuotable (p ∷ together (map names_of_term ts)) = rw names-Atom at names in
      beside_brings s.bound s.vocabulary (atom here scope p ts s.vocabulary) form t (λ w b k. atom_brings here scope p ts s.vocabulary w b own k) (rw denoted_form-Atom at e);
  eq = λ l r here scope s t form names e.
      let own : AreQuotable (names_of_term l ++ names_of_term r) = rw names-Eq at names in
      beside_brings s.bound s.vocabulary (equation here scope l r s.vocabulary) form t (λ w b k. equation_brings here scope l r s.vocabulary w b own k) (rw denoted_form-Eq at e);
  neq = λ l r here scope s t form names e.
      let own : AreQuotable (names_of_term l ++ names_of_term r) = rw names-Neq at names in
      let inner = mapped_ok Not (beside s.bound (equation here scope l r s.vocabulary)) form t (rw denoted_form-Neq at e) in
      beside_brings s.bound s.vocabulary (equation here scope l r s.vocabulary) inner.0 t (λ w b k. equation_brings here scope l r s.vocabulary w b own k) inner.1;
  not = λ a brings here scope s t form names e.
      let inner = mapped_ok Not (denoted_form here a scope s) form t (rw denoted_form-Not at e) in
      brings here scope s t inner.0 (rw names-Not at names) inner.1;
  and = λ as_ all here scope s t form names e.
      let own : AreQuotable (together (map names_of_form as_)) = rw names-And at names in
      let inner = mapped_ok And (each (λ p a. denoted_form here a scope) 0 as_ s) form t (rw denoted_form-And at e) in
      members_bring here scope as_ 0 s t inner.0 all (quotable_in_each names_of_form as_ own) inner.1;
  or = λ as_ all here scope s t form names e.
      let own : AreQuotable (together (map names_of_form as_)) = rw names-Or at names in
      let inner = mapped_ok Or (each (λ p a. denoted_form here a scope) 0 as_ s) form t (rw denoted_form-Or at e) in
      members_bring here scope as_ 0 s t inner.0 all (quotable_in_each names_of_form as_ own) inner.1;
  binary = λ o a b one two here scope s t form names e.
      let own : AreQuotable (names_of_form a ++ names_of_form b) = rw names-Binary at names in
      let both = quotable_parts (names_of_form a) (names_of_form b) own in
      let parts = then_ok (denoted_form here a scope s) (λ x u. mapped (joined o x) (denoted_form here b scope u)) form t (rw denoted_form-Binary at e) in
      let inner = mapped_ok (joined o parts.0) (denoted_form here b scope parts.1) form t parts.3 in
      brings_on s.vocabulary parts.1.vocabulary t.vocabulary (one here scope s parts.1 parts.0 both.0 parts.2) (two here scope parts.1 t inner.0 both.1 inner.1);
  bind = λ quant xs a brings here scope s t form names e. bind_brings here quant xs a brings scope s t form (rw names-Bind at names) (rw denoted_form-Bind at e);
})
