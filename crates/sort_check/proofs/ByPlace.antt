-- What denotes where new symbols are of individuals denotes the same where they have the sorts of their places: terms
-- and formulas.
use Rattle.std.proofs.Common.{◌≡◌, ℕ, zero, suc, ◌+◌, ◌<◌, ◌==◌, not, Bool, true, false, cond, List, [], ◌∷◌, ◌++◌, length, map, slice_get, position, Option, Some, None, Ok, Err, refl, sym, ◌∙◌, ap, subst, arith, nat_lt, length-append}
use Rattle.std.specs.List.{position_or_len, AllByRecursion}
use Rattle.std.proofs.lemmas.Bool.{lt-ltb}
use Rattle.std.proofs.lemmas.Bool.Decides.{nat_tests}
use Rattle.tptp_base.specs.declared.limit.LimitName.TheVariants.{Symbols}
use Rattle.tptp_base.specs.declared.surface.STerm.{STerm}
use Rattle.tptp_base.specs.declared.surface.STerm.TheVariants as tm
use Rattle.tptp_base.specs.declared.surface.Surface.{Surface}
use Rattle.fof_terms.specs.Vocabulary.{Vocabulary, is_symbol, found_symbol}
use Rattle.fof_terms.specs.Sorts.{is_sort}
use Rattle.fof_terms.specs.declared.signature.Kind.{Kind}
use Rattle.fof_terms.specs.declared.signature.Kind.TheVariants.{Function, Predicate}
use Rattle.fof_terms.specs.declared.signature.Symbol.{Symbol}
use Rattle.fof_terms.specs.declared.term.Term.{Term, Var}
use Rattle.fof_terms.specs.declared.form.Form.{Form, Atom, Eq, Not, And, Or}
use Rattle.sort_check.specs.declared.fault.SortRule.{SortRule}
use Rattle.sort_check.specs.declared.fault.SortRule.TheVariants.{WrongSort, Arity, Limit}
use Rattle.sort_check.specs.declared.scope.Variable.{Variable}
use Rattle.sort_check.specs.declared.terms.Sorted.{Sorted}
use Rattle.sort_check.specs.Outcomes.{Outcome, and_then, mapped, each}
use Rattle.sort_check.specs.Symbols.{Text, place_sort, new_symbol, with_symbol, is_among, head, head_at, argument_sort, argument_at, result_sort, result_at}
use Rattle.sort_check.specs.Denotation.{Setting, State, FormOutcome, nearest, variable_at, variable_known, application_known, fitting, argument, made, denoted_term, known_sort, beside, atom, equal, equation, joined, bound_variable, closed, outermost, denoted_form}
use Rattle.sort_check.specs.Sorting.{Extends}
use Rattle.sort_check.proofs.Equations.{known_sort-Var, known_sort-App, denoted_term-Var, denoted_term-App, denoted_form-True, denoted_form-False, denoted_form-Atom, denoted_form-Eq, denoted_form-Neq, denoted_form-Not, denoted_form-And, denoted_form-Or, denoted_form-Binary, denoted_form-Bind}
use Rattle.sort_check.proofs.Inducing.{term_induction, form_induction}
use Rattle.sort_check.proofs.Stepping.{at_ok, then_ok, mapped_ok}
use Rattle.sort_check.proofs.TermSorts.{grows_on, found_at, last_of, head_of, terms_fit, wanted_sort}

-- ---- what is known of a term is its sort

-- where something is asked for, it is this sort
abbrev pub Harmless : Option ℕ → ℕ → Type 0
Harmless told sort = (n : ℕ) → told ≡ Some n → n ≡ sort

-- a place that tells nothing, or that of individuals, makes an individual
place_zero : (v : Vocabulary) (told : Option ℕ) → Harmless told 0 → place_sort true v told ≡ 0
place_zero v None harmless = refl
place_zero v (Some n) harmless = let zero_is : n ≡ 0 = harmless n refl in ap (λ k. place_sort true v (Some k)) zero_is ∙ either (nat_lt 0 (length v.sorts))
  where
    either : (b : Bool) → ◌≡◌ {A = ℕ} (cond b 0 0) 0
    either true = refl
    either false = refl

front_len : {X : Type 0} (p : X → Bool) (xs ys : List X) → position_or_len p xs < length xs → position_or_len p (xs ++ ys) ≡ position_or_len p xs
front_len p [] ys lt = absurd (omega arith)
front_len {X = X} p (x ∷ xs) ys lt = by (front_len p xs ys) (p x) refl
  where
    at : (b : Bool) (zs : List X) → p x ≡ b → position_or_len p (x ∷ zs) ≡ cond (not b) (1 + position_or_len p zs) 0
    at b zs e = ap (λ t. cond (not t) (1 + position_or_len p zs) 0) e

    by : (position_or_len p xs < length xs → position_or_len p (xs ++ ys) ≡ position_or_len p xs) → (b : Bool) → p x ≡ b → position_or_len p (x ∷ (xs ++ ys)) ≡ position_or_len p (x ∷ xs)
    by rest true e = at true (xs ++ ys) e ∙ sym (at true xs e)
    by rest false e =
        let more = at false xs e in
        at false (xs ++ ys) e ∙ ap (λ n. 1 + n) (rest (omega arith)) ∙ sym more

-- what is found stays where it is
found_front : {X : Type 0} (p : X → Bool) (xs ys : List X) (k : ℕ) → position p xs ≡ Some k → position p (xs ++ ys) ≡ Some k
found_front p xs ys k e = by (nat_lt (position_or_len p xs) (length xs)) refl e
  where
    by : (b : Bool) → nat_lt (position_or_len p xs) (length xs) ≡ b → cond b (Some (position_or_len p xs)) None ≡ Some k → position p (xs ++ ys) ≡ Some k
    by true is h =
        let lt : position_or_len p xs < length xs = grind (arith, nat_tests) in
        let same : position_or_len p (xs ++ ys) ≡ position_or_len p xs = front_len p xs ys lt in
        let more : position_or_len p (xs ++ ys) < length (xs ++ ys) = omega (arith, length-append xs ys) in
        ap (λ c. cond c (Some (position_or_len p (xs ++ ys))) None) (lt-ltb (position_or_len p (xs ++ ys)) (length (xs ++ ys)) more) ∙ ap Some same ∙ h
    by false is h = absurd (let no : None ≡ Some k = h in cc)

same_some : (a b : ℕ) → Some a ≡ Some b → a ≡ b
same_some a b e = cc

kept_found : (v u : Vocabulary) (name : Text) (kind : Kind) (arity n : ℕ) → Extends v u → found_symbol v name kind arity ≡ Some n → found_symbol u name kind arity ≡ Some n
kept_found v u name kind arity n grows e = ap (position (is_symbol name kind arity)) grows.symbols.1 ∙ found_front (is_symbol name kind arity) v.symbols grows.symbols.0 n e

-- a head that is there
head_there : (declared : List Text) (name : Text) (kind : Kind) (arity : ℕ) (new : Symbol) (v : Vocabulary) (n : ℕ) → found_symbol v name kind arity ≡ Some n → head declared name kind arity new v ≡ Ok (n, v)
unfolding head
head_there declared name kind arity new v n e = ap (λ o. head_at declared name new o v) e

-- the sort of an application whose head is there
head_sort : (here : Setting) (scope : List Variable) (f : Text) (ts : List STerm) (asked : Option ℕ) (u w : Vocabulary) (x : Sorted) (n : ℕ) → found_symbol u f Function (length ts) ≡ Some n → denoted_term here scope (tm.App f ts) asked u ≡ Ok (x, w) → x.sort ≡ result_sort u n
head_sort here scope f ts asked u w x n found e =
    let new = new_symbol here.by_place u f Function (map (known_sort scope u) ts) asked in
    let rest : ℕ → Vocabulary → Outcome SortRule Vocabulary Sorted = λ g t. mapped (made g (result_sort t g)) (each (λ place s. argument g place (denoted_term here scope s)) 0 ts t) in
    let is : rest n u ≡ Ok (x, w) = sym (ap (λ (o : Outcome SortRule Vocabulary ℕ). and_then o rest) (head_there here.declared f Function (length ts) new u n found)) ∙ (rw denoted_term-App at e) in
    let made_of = mapped_ok (made n (result_sort u n)) (each (λ place s. argument n place (denoted_term here scope s)) 0 ts u) x w is in
    sym (ap (λ (y : Sorted). y.sort) made_of.2)

result_kept : (v u : Vocabulary) (n : ℕ) (symbol : Symbol) → Extends v u → slice_get v.symbols n ≡ Some symbol → result_sort u n ≡ result_sort v n
result_kept v u n symbol grows at = ap result_at (grows.grows.same_symbols n symbol at ∙ sym at)

abbrev KnownIs : STerm → Type 0
KnownIs t = (here : Setting) (scope : List Variable) (asked : Option ℕ) (v u w : Vocabulary) (x : Sorted) → Extends v u → denoted_term here scope t asked u ≡ Ok (x, w) → Harmless (known_sort scope v t) x.sort

known_is : (t : STerm) → KnownIs t
known_is = term_induction KnownIs (record { var = of_variable; app = of_application })
  where
    of_variable : (name : Text) → KnownIs (tm.Var name)
    of_variable name here scope asked v u w x grows e n told = by (nearest scope name) (rw known_sort-Var at told) (rw denoted_term-Var at e)
      where
        by : (o : Option (ℕ × ℕ)) → variable_known o ≡ Some n → variable_at here.outside o u ≡ Ok (x, w) → n ≡ x.sort
        by None known k = absurd (cc)
        by (Some p) known k = at_ok {E = SortRule} (λ (y : Sorted) (t : Vocabulary). n ≡ y.sort) (record { term = Var p.0; sort = p.1 }) x u w k (sym (same_some p.1 n known))

    of_application : (f : Text) (ts : List STerm) → AllByRecursion KnownIs ts → KnownIs (tm.App f ts)
    of_application f ts all here scope asked v u w x grows e n told = by (found_symbol v f Function (length ts)) refl (rw known_sort-App at told)
      where
        by : (o : Option ℕ) → found_symbol v f Function (length ts) ≡ o → application_known v o ≡ Some n → n ≡ x.sort
        by None is known = absurd (cc)
        by (Some g) is known =
            let symbol = found_at (is_symbol f Function (length ts)) v.symbols g is in
            let sort = head_sort here scope f ts asked u w x g (kept_found v u f Function (length ts) g grows is) e in
            sym (same_some (result_sort v g) n known) ∙ sym (result_kept v u g symbol.0 grows symbol.1) ∙ sym sort

-- ---- arguments

abbrev plain : List Text → SortRule → Setting
plain declared outside = outermost false declared outside

abbrev placed : List Text → SortRule → Setting
placed declared outside = outermost true declared outside

abbrev pub TermSame : STerm → Type 0
TermSame t = (declared : List Text) (outside : SortRule) (scope : List Variable) (asked told : Option ℕ) (v w : Vocabulary) (x : Sorted) → Harmless told x.sort
    → denoted_term (plain declared outside) scope t asked v ≡ Ok (x, w) → denoted_term (placed declared outside) scope t told v ≡ Ok (x, w)

fits_as : (o : Option ℕ) (x : Sorted) (u w : Vocabulary) (y : Term) → ◌≡◌ {A = Outcome SortRule Vocabulary Term} (cond (is_sort o x.sort) (Ok (x.term, u)) (Err WrongSort)) (Ok (y, w)) → o ≡ Some x.sort
fits_as o x u w y e = by (is_sort o x.sort) refl e
  where
    by : (b : Bool) → is_sort o x.sort ≡ b → ◌≡◌ {A = Outcome SortRule Vocabulary Term} (cond b (Ok (x.term, u)) (Err WrongSort)) (Ok (y, w)) → o ≡ Some x.sort
    by true is k = wanted_sort o x.sort is
    by false is k = absurd (cc)

fitting_keeps : (o : Option ℕ) (x : Sorted) (u w : Vocabulary) (y : Term) → ◌≡◌ {A = Outcome SortRule Vocabulary Term} (cond (is_sort o x.sort) (Ok (x.term, u)) (Err WrongSort)) (Ok (y, w)) → w ≡ u
fitting_keeps o x u w y e = by (is_sort o x.sort) e
  where
    by : (b : Bool) → ◌≡◌ {A = Outcome SortRule Vocabulary Term} (cond b (Ok (x.term, u)) (Err WrongSort)) (Ok (y, w)) → w ≡ u
    by true k = at_ok {E = SortRule} (λ (z : Term) (t : Vocabulary). t ≡ u) x.term y u w k refl
    by false k = absurd (cc)

-- the sort that a symbol has at a place stays
argument_kept : (v u : Vocabulary) (g place s : ℕ) → Extends v u → argument_sort v g place ≡ Some s → argument_sort u g place ≡ Some s
argument_kept v u g place s grows e = by (slice_get v.symbols g) refl e
  where
    by : (o : Option Symbol) → slice_get v.symbols g ≡ o → argument_at o place ≡ Some s → argument_sort u g place ≡ Some s
    by None is k = absurd (cc)
    by (Some symbol) is k = ap (λ r. argument_at r place) (grows.grows.same_symbols g symbol is) ∙ k

module _ (declared : List Text) (outside : SortRule) (scope : List Variable) (g : ℕ) where
  abbrev plain_argument : ℕ → STerm → Vocabulary → Outcome SortRule Vocabulary Term
  plain_argument place t = argument g place (denoted_term (plain declared outside) scope t)

  abbrev placed_argument : ℕ → STerm → Vocabulary → Outcome SortRule Vocabulary Term
  placed_argument place t = argument g place (denoted_term (placed declared outside) scope t)

  argument_same : (place : ℕ) (t : STerm) (u w : Vocabulary) (y : Term) → TermSame t → plain_argument place t u ≡ Ok (y, w) → placed_argument place t u ≡ Ok (y, w)
  argument_same place t u w y same e =
      let asked = argument_sort u g place in
      let parts = then_ok (denoted_term (plain declared outside) scope t asked u) (fitting g place) y w e in
      let grows = (terms_fit t (plain declared outside) scope asked u parts.1 parts.0 parts.2).grows in
      let fits = fits_as (argument_sort parts.1 g place) parts.0 parts.1 w y parts.3 in
      let harmless : Harmless asked parts.0.sort = λ n told. same_some n parts.0.sort (sym (argument_kept u parts.1 g place n grows told) ∙ fits) in
      ap (λ (o : Outcome SortRule Vocabulary Sorted). and_then o (fitting g place)) (same declared outside scope asked asked u parts.1 parts.0 harmless parts.2) ∙ parts.3

  arguments_same : (ts : List STerm) (place : ℕ) (u w : Vocabulary) (xs : List Term) → AllByRecursion TermSame ts → each plain_argument place ts u ≡ Ok (xs, w) → each placed_argument place ts u ≡ Ok (xs, w)
  arguments_same [] place u w xs all e = e
  arguments_same (t ∷ ts) place u w xs all e =
      let parts = then_ok (plain_argument place t u) (λ y s. mapped (λ ys. y ∷ ys) (each plain_argument (place + 1) ts s)) xs w e in
      let more = mapped_ok (λ (ys : List Term). parts.0 ∷ ys) (each plain_argument (place + 1) ts parts.1) xs w parts.3 in
      let rest = arguments_same ts (place + 1) parts.1 w more.0 all.1 more.1 in
      ap (λ (o : Outcome SortRule Vocabulary Term). and_then o (λ y s. mapped (λ ys. y ∷ ys) (each placed_argument (place + 1) ts s))) (argument_same place t u parts.1 parts.0 all.0 parts.2)
      ∙ ap (mapped (λ (ys : List Term). parts.0 ∷ ys)) rest
      ∙ ap (λ (ys : List Term). Ok (ys, w)) more.2

  -- what is known of the arguments of a symbol of individuals is that they are such
  arguments_known : (ts : List STerm) (place : ℕ) (v u w : Vocabulary) (xs : List Term) (symbol : Symbol) → Extends v u → slice_get u.symbols g ≡ Some symbol → ((k s : ℕ) → slice_get symbol.args k ≡ Some s → s ≡ 0) → each plain_argument place ts u ≡ Ok (xs, w)
      → AllByRecursion (λ t. Harmless (known_sort scope v t) 0) ts
  arguments_known [] place v u w xs symbol grows at zeros e = tt
  arguments_known (t ∷ ts) place v u w xs symbol grows at zeros e =
      let asked = argument_sort u g place in
      let parts = then_ok (plain_argument place t u) (λ y s. mapped (λ ys. y ∷ ys) (each plain_argument (place + 1) ts s)) xs w e in
      let more = mapped_ok (λ (ys : List Term). parts.0 ∷ ys) (each plain_argument (place + 1) ts parts.1) xs w parts.3 in
      let inner = then_ok (denoted_term (plain declared outside) scope t asked u) (fitting g place) parts.0 parts.1 parts.2 in
      let first = (terms_fit t (plain declared outside) scope asked u inner.1 inner.0 inner.2).grows in
      let fits = fits_as (argument_sort inner.1 g place) inner.0 inner.1 parts.1 parts.0 inner.3 in
      let same_vocabulary : parts.1 ≡ inner.1 = fitting_keeps (argument_sort inner.1 g place) inner.0 inner.1 parts.1 parts.0 inner.3 in
      let there = first.grows.same_symbols g symbol at in
      let zero_is : inner.0.sort ≡ 0 = zeros place inner.0.sort (sym (ap (λ r. argument_at r place) there) ∙ fits) in
      let known : Harmless (known_sort scope v t) 0 = λ n told. known_is t (plain declared outside) scope asked v u inner.1 inner.0 grows inner.2 n told ∙ zero_is in
      let on : Extends u parts.1 = subst (Extends u) (sym same_vocabulary) first in
      let at_next : slice_get parts.1.symbols g ≡ Some symbol = on.grows.same_symbols g symbol at in
      (known, arguments_known ts (place + 1) v parts.1 w more.0 symbol (grows_on v u parts.1 grows on) at_next zeros more.1)

-- ---- heads

abbrev plain_new : Vocabulary → List Variable → Text → Kind → List STerm → Option ℕ → Symbol
plain_new v scope name kind ts asked = new_symbol false v name kind (map (known_sort scope v) ts) asked

abbrev placed_new : Vocabulary → List Variable → Text → Kind → List STerm → Option ℕ → Symbol
placed_new v scope name kind ts told = new_symbol true v name kind (map (known_sort scope v) ts) told

all_zeros : (v : Vocabulary) (told : List (Option ℕ)) (k s : ℕ) → slice_get (map (place_sort false v) told) k ≡ Some s → s ≡ 0
all_zeros v [] k s e = absurd (cc)
all_zeros v (o ∷ told) zero s e = sym (same_some 0 s e)
all_zeros v (o ∷ told) (suc k) s e = all_zeros v told k s e

sorts_same : (v : Vocabulary) (scope : List Variable) (ts : List STerm) → AllByRecursion (λ t. Harmless (known_sort scope v t) 0) ts → map (place_sort true v) (map (known_sort scope v) ts) ≡ map (place_sort false v) (map (known_sort scope v) ts)
sorts_same v scope [] all = refl
sorts_same v scope (t ∷ ts) all =
    let first = place_zero v (known_sort scope v t) all.0 in
    ap (λ n. n ∷ map (place_sort true v) (map (known_sort scope v) ts)) first ∙ ap (λ (ns : List ℕ). 0 ∷ ns) (sorts_same v scope ts all.1)

-- another new symbol makes no difference where the head is there, or where it is the same
head_same : (declared : List Text) (name : Text) (kind : Kind) (arity : ℕ) (new other : Symbol) (v : Vocabulary) (o : Outcome SortRule Vocabulary ℕ) → (found_symbol v name kind arity ≡ None → other ≡ new) → head declared name kind arity new v ≡ o → head declared name kind arity other v ≡ o
unfolding head
head_same declared name kind arity new other v o same e = by (found_symbol v name kind arity) refl e
  where
    by : (p : Option ℕ) → found_symbol v name kind arity ≡ p → head_at declared name new p v ≡ o → head_at declared name other p v ≡ o
    by (Some n) is k = k
    by None is k = ap (λ s. head_at declared name s None v) (same is) ∙ k

-- a symbol that is new stands at its number
head_new : (declared : List Text) (name : Text) (kind : Kind) (arity : ℕ) (new : Symbol) (v u : Vocabulary) (g : ℕ) → found_symbol v name kind arity ≡ None → head declared name kind arity new v ≡ Ok (g, u) → slice_get u.symbols g ≡ Some new
unfolding head
head_new declared name kind arity new v u g none e = by (is_among name declared) (sym (ap (λ p. head_at declared name new p v) none) ∙ e)
  where
    room : (b : Bool) → ◌≡◌ {A = Outcome SortRule Vocabulary ℕ} (cond b (Err (Limit Symbols)) (Ok (length v.symbols, record v { symbols = v.symbols ++ new ∷ [] }))) (Ok (g, u)) → slice_get u.symbols g ≡ Some new
    room true k = absurd (cc)
    room false k = at_ok {E = SortRule} (λ (n : ℕ) (t : Vocabulary). slice_get t.symbols n ≡ Some new) (length v.symbols) g (record v { symbols = v.symbols ++ new ∷ [] }) u k (last_of v.symbols new)

    by : (b : Bool) → ◌≡◌ {A = Outcome SortRule Vocabulary ℕ} (cond b (Err Arity) (with_symbol new v)) (Ok (g, u)) → slice_get u.symbols g ≡ Some new
    by true k = absurd (cc)
    by false k = room (length v.symbols == 16777216) k

module _ (declared : List Text) (outside : SortRule) (scope : List Variable) (name : Text) (kind : Kind) (ts : List STerm) (asked told : Option ℕ) (v u w : Vocabulary) (g : ℕ) (xs : List Term)
    (plain_head : head declared name kind (length ts) (plain_new v scope name kind ts asked) v ≡ Ok (g, u)) (plain_each : each (plain_argument declared outside scope g) 0 ts u ≡ Ok (xs, w)) (harmless : Harmless told (result_sort u g)) where
  new_same : found_symbol v name kind (length ts) ≡ None → placed_new v scope name kind ts told ≡ plain_new v scope name kind ts asked
  new_same none =
      let at = head_new declared name kind (length ts) (plain_new v scope name kind ts asked) v u g none plain_head in
      let grows = (head_of (plain declared outside) scope name kind ts asked v u g plain_head).grows in
      let known = arguments_known declared outside scope g ts 0 v u w xs (plain_new v scope name kind ts asked) grows at (all_zeros v (map (known_sort scope v) ts)) plain_each in
      let zero_is : result_sort u g ≡ 0 = ap result_at at in
      let result = place_zero v told (λ n is. harmless n is ∙ zero_is) in
      ap (λ (args : List ℕ). record { name = name; kind = kind; args = args; result = place_sort true v told }) (sorts_same v scope ts known)
      ∙ ap (λ n. record { name = name; kind = kind; args = map (place_sort false v) (map (known_sort scope v) ts); result = n }) result

  placed_head : head declared name kind (length ts) (placed_new v scope name kind ts told) v ≡ Ok (g, u)
  placed_head = head_same declared name kind (length ts) (plain_new v scope name kind ts asked) (placed_new v scope name kind ts told) v (Ok (g, u)) new_same plain_head

-- ---- terms

pub terms_same : (t : STerm) → TermSame t
terms_same = term_induction TermSame (record { var = of_variable; app = of_application })
  where
    of_variable : (name : Text) → TermSame (tm.Var name)
    of_variable name declared outside scope asked told v w x harmless e = denoted_term-Var (placed declared outside) scope name told v ∙ (rw denoted_term-Var at e)

    of_application : (f : Text) (ts : List STerm) → AllByRecursion TermSame ts → TermSame (tm.App f ts)
    of_application f ts all declared outside scope asked told v w x harmless e =
        let of : (ℕ → STerm → Vocabulary → Outcome SortRule Vocabulary Term) → ℕ → Vocabulary → Outcome SortRule Vocabulary Sorted = λ arg g u. mapped (made g (result_sort u g)) (each arg 0 ts u) in
        let parts = then_ok (head declared f Function (length ts) (plain_new v scope f Function ts asked) v) (λ g u. of (plain_argument declared outside scope g) g u) x w (rw denoted_term-App at e) in
        let made_of = mapped_ok (made parts.0 (result_sort parts.1 parts.0)) (each (plain_argument declared outside scope parts.0) 0 ts parts.1) x w parts.3 in
        let sort : x.sort ≡ result_sort parts.1 parts.0 = sym (ap (λ (y : Sorted). y.sort) made_of.2) in
        let found = placed_head declared outside scope f Function ts asked told v parts.1 w parts.0 made_of.0 parts.2 made_of.1 (λ n is. harmless n is ∙ sort) in
        denoted_term-App (placed declared outside) scope f ts told v
        ∙ ap (λ (o : Outcome SortRule Vocabulary ℕ). and_then o (λ g u. of (placed_argument declared outside scope g) g u)) found
        ∙ ap (mapped (made parts.0 (result_sort parts.1 parts.0))) (arguments_same declared outside scope parts.0 ts 0 parts.1 w made_of.0 all made_of.1)
        ∙ ap (λ (y : Sorted). Ok (y, w)) made_of.2

each_same : (ts : List STerm) → AllByRecursion TermSame ts
each_same [] = tt
each_same (t ∷ ts) = (terms_same t, each_same ts)

-- ---- atoms and equations

atom_same : (declared : List Text) (outside : SortRule) (scope : List Variable) (p : Text) (ts : List STerm) (v w : Vocabulary) (a : Form) → atom (plain declared outside) scope p ts v ≡ Ok (a, w) → atom (placed declared outside) scope p ts v ≡ Ok (a, w)
atom_same declared outside scope p ts v w a e =
    let of : (ℕ → STerm → Vocabulary → Outcome SortRule Vocabulary Term) → ℕ → Vocabulary → Outcome SortRule Vocabulary Form = λ arg g u. mapped (Atom g) (each arg 0 ts u) in
    let parts = then_ok (head declared p Predicate (length ts) (plain_new v scope p Predicate ts None) v) (λ g u. of (plain_argument declared outside scope g) g u) a w e in
    let made_of = mapped_ok (Atom parts.0) (each (plain_argument declared outside scope parts.0) 0 ts parts.1) a w parts.3 in
    let found = placed_head declared outside scope p Predicate ts None None v parts.1 w parts.0 made_of.0 parts.2 made_of.1 (λ n is. absurd (cc)) in
    ap (λ (o : Outcome SortRule Vocabulary ℕ). and_then o (λ g u. of (placed_argument declared outside scope g) g u)) found
    ∙ ap (mapped (Atom parts.0)) (arguments_same declared outside scope parts.0 ts 0 parts.1 w made_of.0 (each_same ts) made_of.1)
    ∙ ap (λ (b : Form). Ok (b, w)) made_of.2

equal_sorts : (x y : Sorted) (u w : Vocabulary) (a : Form) → equal x y u ≡ Ok (a, w) → x.sort ≡ y.sort
equal_sorts x y u w a e = by (x.sort == y.sort) refl e
  where
    by : (b : Bool) → (x.sort == y.sort) ≡ b → ◌≡◌ {A = Outcome SortRule Vocabulary Form} (cond b (Ok (Eq x.term y.term, u)) (Err WrongSort)) (Ok (a, w)) → x.sort ≡ y.sort
    by true is k = grind (arith, nat_tests)
    by false is k = absurd (cc)

equation_same : (declared : List Text) (outside : SortRule) (scope : List Variable) (l r : STerm) (v w : Vocabulary) (a : Form) → equation (plain declared outside) scope l r v ≡ Ok (a, w) → equation (placed declared outside) scope l r v ≡ Ok (a, w)
equation_same declared outside scope l r v w a e =
    let here = plain declared outside in
    let there = placed declared outside in
    let known = known_sort scope v r in
    let left = then_ok (denoted_term here scope l known v) (λ x u. and_then (denoted_term here scope r (Some x.sort) u) (equal x)) a w e in
    let right = then_ok (denoted_term here scope r (Some left.0.sort) left.1) (equal left.0) a w left.3 in
    let grows = (terms_fit l here scope known v left.1 left.0 left.2).grows in
    let sorts = equal_sorts left.0 right.0 right.1 w a right.3 in
    let first = terms_same l declared outside scope known known v left.1 left.0 (λ n is. known_is r here scope (Some left.0.sort) v left.1 right.1 right.0 grows right.2 n is ∙ sym sorts) left.2 in
    let second = terms_same r declared outside scope (Some left.0.sort) (Some left.0.sort) left.1 right.1 right.0 (λ n is. sym (same_some left.0.sort n is) ∙ sorts) right.2 in
    ap (λ (o : Outcome SortRule Vocabulary Sorted). and_then o (λ x u. and_then (denoted_term there scope r (Some x.sort) u) (equal x))) first
    ∙ ap (λ (o : Outcome SortRule Vocabulary Sorted). and_then o (equal left.0)) second
    ∙ right.3

beside_same : (n : ℕ) (o p : Outcome SortRule Vocabulary Form) (a : Form) (t : State) → ((w : Vocabulary) (b : Form) → o ≡ Ok (b, w) → p ≡ Ok (b, w)) → beside n o ≡ Ok (a, t) → beside n p ≡ Ok (a, t)
beside_same n (Err x) p a t same e = absurd (cc)
beside_same n (Ok q) p a t same e = ap (beside n) (same q.1 q.0 refl) ∙ e

-- ---- formulas

abbrev FormSame : Surface → Type 0
FormSame a = (declared : List Text) (outside : SortRule) (scope : List Variable) (s t : State) (form : Form) → denoted_form (plain declared outside) a scope s ≡ Ok (form, t) → denoted_form (placed declared outside) a scope s ≡ Ok (form, t)

abbrev members : Setting → List Variable → List Surface → ℕ → State → Outcome SortRule State (List Form)
members here scope as_ place s = each (λ p a. denoted_form here a scope) place as_ s

members_same : (declared : List Text) (outside : SortRule) (scope : List Variable) (as_ : List Surface) (place : ℕ) (s t : State) (forms : List Form) → AllByRecursion FormSame as_ → members (plain declared outside) scope as_ place s ≡ Ok (forms, t) → members (placed declared outside) scope as_ place s ≡ Ok (forms, t)
members_same declared outside scope [] place s t forms all e = e
members_same declared outside scope (a ∷ as_) place s t forms all e =
    let parts = then_ok (denoted_form (plain declared outside) a scope s) (λ y u. mapped (λ ys. y ∷ ys) (members (plain declared outside) scope as_ (place + 1) u)) forms t e in
    let more = mapped_ok (λ (ys : List Form). parts.0 ∷ ys) (members (plain declared outside) scope as_ (place + 1) parts.1) forms t parts.3 in
    ap (λ (o : FormOutcome). and_then o (λ y u. mapped (λ ys. y ∷ ys) (members (placed declared outside) scope as_ (place + 1) u))) (all.0 declared outside scope s parts.1 parts.0 parts.2)
    ∙ ap (mapped (λ (ys : List Form). parts.0 ∷ ys)) (members_same declared outside scope as_ (place + 1) parts.1 t more.0 all.1 more.1)
    ∙ ap (λ (ys : List Form). Ok (ys, t)) more.2

-- a step behind a part that is the same
mapped_same : {A B : Type 0} (f : A → B) (o p : Outcome SortRule State A) (b : B) (t : State) → ((a : A) → o ≡ Ok (a, t) → p ≡ Ok (a, t)) → mapped f o ≡ Ok (b, t) → mapped f p ≡ Ok (b, t)
mapped_same f o p b t same e = let inner = mapped_ok f o b t e in ap (mapped f) (same inner.0 inner.1) ∙ ap (λ c. Ok (c, t)) inner.2

pub forms_same : (a : Surface) → FormSame a
forms_same = form_induction FormSame (record {
  truth = λ declared outside scope s t form e. denoted_form-True (placed declared outside) scope s ∙ (rw denoted_form-True at e);
  falsity = λ declared outside scope s t form e. denoted_form-False (placed declared outside) scope s ∙ (rw denoted_form-False at e);
  atom = λ p ts declared outside scope s t form e.
      denoted_form-Atom (placed declared outside) scope s p ts
      ∙ beside_same s.bound (atom (plain declared outside) scope p ts s.vocabulary) (atom (placed declared outside) scope p ts s.vocabulary) form t (λ w b. atom_same declared outside scope p ts s.vocabulary w b) (rw denoted_form-Atom at e);
  eq = λ l r declared outside scope s t form e.
      denoted_form-Eq (placed declared outside) scope s l r
      ∙ beside_same s.bound (equation (plain declared outside) scope l r s.vocabulary) (equation (placed declared outside) scope l r s.vocabulary) form t (λ w b. equation_same declared outside scope l r s.vocabulary w b) (rw denoted_form-Eq at e);
  neq = λ l r declared outside scope s t form e.
      denoted_form-Neq (placed declared outside) scope s l r
      ∙ mapped_same Not (beside s.bound (equation (plain declared outside) scope l r s.vocabulary)) (beside s.bound (equation (placed declared outside) scope l r s.vocabulary)) form t (λ a k.
      beside_same s.bound (equation (plain declared outside) scope l r s.vocabulary) (equation (placed declared outside) scope l r s.vocabulary) a t (λ w b. equation_same declared outside scope l r s.vocabulary w b) k) (rw denoted_form-Neq at e);
  not = λ a same declared outside scope s t form e.
      denoted_form-Not (placed declared outside) scope s a
      ∙ mapped_same Not (denoted_form (plain declared outside) a scope s) (denoted_form (placed declared outside) a scope s) form t (λ b k. same declared outside scope s t b k) (rw denoted_form-Not at e);
  and = λ as_ all declared outside scope s t form e.
      denoted_form-And (placed declared outside) scope s as_
      ∙ mapped_same And (members (plain declared outside) scope as_ 0 s) (members (placed declared outside) scope as_ 0 s) form t (λ b k. members_same declared outside scope as_ 0 s t b all k) (rw denoted_form-And at e);
  or = λ as_ all declared outside scope s t form e.
      denoted_form-Or (placed declared outside) scope s as_
      ∙ mapped_same Or (members (plain declared outside) scope as_ 0 s) (members (placed declared outside) scope as_ 0 s) form t (λ b k. members_same declared outside scope as_ 0 s t b all k) (rw denoted_form-Or at e);
  binary = λ o a b one two declared outside scope s t form e.
      let here = plain declared outside in
      let there = placed declared outside in
      let parts = then_ok (denoted_form here a scope s) (λ x u. mapped (joined o x) (denoted_form here b scope u)) form t (rw denoted_form-Binary at e) in
      denoted_form-Binary there scope s o a b
      ∙ ap (λ (q : FormOutcome). and_then q (λ x u. mapped (joined o x) (denoted_form there b scope u))) (one declared outside scope s parts.1 parts.0 parts.2)
      ∙ mapped_same (joined o parts.0) (denoted_form here b scope parts.1) (denoted_form there b scope parts.1) form t (λ c k. two declared outside scope parts.1 t c k) parts.3;
  bind = λ quant xs a same declared outside scope s t form e.
      let here = plain declared outside in
      let there = placed declared outside in
      let parts = then_ok (each (λ p. bound_variable) 0 xs s) (λ vs u. mapped (closed quant vs) (denoted_form here a (scope ++ vs) u)) form t (rw denoted_form-Bind at e) in
      denoted_form-Bind there scope s quant xs a
      ∙ ap (λ (q : Outcome SortRule State (List Variable)). and_then q (λ vs u. mapped (closed quant vs) (denoted_form there a (scope ++ vs) u))) parts.2
      ∙ mapped_same (closed quant parts.0) (denoted_form here a (scope ++ parts.0) parts.1) (denoted_form there a (scope ++ parts.0) parts.1) form t (λ c k. same declared outside (scope ++ parts.0) parts.1 t c k) parts.3;
})
