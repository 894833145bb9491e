-- Terms that are denoted have their sorts, and the vocabulary only grows.
use Rattle.std.proofs.Common.{◌≡◌, ℕ, zero, suc, ◌+◌, ◌<◌, ◌≤◌, ◌==◌, ◌&&◌, Bool, true, false, cond, List, [], ◌∷◌, ◌++◌, length, map, drop, slice_get, position, Option, Some, None, Ok, Err, refl, sym, ◌∙◌, ap, subst, arith, nat_eq, nat_lt, get_or, add-one, append_assoc}
use Rattle.std.specs.List.{AllByRecursion}
use Rattle.std.specs.Str.{bytes_eq}
use Rattle.std.specs.Cmp.Lexicographic.{pointwise}
use Rattle.std.proofs.lemmas.Bool.Decides.{nat_tests}
use Rattle.std.proofs.lemmas.List.{drop_all, append-nil, length-append}
use Rattle.std.proofs.lemmas.List.Elements.{All-from_recursion}
use Rattle.std.proofs.lemmas.List.Quantifiers.{position-Some}
use Rattle.std.proofs.lemmas.Option.{slice_get-get_or}
use Rattle.tptp_base.specs.declared.limit.LimitName.TheVariants.{Symbols}
use Rattle.tptp_base.specs.declared.surface.STerm.{STerm}
use Rattle.tptp_base.specs.declared.surface.STerm.TheVariants as tm
use Rattle.fof_terms.specs.Vocabulary.{Vocabulary, IsDeclared, is_symbol, is_kind, found_symbol}
use Rattle.fof_terms.specs.Sorts.{is_sort, are_sorts, applied, made_by, sort_of_term}
use Rattle.fof_terms.proofs.SortsFacts.{sort_of_term-Var, sort_of_term-App}
use Rattle.fof_terms.proofs.SortLawsFacts.{more_sorts_grow, more_symbols_grow}
use Rattle.fof_terms.proofs.Induction as trees
use Rattle.fof_terms.proofs.LiftingLaws.{both, applied_found}
use Rattle.fof_terms.specs.declared.signature.Kind.{Kind}
use Rattle.fof_terms.specs.declared.signature.Kind.TheVariants.{Function, Predicate}
use Rattle.fof_terms.specs.declared.signature.Symbol.{Symbol}
use Rattle.fof_terms.specs.declared.term.Term.{Term, Var, App}
use Rattle.sort_check.specs.declared.fault.SortRule.{SortRule}
use Rattle.sort_check.specs.declared.fault.SortRule.TheVariants.{WrongSort, Arity, Limit}
use Rattle.sort_check.specs.declared.scope.Variable.{Variable}
use Rattle.sort_check.specs.declared.terms.Sorted.{Sorted}
use Rattle.sort_check.specs.Outcomes.{Outcome, mapped, each}
use Rattle.sort_check.specs.Symbols.{Text, place_sort, new_symbol, with_symbol, is_among, head, head_at, argument_sort, argument_at, result_sort, result_at}
use Rattle.sort_check.specs.Denotation.{Setting, nearest, or_else, variable_at, fitting, argument, made, denoted_term, known_sort}
use Rattle.sort_check.specs.Sorting.{GoesOn, Extends}
use Rattle.sort_check.proofs.Equations.{new_function, denoted_term-Var, denoted_term-App}
use Rattle.sort_check.proofs.Inducing.{term_induction}
use Rattle.sort_check.proofs.Stepping.{at_ok, then_ok, mapped_ok}

-- ---- scopes

-- the sorts of the variables of a scope, the innermost first, and behind them others
abbrev pub sorts_over : List Variable → List ℕ → List ℕ
sorts_over [] outer = outer
sorts_over (x ∷ scope) outer = sorts_over scope (x.sort ∷ outer)

abbrev pub sorts_of : List Variable → List ℕ
sorts_of scope = sorts_over scope []

pub sorts_over-append : (xs ys : List Variable) (outer : List ℕ) → sorts_over (xs ++ ys) outer ≡ sorts_over ys (sorts_over xs outer)
sorts_over-append [] ys outer = refl
sorts_over-append (x ∷ xs) ys outer = sorts_over-append xs ys (x.sort ∷ outer)

behind_scope : (scope : List Variable) (outer : List ℕ) (k : ℕ) → slice_get (sorts_over scope outer) (length scope + k) ≡ slice_get outer k
behind_scope [] outer k = let same : 0 + k ≡ k = omega arith in ap (slice_get outer) same
behind_scope (x ∷ scope) outer k =
    let same : suc (length scope) + k ≡ length scope + suc k = omega arith in
    ap (slice_get (sorts_over scope (x.sort ∷ outer))) same ∙ behind_scope scope (x.sort ∷ outer) (suc k)

pub nearest_sort : (scope : List Variable) (outer : List ℕ) (name : Text) (p : ℕ × ℕ) → nearest scope name ≡ Some p → slice_get (sorts_over scope outer) p.0 ≡ Some p.1
nearest_sort [] outer name p e = absurd (cc)
nearest_sort (x ∷ scope) outer name p e = by (nearest scope name) (nearest_sort scope (x.sort ∷ outer) name p) e
  where
    here : (b : Bool) → ◌≡◌ {A = Option (ℕ × ℕ)} (cond b (Some (length scope, x.sort)) None) (Some p) → (length scope, x.sort) ≡ p
    here true k = cc
    here false k = absurd (cc)

    by : (o : Option (ℕ × ℕ)) → (o ≡ Some p → slice_get (sorts_over scope (x.sort ∷ outer)) p.0 ≡ Some p.1) → or_else o (cond (bytes_eq x.name name) (Some (length scope, x.sort)) None) ≡ Some p → slice_get (sorts_over scope (x.sort ∷ outer)) p.0 ≡ Some p.1
    by (Some q) inner k = inner k
    by None inner k =
        let same : length scope ≡ length scope + 0 = omega arith in
        subst (λ (q : ℕ × ℕ). slice_get (sorts_over scope (x.sort ∷ outer)) q.0 ≡ Some q.1) (here (bytes_eq x.name name) k)
        (ap (slice_get (sorts_over scope (x.sort ∷ outer))) same ∙ behind_scope scope (x.sort ∷ outer) 0)

-- ---- vocabularies that grow

pub grows_not : (v : Vocabulary) → Extends v v
grows_not v = record { grows = record { more_sorts = omega arith; same_symbols = λ k s e. e }; sorts = ([], sym (append-nil v.sorts)); symbols = ([], sym (append-nil v.symbols)); declared = λ some h. h }

goes_on : {X : Type 0} (a b c : List X) → GoesOn a b → GoesOn b c → GoesOn a c
goes_on a b c one two = (one.0 ++ two.0, two.1 ∙ ap (λ front. front ++ two.0) one.1 ∙ append_assoc a one.0 two.0)

pub grows_on : (u v w : Vocabulary) → Extends u v → Extends v w → Extends u w
grows_on u v w one two = record {
  grows = record { more_sorts = omega (arith, one.grows.more_sorts, two.grows.more_sorts); same_symbols = λ k s e. two.grows.same_symbols k s (one.grows.same_symbols k s e) };
  sorts = goes_on u.sorts v.sorts w.sorts one.sorts two.sorts;
  symbols = goes_on u.symbols v.symbols w.symbols one.symbols two.symbols;
  declared = λ some h. two.declared (omega (arith, some, one.grows.more_sorts)) (one.declared some h);
}

-- symbols whose sorts are there, where there are more sorts, or with a further symbol
wider : (m n : ℕ) (symbols : List Symbol) → m ≤ n → AllByRecursion (IsDeclared m) symbols → AllByRecursion (IsDeclared n) symbols
wider m n [] le all = tt
wider m n (s ∷ symbols) le all = (record { args = λ i d lt. omega (arith, all.0.args i d lt, le); result = omega (arith, all.0.result, le) }, wider m n symbols le all.1)

with_last : {X : Type 0} (P : X → Type 0) (xs : List X) (x : X) → AllByRecursion P xs → P x → AllByRecursion P (xs ++ x ∷ [])
with_last P [] x all one = (one, tt)
with_last P (y ∷ xs) x all one = (all.0, with_last P xs x all.1 one)

-- a vocabulary with one sort more, or one symbol more
pub sort_added : (v : Vocabulary) (name : List ℕ) → Extends v (record v { sorts = v.sorts ++ name ∷ [] })
sort_added v name = record {
  grows = more_sorts_grow v name;
  sorts = (name ∷ [], refl);
  symbols = ([], sym (append-nil v.symbols));
  declared = λ some h. wider (length v.sorts) (length (v.sorts ++ name ∷ [])) v.symbols (omega (arith, length-append v.sorts (name ∷ []))) h;
}

pub symbol_added : (v : Vocabulary) (s : Symbol) → (0 < length v.sorts → IsDeclared (length v.sorts) s) → Extends v (record v { symbols = v.symbols ++ s ∷ [] })
symbol_added v s fits = record {
  grows = more_symbols_grow v s;
  sorts = ([], sym (append-nil v.sorts));
  symbols = (s ∷ [], refl);
  declared = λ some h. with_last (IsDeclared (length v.sorts)) v.symbols s h (fits some);
}

-- a new symbol has sorts that are there
place_sort_fits : (by_place : Bool) (v : Vocabulary) (told : Option ℕ) → 0 < length v.sorts → place_sort by_place v told < length v.sorts
place_sort_fits false v told some = some
place_sort_fits true v None some = some
place_sort_fits true v (Some sort) some = by (nat_lt sort (length v.sorts)) refl
  where
    by : (b : Bool) → nat_lt sort (length v.sorts) ≡ b → cond b sort 0 < length v.sorts
    by true e = grind (arith, nat_tests)
    by false e = some

place_sorts_fit : (by_place : Bool) (v : Vocabulary) (told : List (Option ℕ)) → 0 < length v.sorts → AllByRecursion (λ a. a < length v.sorts) (map (place_sort by_place v) told)
place_sorts_fit by_place v [] some = tt
place_sorts_fit by_place v (o ∷ told) some = (place_sort_fits by_place v o some, place_sorts_fit by_place v told some)

pub new_symbol_fits : (by_place : Bool) (v : Vocabulary) (name : Text) (kind : Kind) (known : List (Option ℕ)) (asked : Option ℕ) → 0 < length v.sorts → IsDeclared (length v.sorts) (new_symbol by_place v name kind known asked)
new_symbol_fits by_place v name kind known asked some = record {
  args = All-from_recursion (λ a. a < length v.sorts) (map (place_sort by_place v) known) (place_sorts_fit by_place v known some);
  result = place_sort_fits by_place v asked some;
}

length_map : {X Y : Type 0} (f : X → Y) (xs : List X) → length (map f xs) ≡ length xs
length_map f [] = refl
length_map f (x ∷ xs) = ap suc (length_map f xs)

-- it has as many arguments as it is given
new_arity : (by_place : Bool) (v : Vocabulary) (scope : List Variable) (ts : List STerm) → length (map (place_sort by_place v) (map (known_sort scope v) ts)) ≡ length ts
new_arity by_place v scope ts = length_map (place_sort by_place v) (map (known_sort scope v) ts) ∙ length_map (known_sort scope v) ts

kept_answers : {X : Type 0} (f g : X → Option ℕ) (xs : List X) → AllByRecursion (λ x. (s : ℕ) → f x ≡ Some s → g x ≡ Some s) xs → AllByRecursion (λ x. (s : ℕ) × (f x ≡ Some s)) xs → map g xs ≡ map f xs
kept_answers f g [] e h = refl
kept_answers f g (x ∷ xs) e h = rw (e.0 h.0.0 h.0.1, h.0.1, kept_answers f g xs e.1 h.1) refl

applied_known : (r : Option Symbol) (found : List (Option ℕ)) (s : ℕ) → applied r found ≡ Some s → (symbol : Symbol) × (r ≡ Some symbol)
applied_known None found s e = absurd (cc)
applied_known (Some symbol) found s e = (symbol, refl)

-- the sort of a term stays
pub kept_sort : (v w : Vocabulary) → Extends v w → (scope : List ℕ) (t : Term) (s : ℕ) → sort_of_term v scope t ≡ Some s → sort_of_term w scope t ≡ Some s
kept_sort v w g scope = trees.term_induction _ (record {
  var = λ k s e. rw sort_of_term-Var (rw sort_of_term-Var at e);
  app = λ f ts all s e.
      let old : applied (slice_get v.symbols f) (map (sort_of_term v scope) ts) ≡ Some s = rw sort_of_term-App at e in
      let each = applied_found (sort_of_term v scope) ts (slice_get v.symbols f) s old in
      let same = kept_answers (sort_of_term v scope) (sort_of_term w scope) ts all each in
      let symbol = applied_known (slice_get v.symbols f) (map (sort_of_term v scope) ts) s old in
      rw (sort_of_term-App, same, g.grows.same_symbols f symbol.0 symbol.1) (rw symbol.1 at old);
})

-- ---- symbols

-- The symbol of that number is of that kind, and has so many arguments.
pub record IsHead (v w : Vocabulary) (kind : Kind) (arity number : ℕ) : Type 0 where
  pub grows : Extends v w
  pub symbol : Symbol
  pub at : slice_get w.symbols number ≡ Some symbol
  pub of_kind : symbol.kind ≡ kind
  pub args : length symbol.args ≡ arity

pub last_of : {X : Type 0} (xs : List X) (x : X) → slice_get (xs ++ x ∷ []) (length xs) ≡ Some x
last_of [] x = refl
last_of (y ∷ xs) x = last_of xs x

pub found_at : (p : Symbol → Bool) (xs : List Symbol) (k : ℕ) → position p xs ≡ Some k → (x : Symbol) × (slice_get xs k ≡ Some x) × (p x ≡ true)
found_at p [] k e = absurd (cc)
found_at p (x ∷ xs) k e = let found = position-Some p (x ∷ xs) k x e in (get_or (x ∷ xs) k x, slice_get-get_or (x ∷ xs) k x found.0, found.1)

one_kind : (a b : Kind) → is_kind a b ≡ true → a ≡ b
one_kind Function Function e = refl
one_kind Function Predicate e = absurd (cc)
one_kind Predicate Function e = absurd (cc)
one_kind Predicate Predicate e = refl

pub head_ok : (declared : List Text) (name : Text) (kind : Kind) (arity : ℕ) (added : Symbol) (v w : Vocabulary) (number : ℕ) → (0 < length v.sorts → IsDeclared (length v.sorts) added) → added.kind ≡ kind → length added.args ≡ arity
    → head declared name kind arity added v ≡ Ok (number, w) → IsHead v w kind arity number
unfolding head
head_ok declared name kind arity added v w number fits of_kind args e = by (found_symbol v name kind arity) refl e
  where
    is_added : IsHead v (record v { symbols = v.symbols ++ added ∷ [] }) kind arity (length v.symbols)
    is_added = record {
      grows = symbol_added v added fits;
      symbol = added;
      at = last_of v.symbols added;
      of_kind = of_kind;
      args = args;
    }

    room : (b : Bool) → ◌≡◌ {A = Outcome SortRule Vocabulary ℕ} (cond b (Err (Limit Symbols)) (Ok (length v.symbols, record v { symbols = v.symbols ++ added ∷ [] }))) (Ok (number, w)) → IsHead v w kind arity number
    room true k = absurd (cc)
    room false k = at_ok {E = SortRule} (λ n u. IsHead v u kind arity n) (length v.symbols) number (record v { symbols = v.symbols ++ added ∷ [] }) w k is_added

    new : (b : Bool) → ◌≡◌ {A = Outcome SortRule Vocabulary ℕ} (cond b (Err Arity) (with_symbol added v)) (Ok (number, w)) → IsHead v w kind arity number
    new true k = absurd (cc)
    new false k = room (length v.symbols == 16777216) k

    known : (n : ℕ) → found_symbol v name kind arity ≡ Some n → IsHead v v kind arity n
    known n is =
        let found = found_at (is_symbol name kind arity) v.symbols n is in
        let tests = both (pointwise nat_eq found.0.name name) (is_kind found.0.kind kind && (length found.0.args == arity)) found.2 in
        let rest = both (is_kind found.0.kind kind) (length found.0.args == arity) tests.1 in
        record { grows = grows_not v; symbol = found.0; at = found.1; of_kind = one_kind found.0.kind kind rest.0; args = grind (arith, nat_tests) }

    by : (o : Option ℕ) → found_symbol v name kind arity ≡ o → head_at declared name added o v ≡ Ok (number, w) → IsHead v w kind arity number
    by (Some n) is k = at_ok {E = SortRule} (λ m u. IsHead v u kind arity m) n number v w k (known n is)
    by None is k = new (is_among name declared) k

-- a head of these arguments, at a place that asks for this sort
pub head_of : (here : Setting) (scope : List Variable) (name : Text) (kind : Kind) (ts : List STerm) (asked : Option ℕ) (v w : Vocabulary) (number : ℕ) → head here.declared name kind (length ts) (new_symbol here.by_place v name kind (map (known_sort scope v) ts) asked) v ≡ Ok (number, w)
    → IsHead v w kind (length ts) number
head_of here scope name kind ts asked v w number e =
    head_ok here.declared name kind (length ts) (new_symbol here.by_place v name kind (map (known_sort scope v) ts) asked) v w number (new_symbol_fits here.by_place v name kind (map (known_sort scope v) ts) asked) refl
    (new_arity here.by_place v scope ts) e

-- ---- terms

-- The term has its sort.
pub record HasSort (v w : Vocabulary) (scope : List ℕ) (x : Sorted) : Type 0 where
  pub grows : Extends v w
  pub sort : sort_of_term w scope x.term ≡ Some x.sort

abbrev pub TermFits : STerm → Type 0
TermFits t = (here : Setting) (scope : List Variable) (asked : Option ℕ) (v w : Vocabulary) (x : Sorted) → denoted_term here scope t asked v ≡ Ok (x, w) → HasSort v w (sorts_of scope) x

-- The terms have the sorts that the symbol wants from that place on.
pub record Fit (v w : Vocabulary) (scope : List ℕ) (wanted : List ℕ) (xs : List Term) : Type 0 where
  pub grows : Extends v w
  pub sorts : are_sorts (map (sort_of_term w scope) xs) wanted ≡ true

drop_at : (xs : List ℕ) (i x : ℕ) → slice_get xs i ≡ Some x → drop i xs ≡ x ∷ drop (i + 1) xs
drop_at [] i x e = absurd (cc)
drop_at (y ∷ xs) zero x e = ap (λ z. z ∷ xs) (same e)
  where
    same : Some y ≡ Some x → y ≡ x
    same k = cc
drop_at (y ∷ xs) (suc i) x e = rw add-one (rw add-one at (drop_at xs i x e))

pub wanted_sort : (r : Option ℕ) (s : ℕ) → is_sort r s ≡ true → r ≡ Some s
wanted_sort None s e = absurd (cc)
wanted_sort (Some r) s e = let same : r ≡ s = grind (arith, nat_tests) in ap Some same

equals_itself : (s : ℕ) → (s == s) ≡ true
equals_itself s = grind (arith, nat_tests)

module _ (here : Setting) (scope : List Variable) (number : ℕ) (symbol : Symbol) where
  one_argument : (place : ℕ) (t : STerm) (v w : Vocabulary) (y : Term) → TermFits t → slice_get v.symbols number ≡ Some symbol → argument number place (denoted_term here scope t) v ≡ Ok (y, w)
      → Extends v w × ((s : ℕ) × (slice_get symbol.args place ≡ Some s) × (sort_of_term w (sorts_of scope) y ≡ Some s))
  one_argument place t v w y fits at e =
      let asked = argument_sort v number place in
      let parts = then_ok (denoted_term here scope t asked v) (fitting number place) y w e in
      let good = fits here scope asked v parts.1 parts.0 parts.2 in
      by parts.0 parts.1 good (is_sort (argument_sort parts.1 number place) parts.0.sort) refl parts.3
    where
      by : (x : Sorted) (u : Vocabulary) → HasSort v u (sorts_of scope) x → (b : Bool) → is_sort (argument_sort u number place) x.sort ≡ b → ◌≡◌ {A = Outcome SortRule Vocabulary Term} (cond b (Ok (x.term, u)) (Err WrongSort)) (Ok (y, w))
          → Extends v w × ((s : ℕ) × (slice_get symbol.args place ≡ Some s) × (sort_of_term w (sorts_of scope) y ≡ Some s))
      by x u good false is k = absurd (cc)
      by x u good true is k =
          let wants : slice_get symbol.args place ≡ Some x.sort = ap (λ r. argument_at r place) (sym (good.grows.grows.same_symbols number symbol at)) ∙ wanted_sort (argument_sort u number place) x.sort is in
          at_ok {E = SortRule} (λ z o. Extends v o × ((s : ℕ) × (slice_get symbol.args place ≡ Some s) × (sort_of_term o (sorts_of scope) z ≡ Some s))) x.term y u w k (good.grows, (x.sort, wants, good.sort))

  pub arguments_fit : (ts : List STerm) (place : ℕ) (v w : Vocabulary) (xs : List Term) → AllByRecursion TermFits ts → slice_get v.symbols number ≡ Some symbol → length symbol.args ≡ place + length ts
      → each (λ p t. argument number p (denoted_term here scope t)) place ts v ≡ Ok (xs, w) → Fit v w (sorts_of scope) (drop place symbol.args) xs
  arguments_fit [] place v w xs all at len e =
      at_ok {E = SortRule} (λ (ys : List Term) u. Fit v u (sorts_of scope) (drop place symbol.args) ys) [] xs v w e
      (record { grows = grows_not v; sorts = ap (are_sorts []) (drop_all place symbol.args (omega (arith, len))) })
  arguments_fit (t ∷ ts) place v w xs all at len e =
      let parts = then_ok (argument number place (denoted_term here scope t) v) (λ y u. mapped (λ ys. y ∷ ys) (each (λ p s. argument number p (denoted_term here scope s)) (place + 1) ts u)) xs w e in
      let one = one_argument place t v parts.1 parts.0 all.0 at parts.2 in
      let more = mapped_ok (λ (ys : List Term). parts.0 ∷ ys) (each (λ p s. argument number p (denoted_term here scope s)) (place + 1) ts parts.1) xs w parts.3 in
      let rest = arguments_fit ts (place + 1) parts.1 w more.0 all.1 (one.0.grows.same_symbols number symbol at) (omega (arith, len)) more.1 in
      let sort : sort_of_term w (sorts_of scope) parts.0 ≡ Some one.1.0 = kept_sort parts.1 w rest.grows (sorts_of scope) parts.0 one.1.0 one.1.2 in
      subst (Fit v w (sorts_of scope) (drop place symbol.args)) more.2 (record {
        grows = grows_on v parts.1 w one.0 rest.grows;
        sorts = rw (drop_at symbol.args place one.1.0 one.1.1, sort, equals_itself one.1.0) rest.sorts;
      })

-- each term that is denoted has its sort
pub terms_fit : (t : STerm) → TermFits t
terms_fit = term_induction TermFits (record { var = var_fits; app = app_fits })
  where
    var_fits : (name : Text) → TermFits (tm.Var name)
    var_fits name here scope asked v w x e = by (nearest scope name) refl (rw denoted_term-Var at e)
      where
        by : (o : Option (ℕ × ℕ)) → nearest scope name ≡ o → variable_at here.outside o v ≡ Ok (x, w) → HasSort v w (sorts_of scope) x
        by None is k = absurd (cc)
        by (Some p) is k =
            at_ok {E = SortRule} (λ y u. HasSort v u (sorts_of scope) y) (record { term = Var p.0; sort = p.1 }) x v w k
            (record { grows = grows_not v; sort = rw sort_of_term-Var (nearest_sort scope [] name p is) })

    app_fits : (f : Text) (ts : List STerm) → AllByRecursion TermFits ts → TermFits (tm.App f ts)
    app_fits f ts all here scope asked v w x e =
        let parts = then_ok (head here.declared f Function (length ts) (new_function here scope v f ts asked) v) (λ g u. mapped (made g (result_sort u g)) (each (λ place t. argument g place (denoted_term here scope t)) 0 ts u)) x w (rw denoted_term-App at e) in
        let found = head_of here scope f Function ts asked v parts.1 parts.0 parts.2 in
        let made_of = mapped_ok (made parts.0 (result_sort parts.1 parts.0)) (each (λ place t. argument parts.0 place (denoted_term here scope t)) 0 ts parts.1) x w parts.3 in
        let fit = arguments_fit here scope parts.0 found.symbol ts 0 parts.1 w made_of.0 all found.at (omega (arith, found.args)) made_of.1 in
        let result : result_sort parts.1 parts.0 ≡ found.symbol.result = ap result_at found.at in
        let sort : sort_of_term w (sorts_of scope) (App parts.0 made_of.0) ≡ Some found.symbol.result =
        sort_of_term-App w (sorts_of scope) parts.0 made_of.0
        ∙ ap (λ r. applied r (map (sort_of_term w (sorts_of scope)) made_of.0)) (fit.grows.grows.same_symbols parts.0 found.symbol found.at)
        ∙ ap (λ k. made_by k (are_sorts (map (sort_of_term w (sorts_of scope)) made_of.0) found.symbol.args) found.symbol.result) found.of_kind
        ∙ ap (λ b. made_by Function b found.symbol.result) fit.sorts in
        subst (HasSort v w (sorts_of scope)) made_of.2 (record {
          grows = grows_on v parts.1 w found.grows fit.grows;
          sort = sort ∙ ap Some (sym result);
        })
