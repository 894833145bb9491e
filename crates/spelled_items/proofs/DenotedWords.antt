-- The words, variables and terms of what denotes something over a vocabulary whose names can be written.
use Rattle.std.proofs.Common.{◌≡◌, ℕ, zero, suc, ◌+◌, ◌<◌, ◌^◌, ◌%◌, ◌==◌, ◌&&◌, Bool, true, false, cond, List, [], ◌∷◌, ◌++◌, length, map, drop, get_or, position, nat_eq, Option, Some, None, Ok, Err, refl, ◌∙◌, subst, arith}
use Rattle.std.specs.Prelude.{decimal}
use Rattle.std.specs.List.{list_all, AllByRecursion}
use Rattle.std.specs.Str.{bytes_eq}
use Rattle.std.specs.Cmp.Lexicographic.{pointwise, bytes_decides}
use Rattle.std.specs.Option.{option_map}
use Rattle.std.proofs.lemmas.Bool.{and_from}
use Rattle.std.proofs.lemmas.Bool.Decides.{nat_tests}
use Rattle.std.proofs.lemmas.Fmt.{decimal_by_steps}
use Rattle.std.proofs.lemmas.List.Folds.{list_all-append}
use Rattle.std.proofs.lemmas.List.Quantifiers.{position-Some}
use Rattle.tptp_base.specs.Quotable.{IsQuotable, AreQuotable}
use Rattle.tptp_base.specs.declared.limit.LimitName.TheVariants.{Symbols}
use Rattle.tptp_base.specs.declared.surface.SortName.{SortName}
use Rattle.tptp_base.specs.declared.surface.SortName.TheVariants as sort
use Rattle.tptp_base.specs.declared.surface.STerm.{STerm}
use Rattle.tptp_base.specs.declared.surface.STerm.TheVariants as tm
use Rattle.tptp_lexer.specs.Bytes.{is_alpha_numeric}
use Rattle.fof_terms.specs.Vocabulary.{Vocabulary, is_symbol, is_kind, found_symbol, found_sort}
use Rattle.fof_terms.specs.Sorts.{is_sort}
use Rattle.fof_terms.specs.declared.signature.Kind.{Kind}
use Rattle.fof_terms.specs.declared.signature.Kind.TheVariants.{Function}
use Rattle.fof_terms.specs.declared.signature.Symbol.{Symbol}
use Rattle.fof_terms.specs.declared.term.Term.{Term, Var}
use Rattle.sort_check.specs.declared.fault.SortRule.{SortRule}
use Rattle.sort_check.specs.declared.fault.SortRule.TheVariants.{WrongSort, Arity, Limit}
use Rattle.sort_check.specs.declared.scope.Variable.{Variable}
use Rattle.sort_check.specs.declared.terms.Sorted.{Sorted}
use Rattle.sort_check.specs.Outcomes.{Outcome, mapped, each}
use Rattle.sort_check.specs.Symbols.{Text, with_symbol, is_among, head, head_at, argument_sort, result_sort, known}
use Rattle.sort_check.specs.Denotation.{Setting, nearest, or_else, variable_at, variable_sort, fitting, argument, made, denoted_term}
use Rattle.sort_check.proofs.Equations.{new_function, denoted_term-Var, denoted_term-App}
use Rattle.sort_check.proofs.Inducing.{term_induction}
use Rattle.sort_check.proofs.Stepping.{at_ok, then_ok, mapped_ok}
use Rattle.prove_out.specs.Variables.{variable_name}
use Rattle.printed_forms.specs.Words.{HasWords}
use Rattle.spelled_items.specs.Writable.{all_true, is_term, is_variable, is_word, is_written_sort}
use Rattle.spelled_items.proofs.TypeLines.{quotable_word}
use Rattle.spelled_items.proofs.WritableFacts.{as_mapped, is_term-Var, is_term-App}

-- ---- numbered variables

digit_in_word : (m : ℕ) → m < 10 → is_alpha_numeric (48 + m) ≡ true
digit_in_word m lt = grind (arith, nat_tests)

decimal_in_word : (n : ℕ) → n < 2 ^ 64 → list_all is_alpha_numeric (decimal n) ≡ true
decimal_in_word n few =
    decimal_by_steps (λ (m : ℕ) (ds : List ℕ). list_all is_alpha_numeric ds ≡ true) (λ m h. and_from (is_alpha_numeric (48 + m)) true (digit_in_word m h) refl)
    (λ m ds h e.
    let last : is_alpha_numeric (48 + m % 10) ≡ true = digit_in_word (m % 10) (omega arith) in
    list_all-append is_alpha_numeric ds ((48 + m % 10) ∷ []) ∙ and_from (list_all is_alpha_numeric ds) (is_alpha_numeric (48 + m % 10) && true) e (and_from (is_alpha_numeric (48 + m % 10)) true last refl))
    n few

pub numbered_variable : (k : ℕ) → k < 2 ^ 64 → is_variable (variable_name k) ≡ true
numbered_variable k few = decimal_in_word k few

-- the names of the variables in scope can be written
abbrev pub AreVariables : List Variable → Type 0
AreVariables scope = AllByRecursion (λ (x : Variable). is_variable x.name ≡ true) scope

pub variables_both : (xs ys : List Variable) → AreVariables xs → AreVariables ys → AreVariables (xs ++ ys)
variables_both [] ys first second = second
variables_both (x ∷ xs) ys first second = (first.0, variables_both xs ys first.1 second)

nearest_variable : (scope : List Variable) (name : Text) (p : ℕ × ℕ) → AreVariables scope → nearest scope name ≡ Some p → is_variable name ≡ true
nearest_variable [] name p all e = absurd (cc)
nearest_variable (x ∷ inner) name p all e = by (λ q is. nearest_variable inner name q all.1 is) (nearest inner name) refl e
  where
    here : (b : Bool) → bytes_eq x.name name ≡ b → cond b (Some (length inner, x.sort)) None ≡ Some p → is_variable name ≡ true
    here true same k = subst (λ (n : Text). is_variable n ≡ true) ((bytes_decides x.name name).0 same) all.0
    here false same k = absurd (cc)

    by : ((r : ℕ × ℕ) → nearest inner name ≡ Some r → is_variable name ≡ true) → (o : Option (ℕ × ℕ)) → nearest inner name ≡ o → or_else o (cond (bytes_eq x.name name) (Some (length inner, x.sort)) None) ≡ Some p → is_variable name ≡ true
    by within (Some r) is k = within r is
    by within None is k = here (bytes_eq x.name name) refl k

-- ---- words

quotable_symbol : (symbols : List Symbol) (k : ℕ) (other : Symbol) → k < length symbols → AllByRecursion (λ (s : Symbol). IsQuotable s.name) symbols → IsQuotable (get_or symbols k other).name
quotable_symbol [] k other lt all = absurd (omega arith)
quotable_symbol (s ∷ symbols) zero other lt all = all.0
quotable_symbol (s ∷ symbols) (suc k) other lt all = quotable_symbol symbols k other (omega arith) all.1

quotable_sort : (sorts : List Text) (k : ℕ) (other : Text) → k < length sorts → AreQuotable sorts → IsQuotable (get_or sorts k other)
quotable_sort [] k other lt all = absurd (omega arith)
quotable_sort (s ∷ sorts) zero other lt all = all.0
quotable_sort (s ∷ sorts) (suc k) other lt all = quotable_sort sorts k other (omega arith) all.1

later_sorts : (sorts : List Text) → AreQuotable sorts → AreQuotable (drop 1 sorts)
later_sorts [] all = tt
later_sorts (s ∷ sorts) all = all.1

named_alike : (a b : Text) (rest : Bool) → (pointwise nat_eq a b && rest) ≡ true → a ≡ b
named_alike a b rest e = by (pointwise nat_eq a b) refl e
  where
    by : (x : Bool) → pointwise nat_eq a b ≡ x → (x && rest) ≡ true → a ≡ b
    by true is k = (bytes_decides a b).0 is
    by false is k = absurd (cc)

found_word : (v : Vocabulary) (name : Text) (kind : Kind) (arity n : ℕ) (other : Symbol) → HasWords v → found_symbol v name kind arity ≡ Some n → is_word name ≡ true
found_word v name kind arity n other has e =
    let found = position-Some (is_symbol name kind arity) v.symbols n other e in
    let s = get_or v.symbols n other in
    let same : s.name ≡ name = named_alike s.name name (is_kind s.kind kind && (length s.args == arity)) found.1 in
    subst (λ (t : Text). is_word t ≡ true) same (quotable_word s.name (quotable_symbol v.symbols n other found.0 has.symbols))

-- the front of a list and its last element
front_and_last : (symbols : List Symbol) (s : Symbol) → AllByRecursion (λ (t : Symbol). IsQuotable t.name) (symbols ++ s ∷ []) → AllByRecursion (λ (t : Symbol). IsQuotable t.name) symbols × IsQuotable s.name
front_and_last [] s all = (tt, all.0)
front_and_last (t ∷ symbols) s all = (let rest = front_and_last symbols s all.1 in ((all.0, rest.0), rest.1))

-- this holds where there are words behind
abbrev pub Behind : Vocabulary → Vocabulary → Bool → Type 0
Behind v w is = HasWords w → HasWords v × (is ≡ true)

added_word : (s : Symbol) (v w : Vocabulary) (n : ℕ) → with_symbol s v ≡ Ok (n, w) → Behind v w (is_word s.name)
added_word s v w n e = by (length v.symbols == 16777216) e
  where
    more : Vocabulary
    more = record v { symbols = v.symbols ++ s ∷ [] }

    split : Behind v more (is_word s.name)
    split has = (let parts = front_and_last v.symbols s has.symbols in (record { symbols = parts.0; sorts = has.sorts }, quotable_word s.name parts.1))

    by : (b : Bool) → ◌≡◌ {A = Outcome SortRule Vocabulary ℕ} (cond b (Err (Limit Symbols)) (Ok (length v.symbols, more))) (Ok (n, w)) → Behind v w (is_word s.name)
    by true k = absurd (cc)
    by false k = at_ok {E = SortRule} (λ (m : ℕ) u. Behind v u (is_word s.name)) (length v.symbols) n more w k split

pub head_word : (declared : List Text) (name : Text) (kind : Kind) (arity : ℕ) (added : Symbol) (v w : Vocabulary) (number : ℕ) → added.name ≡ name → head declared name kind arity added v ≡ Ok (number, w) → Behind v w (is_word name)
unfolding head
head_word declared name kind arity added v w number named e = by (found_symbol v name kind arity) refl e
  where
    new : (b : Bool) → ◌≡◌ {A = Outcome SortRule Vocabulary ℕ} (cond b (Err Arity) (with_symbol added v)) (Ok (number, w)) → Behind v w (is_word name)
    new true k = absurd (cc)
    new false k = subst (λ (t : Text). Behind v w (is_word t)) named (added_word added v w number k)

    by : (o : Option ℕ) → found_symbol v name kind arity ≡ o → head_at declared name added o v ≡ Ok (number, w) → Behind v w (is_word name)
    by (Some n) is k = at_ok {E = SortRule} (λ (m : ℕ) u. Behind v u (is_word name)) n number v w k (λ has. (has, found_word v name kind arity n added has is))
    by None is k = new (is_among name declared) k

-- ---- sorts of variables

sort_word : (v : Vocabulary) (word : Text) (n : ℕ) → HasWords v → found_sort v word ≡ Some n → is_word word ≡ true
sort_word v word n has e = by (position (λ (s : Text). pointwise nat_eq s word) (drop 1 v.sorts)) refl e
  where
    by : (o : Option ℕ) → position (λ (s : Text). pointwise nat_eq s word) (drop 1 v.sorts) ≡ o → option_map (λ (i : ℕ). i + 1) o ≡ Some n → is_word word ≡ true
    by None is k = absurd (cc)
    by (Some i) is k =
        let found = position-Some (λ (s : Text). pointwise nat_eq s word) (drop 1 v.sorts) i word is in
        let same : get_or (drop 1 v.sorts) i word ≡ word = (bytes_decides (get_or (drop 1 v.sorts) i word) word).0 found.1 in
        subst (λ (t : Text). is_word t ≡ true) same (quotable_word (get_or (drop 1 v.sorts) i word) (quotable_sort (drop 1 v.sorts) i word found.0 (later_sorts v.sorts has.sorts)))

pub sort_written : (s : Option SortName) (v w : Vocabulary) (n : ℕ) → HasWords v → variable_sort s v ≡ Ok (n, w) → is_written_sort s ≡ true
sort_written None v w n has e = refl
sort_written (Some sort.Individual) v w n has e = refl
sort_written (Some sort.Truth) v w n has e = absurd (cc)
sort_written (Some (sort.Word word)) v w n has e = by (found_sort v word) refl e
  where
    by : (o : Option ℕ) → found_sort v word ≡ o → known o v ≡ Ok (n, w) → is_word word ≡ true
    by None is k = absurd (cc)
    by (Some m) is k = sort_word v word m has is

-- ---- terms

abbrev TermWritten : STerm → Type 0
TermWritten t = (here : Setting) (scope : List Variable) (asked : Option ℕ) (v w : Vocabulary) (x : Sorted) → AreVariables scope → denoted_term here scope t asked v ≡ Ok (x, w) → Behind v w (is_term t)

module _ (here : Setting) (scope : List Variable) (vars : AreVariables scope) where
  one_argument : (number place : ℕ) (t : STerm) (v w : Vocabulary) (y : Term) → TermWritten t → argument number place (denoted_term here scope t) v ≡ Ok (y, w) → Behind v w (is_term t)
  one_argument number place t v w y written e =
      let asked = argument_sort v number place in
      let parts = then_ok (denoted_term here scope t asked v) (fitting number place) y w e in
      by parts.0 parts.1 (written here scope asked v parts.1 parts.0 vars parts.2) (is_sort (argument_sort parts.1 number place) parts.0.sort) parts.3
    where
      by : (x : Sorted) (u : Vocabulary) → Behind v u (is_term t) → (b : Bool) → ◌≡◌ {A = Outcome SortRule Vocabulary Term} (cond b (Ok (x.term, u)) (Err WrongSort)) (Ok (y, w)) → Behind v w (is_term t)
      by x u own false k = absurd (cc)
      by x u own true k = at_ok {E = SortRule} (λ (z : Term) o. Behind v o (is_term t)) x.term y u w k own

  arguments_written : (number : ℕ) (ts : List STerm) (place : ℕ) (v w : Vocabulary) (xs : List Term) → AllByRecursion TermWritten ts → each (λ p t. argument number p (denoted_term here scope t)) place ts v ≡ Ok (xs, w) → Behind v w (list_all is_term ts)
  arguments_written number [] place v w xs all e = at_ok {E = SortRule} (λ (ys : List Term) u. Behind v u (list_all is_term [])) [] xs v w e (λ has. (has, refl))
  arguments_written number (t ∷ ts) place v w xs all e =
      let parts = then_ok (argument number place (denoted_term here scope t) v) (λ y u. mapped (λ ys. y ∷ ys) (each (λ p s. argument number p (denoted_term here scope s)) (place + 1) ts u)) xs w e in
      let more = mapped_ok (λ (ys : List Term). parts.0 ∷ ys) (each (λ p s. argument number p (denoted_term here scope s)) (place + 1) ts parts.1) xs w parts.3 in
      let one = one_argument number place t v parts.1 parts.0 all.0 parts.2 in
      let rest = arguments_written number ts (place + 1) parts.1 w more.0 all.1 more.1 in
      λ has. let later = rest has in let first = one later.0 in (first.0, and_from (is_term t) (list_all is_term ts) first.1 later.1)

pub term_written : (t : STerm) → TermWritten t
term_written = term_induction TermWritten (record { var = of_variable; app = of_application })
  where
    of_variable : (name : Text) → TermWritten (tm.Var name)
    of_variable name here scope asked v w x vars e = by (nearest scope name) refl (rw denoted_term-Var at e)
      where
        by : (o : Option (ℕ × ℕ)) → nearest scope name ≡ o → variable_at here.outside o v ≡ Ok (x, w) → Behind v w (is_term (tm.Var name))
        by None is k = absurd (cc)
        by (Some p) is k = at_ok {E = SortRule} (λ (y : Sorted) u. Behind v u (is_term (tm.Var name))) (record { term = Var p.0; sort = p.1 }) x v w k (λ has. (has, is_term-Var name ∙ nearest_variable scope name p vars is))

    of_application : (f : Text) (ts : List STerm) → AllByRecursion TermWritten ts → TermWritten (tm.App f ts)
    of_application f ts all here scope asked v w x vars e =
        let parts = then_ok (head here.declared f Function (length ts) (new_function here scope v f ts asked) v) (λ g u. mapped (made g (result_sort u g)) (each (λ place t. argument g place (denoted_term here scope t)) 0 ts u)) x w (rw denoted_term-App at e) in
        let made_of = mapped_ok (made parts.0 (result_sort parts.1 parts.0)) (each (λ place t. argument parts.0 place (denoted_term here scope t)) 0 ts parts.1) x w parts.3 in
        let word = head_word here.declared f Function (length ts) (new_function here scope v f ts asked) v parts.1 parts.0 refl parts.2 in
        let args = arguments_written here scope vars parts.0 ts 0 parts.1 w made_of.0 all made_of.1 in
        λ has. let later = args has in let first = word later.0 in (first.0, is_term-App f ts ∙ and_from (is_word f) (all_true (map is_term ts)) first.1 (as_mapped is_term ts later.1))

pub arguments_of : (here : Setting) (scope : List Variable) → AreVariables scope → (number : ℕ) (ts : List STerm) (place : ℕ) (v w : Vocabulary) (xs : List Term) → each (λ p t. argument number p (denoted_term here scope t)) place ts v ≡ Ok (xs, w)
    → Behind v w (list_all is_term ts)
arguments_of here scope vars number ts place v w xs e = arguments_written here scope vars number ts place v w xs (all ts) e
  where
    all : (us : List STerm) → AllByRecursion TermWritten us
    all [] = tt
    all (u ∷ us) = (term_written u, all us)
