-- The entries by which functions come in are legal in turn.
use Rattle.std.specs.Prelude.{ℕ, ◌≡◌, ◌+◌, ◌-◌, ◌<◌, ◌≤◌, ◌||◌, ◌&&◌, ◌==◌, Bool, true, false, nat_eq, List, [], ◌∷◌, ◌++◌, length, map, reverse, slice_get, Option, Some, None, refl}
use Rattle.std.specs.List.{AllByRecursion as Each, All as Every, IsDistinct}
use Rattle.std.proofs.Common.{ap, sym, subst, ◌∙◌, arith, append_assoc, ◌⊎◌, inl, inr, zero, suc}
use Rattle.std.proofs.lemmas.List.{append-nil, length-reverse, reverse-append}
use Rattle.std.proofs.lemmas.Map.Keys.{IsDistinct-head, IsDistinct-tail}
use Rattle.fof_terms.specs.declared.term.Term.{Term, Var, App}
use Rattle.fof_terms.specs.declared.form.Form.{Form, Imp, Ex, All}
use Rattle.fof_terms.specs.declared.signature.Symbol.{Symbol}
use Rattle.fof_terms.specs.declared.signature.Kind.{Kind}
use Rattle.fof_terms.specs.declared.signature.Kind.TheVariants.{Function, Predicate}
use Rattle.fof_terms.specs.Vocabulary.{Vocabulary}
use Rattle.fof_terms.specs.Instance.{instance_of, instance_at}
use Rattle.fof_terms.specs.Occurs.{occurs_in, occurs_in_term}
use Rattle.fof_terms.proofs.OccursFacts.{occurs_in-Imp, occurs_in-Ex, occurs_in-All, occurs_in_term-App, occurs_in_term-Var}
use Rattle.fof_terms.specs.Variables.{has_variable}
use Rattle.fof_terms.specs.Sorts.{Sorted, SortedTo, IsScope, is_sort, are_sorts, made_by, applied, sort_of_term, is_sorted, binder_depth}
use Rattle.fof_terms.proofs.SortsFacts.{sort_of_term-App, sort_of_term-Var}
use Rattle.fof_terms.proofs.Scoped.{raised, imp_sorted, ex_sorted, all_sorted}
use Rattle.fof_terms.proofs.LiftingLaws.{both, below_or_above}
use Rattle.std.proofs.lemmas.Bool.{lt-ltb, le-ltb}
use Rattle.fof_terms.proofs.Moved.{body_instance_sorted}
use Rattle.fof_terms.proofs.Walks.{same_depth}
use Rattle.kernel.specs.Statements.{Statements}
use Rattle.kernel.specs.Entries.{for_all, variables, choice, IsFresh, MayChoose, Admits, with_formula}
use Rattle.kernel.specs.declared.entry.Entry.{Entry}
use Rattle.kernel.specs.declared.entry.Entry.TheVariants.{Declare, Lemma, Name, Choice}
use Rattle.skolem_fresh.specs.declared.just.Use.{Use}
use Rattle.fof_terms.specs.Standing.{is_listed}
use Rattle.skolem_fresh.specs.code.Only.{only_has}
use Rattle.skolem_fresh.specs.Renamed.{place_of, renamed, renamed_term}
use Rattle.skolem_fresh.proofs.RenamedFacts.{renamed_term-Var}
use Rattle.skolem_fresh.specs.Uses.{value, value_of, functions_of, Fits}
use Rattle.skolem_fresh.specs.Choosing.{IsWithin}
use Rattle.skolem_fresh.proofs.Opened.{body_room, body_sorted}
use Rattle.skolem_fresh.proofs.Openable.{use_symbol}
use Rattle.skolem_fresh.proofs.Occurring.{walk_occurs, walk_term_occurs, instance_occurs}
use Rattle.skolem_fresh.proofs.Argued.{renaming, renaming_term, sorts_at, args_length, place_sort, own_sorts, renamed_sorted, sort_is, turn_more}

-- sorts that are there
all_turned : (P : ℕ → Type 0) (xs ys : List ℕ) → Each P xs → Each P ys → Each P (reverse xs ++ ys)
all_turned P [] ys h g = g
all_turned P (x ∷ xs) ys h g = subst (Each P) (sym (turn_more x xs ys)) (all_turned P xs (x ∷ ys) h.1 (h.0, g))

found_one : (P : ℕ → Type 0) (scope : List ℕ) (k s : ℕ) → Each P scope → slice_get scope k ≡ Some s → P s
found_one P [] k s h e = cc
found_one P (x ∷ scope) zero s h e = let same : x ≡ s = cc in rw (sym same) h.0
found_one P (x ∷ scope) (suc k) s h e = found_one P scope k s h.1 e

args_there : (v : Vocabulary) (P : ℕ → Type 0) (scope xs args : List ℕ) → Each P scope → are_sorts (sorts_at v scope xs) args ≡ true → Each P args
args_there v P scope [] [] h e = tt
args_there v P scope [] (s ∷ args) h e = cc
args_there v P scope (x ∷ xs) [] h e = cc
args_there v P scope (x ∷ xs) (s ∷ args) h e =
    let parts = both (is_sort (sort_of_term v scope (Var x)) s) (are_sorts (sorts_at v scope xs) args) e in
    let at : slice_get scope x ≡ Some s = sym (sort_of_term-Var v scope x) ∙ sort_is (sort_of_term v scope (Var x)) s parts.0 in
    (found_one P scope x s h at, args_there v P scope xs args h parts.1)

-- a formula for all of some sorts
for_all_sorted : (v : Vocabulary) (n : ℕ) (sorts scope : List ℕ) (a : Form) → SortedTo n v (reverse sorts ++ scope) a → SortedTo (n + length sorts) v scope (for_all sorts a)
for_all_sorted v n [] scope a s = let same : n + 0 ≡ n = omega arith in subst (λ m. SortedTo m v scope a) (sym same) s
for_all_sorted v n (r ∷ sorts) scope a s =
    let inner : SortedTo (n + length sorts) v (r ∷ scope) (for_all sorts a) = for_all_sorted v n sorts (r ∷ scope) a (subst (λ sc. SortedTo n v sc a) (turn_more r sorts scope) s) in
    let same : n + length sorts + 1 ≡ n + suc (length sorts) = omega arith in
    subst (λ m. SortedTo m v scope (All r (for_all sorts a))) same (all_sorted v scope (n + length sorts) r (for_all sorts a) inner)

pub for_all_occurs : (k : ℕ) (sorts : List ℕ) (a : Form) → occurs_in k (for_all sorts a) ≡ occurs_in k a
for_all_occurs k [] a = refl
for_all_occurs k (s ∷ sorts) a = occurs_in-All k s (for_all sorts a) ∙ for_all_occurs k sorts a

var_occurs : (k : ℕ) (xs : List ℕ) (d j : ℕ) → occurs_in_term k (renamed_term xs d (Var j)) ≡ false
var_occurs k xs d j =
    elim (below_or_above j d) [
      | inl near ↦ rw (renamed_term-Var, lt-ltb j d near) (occurs_in_term-Var k j)
      | inr far ↦ rw (renamed_term-Var, le-ltb j d far) (occurs_in_term-Var k (place_of xs (j - d) + d))
    ]

made_of : (kind : Kind) (r : ℕ) → kind ≡ Function → made_by kind true r ≡ Some r
made_of kind r e = rw e refl

pub renamed_occurs : (k : ℕ) (xs : List ℕ) (a : Form) (d : ℕ) → occurs_in k (renamed xs d a) ≡ occurs_in k a
renamed_occurs k xs = walk_occurs k (renamed_term xs) (renamed xs) (renaming xs) (λ d. walk_term_occurs k (renamed_term xs d) (renaming_term xs d) (var_occurs k xs d))

-- the function may choose for what stands under the quantifier
module _ (w : Statements) (scope : List ℕ) (s : ℕ) (body : Form) (u : Use) (within : IsWithin w.vocabulary scope (Ex s body)) (fits : Fits w.vocabulary scope u) (sort : u.sort ≡ s) (few : length u.variables ≤ 1000000000)
    (only : only_has u.variables 1 body ≡ true) where
  pub symbol : Symbol
  symbol = (use_symbol w.vocabulary scope u fits).0

  pub at_symbol : slice_get w.vocabulary.symbols u.function ≡ Some symbol
  unfolding symbol
  at_symbol = (use_symbol w.vocabulary scope u fits).1

  is_function : symbol.kind ≡ Function
  unfolding symbol
  is_function = (use_symbol w.vocabulary scope u fits).2

  its_args : are_sorts (sorts_at w.vocabulary scope u.variables) symbol.args ≡ true
  unfolding symbol
  its_args = (use_symbol w.vocabulary scope u fits).3

  its_result : symbol.result ≡ s
  unfolding symbol
  its_result = (use_symbol w.vocabulary scope u fits).4 ∙ sort

  few_args : length symbol.args ≤ 1000000000
  few_args = let same = args_length w.vocabulary scope u.variables symbol.args its_args in omega arith

  turned_args : reverse symbol.args ++ [] ≡ reverse symbol.args
  turned_args = append-nil (reverse symbol.args)

  args_scope : IsScope w.vocabulary (reverse symbol.args)
  args_scope = record {
    few_variables = let few' = few_args in omega (arith, length-reverse symbol.args);
    sorts_exist =
        let there = args_there w.vocabulary (λ r. r < length w.vocabulary.sorts) scope u.variables symbol.args within.sorted.scope_fits.sorts_exist its_args in
        subst (Each (λ r. r < length w.vocabulary.sorts)) turned_args (all_turned (λ r. r < length w.vocabulary.sorts) symbol.args [] there tt);
  }

  told_depth : binder_depth (renamed u.variables 1 body) ≡ binder_depth body
  told_depth = same_depth (renamed_term u.variables) (renamed u.variables) (renaming u.variables) body 1

  places : (k : ℕ) → is_listed u.variables k ≡ true → slice_get (reverse symbol.args) (place_of u.variables k) ≡ slice_get scope k
  places k h = subst (λ (sc : List ℕ). slice_get sc (place_of u.variables k) ≡ slice_get scope k) turned_args (place_sort w.vocabulary scope u.variables symbol.args [] k its_args h)

  told_sorted : SortedTo 1000000000 w.vocabulary (symbol.result ∷ reverse symbol.args) (renamed u.variables 1 body)
  told_sorted =
      let r = body_sorted w.vocabulary scope s body within in
      let room = body_room w.vocabulary scope s body within in
      let old : is_sorted w.vocabulary (symbol.result ∷ scope) body ≡ true = rw its_result r.fits in
      let exists : s < length w.vocabulary.sorts = r.scope_fits.sorts_exist.0 in
      record {
        scope_fits = record {
          few_variables = let few' = few_args in omega (arith, length-reverse symbol.args);
          sorts_exist = (rw its_result exists, args_scope.sorts_exist);
        };
        few_binders = omega (arith, told_depth);
        fits = renamed_sorted w.vocabulary u.variables scope (reverse symbol.args) places body (symbol.result ∷ []) only ∙ old;
      }

  own_value : sort_of_term w.vocabulary (reverse symbol.args) (App u.function (variables (length symbol.args))) ≡ Some symbol.result
  own_value =
      let own : are_sorts (map (sort_of_term w.vocabulary (reverse symbol.args)) (variables (length symbol.args))) symbol.args ≡ true =
      subst (λ (sc : List ℕ). are_sorts (map (sort_of_term w.vocabulary sc) (variables (length symbol.args))) symbol.args ≡ true) turned_args (own_sorts w.vocabulary symbol.args []) in
      rw (sort_of_term-App, at_symbol, own) (made_of symbol.kind symbol.result is_function)

  pub choice_sorted : Sorted w.vocabulary [] (choice u.function symbol (renamed u.variables 1 body))
  choice_sorted =
      let told = told_sorted in
      let room = body_room w.vocabulary scope s body within in
      let few' = few_args in
      let b = renamed u.variables 1 body in
      let x = App u.function (variables (length symbol.args)) in
      let value_in = body_instance_sorted w.vocabulary (reverse symbol.args) 1000000000 symbol.result (renamed u.variables 1 body) (App u.function (variables (length symbol.args))) own_value args_scope told.few_binders told.fits in
      let some = ex_sorted w.vocabulary (reverse symbol.args) 1000000000 symbol.result (renamed u.variables 1 body) told in
      let whole : SortedTo 1000000001 w.vocabulary (reverse symbol.args) (Imp (Ex symbol.result b) (instance_of b x)) =
      imp_sorted w.vocabulary (reverse symbol.args) 1000000001 (Ex symbol.result b) (instance_of b x) some (raised w.vocabulary (reverse symbol.args) 1000000000 1000000001 (instance_of b x) (omega arith) value_in) in
      let turned : SortedTo 1000000001 w.vocabulary (reverse symbol.args ++ []) (Imp (Ex symbol.result b) (instance_of b x)) = subst (λ sc. SortedTo 1000000001 w.vocabulary sc (Imp (Ex symbol.result b) (instance_of b x))) (sym turned_args) whole in
      let all : SortedTo (1000000001 + length symbol.args) w.vocabulary [] (choice u.function symbol b) = for_all_sorted w.vocabulary 1000000001 symbol.args [] (Imp (Ex symbol.result b) (instance_of b x)) turned in
      raised w.vocabulary [] (1000000001 + length symbol.args) 2147483647 (choice u.function symbol b) (omega arith) all

  pub may_choose : IsFresh u.function w → occurs_in u.function body ≡ false → MayChoose w u.function symbol (renamed u.variables 1 body)
  may_choose fresh absent = record {
    found = at_symbol;
    kind = is_function;
    sorted = raised w.vocabulary (symbol.result ∷ reverse symbol.args) 1000000000 2147483647 (renamed u.variables 1 body) (omega arith) told_sorted;
    fresh = fresh;
    absent = renamed_occurs u.function u.variables body 1 ∙ absent;
    added = choice_sorted;
  }
