-- A new function at variables, and the entry that brings it in.
use Rattle.std.proofs.Common.{ℕ, ◌≡◌, ◌≤◌, ◌+◌, ◌-◌, ◌<◌, ◌||◌, ◌==◌, Bool, true, false, List, [], ◌∷◌, ◌++◌, map, length, reverse, nat_lt, arith, refl, sym, ap, subst, ◌∙◌, slice_get, Some, None}
use Rattle.std.specs.List.{list_all, list_any, AllByRecursion}
use Rattle.std.proofs.lemmas.Bool.{le-ltb}
use Rattle.std.proofs.lemmas.List.Folds.{list_all-map}
use Rattle.std.proofs.lemmas.List.{length-reverse, append-nil}
use Rattle.fof_terms.specs.Vocabulary.{Vocabulary}
use Rattle.fof_terms.proofs.LiftingLaws.{moves, here, greater}
use Rattle.fof_terms.specs.Lift.{lifted_term}
use Rattle.fof_terms.proofs.LiftFacts.{lifted_term-App}
use Rattle.fof_terms.specs.Instance.{instance_term, instance_at, instance_of}
use Rattle.fof_terms.proofs.InstanceFacts.{instance_at-Eq}
use Rattle.fof_terms.specs.Occurs.{occurs_in, occurs_in_term}
use Rattle.fof_terms.proofs.OccursFacts.{list_any-map, occurs_in-Eq, occurs_in-Imp, occurs_in-Ex, occurs_in_term-Var, occurs_in_term-App}
use Rattle.fof_terms.specs.declared.signature.Symbol.{Symbol}
use Rattle.fof_terms.specs.declared.signature.Kind.{Kind}
use Rattle.fof_terms.specs.declared.signature.Kind.TheVariants.{Function, Predicate}
use Rattle.fof_terms.specs.declared.term.Term.{Term, Var, App}
use Rattle.fof_terms.specs.declared.form.Form.{Form, Eq, Imp, Ex}
use Rattle.fof_terms.proofs.Induction.{term_induction}
use Rattle.fof_terms.specs.Sorts.{IsScope, SortedTo, Sorted, are_sorts, applied, made_by, sort_of_term, is_sorted}
use Rattle.fof_terms.proofs.SortsFacts.{sort_of_term-Var, sort_of_term-App, binder_depth-Eq}
use Rattle.fof_terms.proofs.Scoped.{raised, imp_sorted, ex_sorted, eq_sorted, sorted_of_eq}
use Rattle.fof_terms.proofs.Walks.{same_terms, both_terms, lifting_term, placing_term, staying_term, lifted_sort}
use Rattle.kernel.specs.Statements.{Statements}
use Rattle.kernel.specs.Proves.{Proves}
use Rattle.kernel.proofs.Building.{by_imp_e, by_ex_i, by_refl, by_subst}
use Rattle.kernel.specs.Entries.{IsFresh, MayChoose, choice, for_all, variables}
use Rattle.kernel.specs.declared.proof.Proof.{Proof, ExI, Refl, Subst}
use Rattle.split_defs.specs.DefinitionRule.{IsValue, Equates}
use Rattle.split_defs.specs.code.Renaming.{argument, renamed, renamed_term, speaks, speaks_in_term}
use Rattle.split_defs.proofs.RenamingFacts.{renamed_term-Var, renamed_term-App, renamed-Eq, renamed-Imp, renamed-Ex, speaks_in_term-Var, speaks_in_term-App, speaks-Eq, speaks-Imp, speaks-Ex}
use Rattle.split_defs.specs.code.Trees.{is_value, value_tree, valued_tree}
use Rattle.split_defs.proofs.Filling.{renaming_term, arguments_are}
use Rattle.split_defs.proofs.RenamedSorts.{renamed_sorted, term_occurs}
use Rattle.split_defs.proofs.Spoken.{speaks_of_term, and_true}
use Rattle.split_defs.proofs.UnderAll.{HaveSorts, as_many, closed_over}
use Rattle.split_defs.proofs.Naming.{have_sorts, few_arguments, argument_sort, arguments_scope, renamed_fits, head_speaks}

-- Lifts by nothing and by one.
same_place : (k : ℕ) → k + 0 ≡ k
same_place k = omega arith

pub lifted_nothing : (t : Term) → lifted_term 0 0 t ≡ t
lifted_nothing = same_terms (lifted_term 0 0) (λ t. t) (lifting_term 0 0) staying_term (λ k. moves 0 0 k (omega arith) ∙ ap Var (same_place k))

off_one : (x : Term) (k : ℕ) → instance_term x 0 (lifted_term 1 0 (Var k)) ≡ Var k
off_one x k = let back : k + 1 - 1 ≡ k = omega arith in ap (instance_term x 0) (moves 1 0 k (omega arith)) ∙ greater x 0 (k + 1) (omega arith) ∙ ap Var back

-- a term that was lifted has nothing for the nearest variable
pub lifted_off : (x u : Term) → instance_term x 0 (lifted_term 1 0 u) ≡ u
lifted_off x = same_terms (λ u. instance_term x 0 (lifted_term 1 0 u)) (λ u. u) (both_terms (instance_term x 0) (lifted_term 1 0) (placing_term x 0) (lifting_term 1 0)) staying_term (off_one x)

pub filled_value : (x u : Term) → instance_at x 0 (is_value u) ≡ Eq x u
filled_value x u =
    let both : Eq (instance_term x 0 (Var 0)) (instance_term x 0 (lifted_term 1 0 u)) ≡ Eq x u = rw (here x 0 0 refl, lifted_nothing x, lifted_off x u) refl in
    instance_at-Eq x 0 (Var 0) (lifted_term 1 0 u) ∙ both

moved_var : (xs : List ℕ) (k : ℕ) → renamed_term xs 1 (lifted_term 1 0 (Var k)) ≡ lifted_term 1 0 (renamed_term xs 0 (Var k))
moved_var xs k =
    let above : nat_lt (k + 1) 1 ≡ false = le-ltb (k + 1) 1 (omega arith) in
    let low : nat_lt k 0 ≡ false = le-ltb k 0 (omega arith) in
    let back : k + 1 - 1 ≡ k = omega arith in
    let none : k - 0 ≡ k = omega arith in
    let left : renamed_term xs 1 (Var (k + 1)) ≡ Var (argument xs (k + 1 - 1) + 1) = rw (renamed_term-Var, above) refl in
    let right : renamed_term xs 0 (Var k) ≡ Var (argument xs (k - 0) + 0) = rw (renamed_term-Var, low) refl in
    ap (renamed_term xs 1) (moves 1 0 k (omega arith)) ∙ left ∙ ap (λ j. Var (argument xs j + 1)) (back ∙ sym none)
    ∙ ap (λ j. Var (j + 1)) (sym (same_place (argument xs (k - 0)))) ∙ sym (moves 1 0 (argument xs (k - 0) + 0) (omega arith)) ∙ ap (lifted_term 1 0) (sym right)

renamed_lifted : (xs : List ℕ) (u : Term) → renamed_term xs 1 (lifted_term 1 0 u) ≡ lifted_term 1 0 (renamed_term xs 0 u)
renamed_lifted xs = same_terms (λ u. renamed_term xs 1 (lifted_term 1 0 u)) (λ u. lifted_term 1 0 (renamed_term xs 0 u)) (both_terms (renamed_term xs 1) (lifted_term 1 0) (renaming_term xs 1) (lifting_term 1 0)) (both_terms (lifted_term 1 0) (renamed_term xs 0) (lifting_term 1 0) (renaming_term xs 0)) (moved_var xs)

pub renamed_value : (xs : List ℕ) (u : Term) → renamed xs 1 (is_value u) ≡ is_value (renamed_term xs 0 u)
renamed_value xs u =
    let first : renamed_term xs 1 (Var 0) ≡ Var 0 = renamed_term-Var xs 1 0 in
    renamed-Eq xs 1 (Var 0) (lifted_term 1 0 u) ∙ ap (λ (x : Term). Eq x (renamed_term xs 1 (lifted_term 1 0 u))) first ∙ ap (Eq (Var 0)) (renamed_lifted xs u)

-- what was lifted has the same symbols, and speaks of the same variables
lifted_var_occurs : (k j : ℕ) → occurs_in_term k (lifted_term 1 0 (Var j)) ≡ occurs_in_term k (Var j)
lifted_var_occurs k j = ap (occurs_in_term k) (moves 1 0 j (omega arith)) ∙ occurs_in_term-Var k (j + 1) ∙ sym (occurs_in_term-Var k j)

made_function : (k : Kind) (fits : Bool) (result : ℕ) (r : ℕ) → made_by k fits result ≡ Some r → (fits ≡ true) × (result ≡ r)
made_function Function true result r e = (refl, cc)
made_function Function false result r e = absurd (let no : None ≡ Some r = e in cc)
made_function Predicate fits result r e = absurd (let no : None ≡ Some r = e in cc)

-- What is lifted.
each_occurs : (k : ℕ) (ts : List Term) → AllByRecursion (λ t. occurs_in_term k (lifted_term 1 0 t) ≡ occurs_in_term k t) ts → list_any (λ t. occurs_in_term k (lifted_term 1 0 t)) ts ≡ list_any (occurs_in_term k) ts
each_occurs k [] e = refl
each_occurs k (t ∷ ts) e = rw (e.0, each_occurs k ts e.1) refl

lifted_occurs : (k : ℕ) (t : Term) → occurs_in_term k (lifted_term 1 0 t) ≡ occurs_in_term k t
lifted_occurs k = term_induction (λ t. occurs_in_term k (lifted_term 1 0 t) ≡ occurs_in_term k t) (record {
  var = lifted_var_occurs k;
  app = λ f ts all. rw (lifted_term-App, occurs_in_term-App, occurs_in_term-App, list_any-map) (ap (λ b. (f == k) || b) (each_occurs k ts all));
})

lifted_var_speaks : (xs : List ℕ) (k : ℕ) → speaks_in_term xs 1 (lifted_term 1 0 (Var k)) ≡ speaks_in_term xs 0 (Var k)
lifted_var_speaks xs k =
    let above : nat_lt (k + 1) 1 ≡ false = le-ltb (k + 1) 1 (omega arith) in
    let low : nat_lt k 0 ≡ false = le-ltb k 0 (omega arith) in
    let same : k + 1 - 1 ≡ k - 0 = omega arith in
    ap (speaks_in_term xs 1) (moves 1 0 k (omega arith)) ∙ rw (speaks_in_term-Var, speaks_in_term-Var, above, low, same) refl

each_speaks : (xs : List ℕ) (ts : List Term) → AllByRecursion (λ t. speaks_in_term xs 1 (lifted_term 1 0 t) ≡ speaks_in_term xs 0 t) ts → list_all (λ t. speaks_in_term xs 1 (lifted_term 1 0 t)) ts ≡ list_all (speaks_in_term xs 0) ts
each_speaks xs [] e = refl
each_speaks xs (t ∷ ts) e = rw (e.0, each_speaks xs ts e.1) refl

lifted_speaks : (xs : List ℕ) (t : Term) → speaks_in_term xs 1 (lifted_term 1 0 t) ≡ speaks_in_term xs 0 t
lifted_speaks xs = term_induction (λ t. speaks_in_term xs 1 (lifted_term 1 0 t) ≡ speaks_in_term xs 0 t) (record {
  var = lifted_var_speaks xs;
  app = λ f ts all. rw (lifted_term-App, speaks_in_term-App, speaks_in_term-App, list_all-map) (each_speaks xs ts all);
})

neither : (a b : Bool) → (a || b) ≡ false → (a ≡ false) × (b ≡ false)
neither true b e = absurd (let no : true ≡ false = e in cc)
neither false b e = (refl, e)

-- A new function at variables, and its value: if there is one that is the value, then the function gives it.
abbrev pub chosen : ℕ → Term → Term → Form
chosen result head u = Imp (Ex result (is_value u)) (Eq head u)

pub chosen_absent : (j result : ℕ) (head u : Term) → occurs_in_term j head ≡ false → occurs_in_term j u ≡ false → occurs_in j (chosen result head u) ≡ false
chosen_absent j result head u eh eu = rw (occurs_in-Imp, occurs_in-Ex, occurs_in-Eq, occurs_in-Eq, occurs_in_term-Var, lifted_occurs j u, eh, eu) refl

module _ (v : Vocabulary) (k : ℕ) (symbol : Symbol) (xs scope : List ℕ) (n : ℕ) (u : Term) (found : slice_get v.symbols k ≡ Some symbol) (is : symbol.kind ≡ Function) (m : IsValue k xs u) (exists : symbol.result < length v.sorts)
    (r : SortedTo n v scope (Eq (App k (map Var xs)) u)) (some : 1 ≤ n) (room : n + length scope < 2147483647) where
  sides : (s : ℕ) × (sort_of_term v scope (App k (map Var xs)) ≡ Some s) × (sort_of_term v scope u ≡ Some s)
  sides = sorted_of_eq v scope n (App k (map Var xs)) u r

  made : (are_sorts (map (sort_of_term v scope) (map Var xs)) symbol.args ≡ true) × (symbol.result ≡ sides.0)
  made =
      let e : applied (slice_get v.symbols k) (map (sort_of_term v scope) (map Var xs)) ≡ Some sides.0 = rw sort_of_term-App at sides.1 in
      let e' : applied (Some symbol) (map (sort_of_term v scope) (map Var xs)) ≡ Some sides.0 = rw found at e in
      made_function symbol.kind (are_sorts (map (sort_of_term v scope) (map Var xs)) symbol.args) symbol.result sides.0 e'

  pub function_sorts : HaveSorts scope symbol.args xs
  function_sorts = have_sorts v scope symbol.args xs made.0

  pub value_sort : sort_of_term v scope u ≡ Some symbol.result
  value_sort = sides.2 ∙ ap Some (sym made.1)

  pub head_sort : sort_of_term v scope (App k (map Var xs)) ≡ Some symbol.result
  head_sort = sides.1 ∙ ap Some (sym made.1)

  inner_scope : IsScope v (symbol.result ∷ scope)
  inner_scope = record { few_variables = omega (arith, room); sorts_exist = (exists, r.scope_fits.sorts_exist) }

  pub is_value_sorted : (x : Term) → sort_of_term v scope x ≡ Some symbol.result → SortedTo 0 v (symbol.result ∷ scope) (is_value x)
  is_value_sorted x e =
      let here : sort_of_term v (symbol.result ∷ scope) (Var 0) ≡ Some symbol.result = rw sort_of_term-Var refl in
      let there : sort_of_term v (symbol.result ∷ scope) (lifted_term 1 0 x) ≡ Some symbol.result = lifted_sort v (symbol.result ∷ []) scope [] x ∙ e in
      eq_sorted v (symbol.result ∷ scope) 0 inner_scope (Var 0) (lifted_term 1 0 x) symbol.result here there

  pub chosen_sorted : SortedTo n v scope (chosen symbol.result (App k (map Var xs)) u)
  chosen_sorted =
      let ex : SortedTo 1 v scope (Ex symbol.result (is_value u)) = ex_sorted v scope 0 symbol.result (is_value u) (is_value_sorted u value_sort) in
      imp_sorted v scope n (Ex symbol.result (is_value u)) (Eq (App k (map Var xs)) u) (raised v scope 1 n (Ex symbol.result (is_value u)) some ex) r

  value_speaks : speaks_in_term xs 0 u ≡ true
  value_speaks = speaks_of_term xs u m.among

  hole_speaks : speaks xs 1 (is_value u) ≡ true
  hole_speaks =
      let first : speaks_in_term xs 1 (Var 0) ≡ true = speaks_in_term-Var xs 1 0 in
      rw speaks-Eq (and_true (speaks_in_term xs 1 (Var 0)) (speaks_in_term xs 1 (lifted_term 1 0 u)) first (lifted_speaks xs u ∙ value_speaks))

  chosen_speaks : speaks xs 0 (chosen symbol.result (App k (map Var xs)) u) ≡ true
  chosen_speaks =
      let head : speaks_in_term xs 0 (App k (map Var xs)) ≡ true = rw speaks_in_term-App (head_speaks xs) in
      let whole : speaks xs 0 (Eq (App k (map Var xs)) u) ≡ true = rw speaks-Eq (and_true (speaks_in_term xs 0 (App k (map Var xs))) (speaks_in_term xs 0 u) head value_speaks) in
      let hole : speaks xs 0 (Ex symbol.result (is_value u)) ≡ true = speaks-Ex xs 0 symbol.result (is_value u) ∙ hole_speaks in
      rw speaks-Imp (and_true (speaks xs 0 (Ex symbol.result (is_value u))) (speaks xs 0 (Eq (App k (map Var xs)) u)) hole whole)

  -- what the entry adds
  pub choosing_is : choice k symbol (is_value (renamed_term xs 0 u)) ≡ for_all symbol.args (renamed xs 0 (chosen symbol.result (App k (map Var xs)) u))
  choosing_is =
      let value = renamed_term xs 0 u in
      let vars : map (renamed_term xs 0) (map Var xs) ≡ variables (length symbol.args) = arguments_are xs m.distinct ∙ ap variables (as_many scope symbol.args xs function_sorts) in
      let head : renamed_term xs 0 (App k (map Var xs)) ≡ App k (variables (length symbol.args)) = renamed_term-App xs 0 k (map Var xs) ∙ ap (App k) vars in
      let hole : renamed xs 0 (Ex symbol.result (is_value u)) ≡ Ex symbol.result (is_value value) = renamed-Ex xs 0 symbol.result (is_value u) ∙ ap (Ex symbol.result) (renamed_value xs u) in
      let whole : renamed xs 0 (Eq (App k (map Var xs)) u) ≡ Eq (App k (variables (length symbol.args))) value = renamed-Eq xs 0 (App k (map Var xs)) u ∙ ap (λ (x : Term). Eq x value) head in
      let filled : instance_of (is_value value) (App k (variables (length symbol.args))) ≡ Eq (App k (variables (length symbol.args))) value = filled_value (App k (variables (length symbol.args))) value in
      ap (for_all symbol.args)
      (ap (Imp (Ex symbol.result (is_value value))) filled
      ∙ sym (renamed-Imp xs 0 (Ex symbol.result (is_value u)) (Eq (App k (map Var xs)) u) ∙ ap (λ (x : Form). Imp x (renamed xs 0 (Eq (App k (map Var xs)) u))) hole ∙ ap (Imp (Ex symbol.result (is_value value))) whole))

  pub choice_fits : Sorted v [] (for_all symbol.args (renamed xs 0 (chosen symbol.result (App k (map Var xs)) u)))
  choice_fits =
      let whole = chosen symbol.result (App k (map Var xs)) u in
      let inner : SortedTo n v (reverse symbol.args ++ []) (renamed xs 0 whole) =
      subst (λ (x : List ℕ). SortedTo n v x (renamed xs 0 whole)) (sym (append-nil (reverse symbol.args))) (renamed_fits v scope symbol.args xs function_sorts m.distinct n whole chosen_speaks chosen_sorted) in
      raised v [] (n + length symbol.args) 2147483647 (for_all symbol.args (renamed xs 0 whole)) (omega (arith, room, few_arguments v scope symbol.args xs function_sorts m.distinct)) (closed_over v symbol.args [] n (renamed xs 0 whole) inner)

  own_sorted : Sorted v (symbol.result ∷ reverse symbol.args) (is_value (renamed_term xs 0 u))
  own_sorted =
      let fits : is_sorted v (symbol.result ∷ reverse symbol.args) (renamed xs 1 (is_value u)) ≡ is_sorted v (symbol.result ∷ scope) (is_value u) =
      renamed_sorted v xs scope (reverse symbol.args) (argument_sort v scope symbol.args xs function_sorts m.distinct) (is_value u) (symbol.result ∷ []) hole_speaks in
      let sc = arguments_scope v scope symbol.args xs function_sorts m.distinct r.scope_fits in
      record {
        scope_fits = record { few_variables = omega (arith, room, few_arguments v scope symbol.args xs function_sorts m.distinct, length-reverse symbol.args); sorts_exist = (exists, sc.sorts_exist) };
        few_binders = rw binder_depth-Eq (omega arith);
        fits = subst (λ (b : Form). is_sorted v (symbol.result ∷ reverse symbol.args) b ≡ true) (renamed_value xs u) (fits ∙ (is_value_sorted u value_sort).fits);
      }

  chosen_in : (formulas : List Form) → IsFresh k (record { vocabulary = v; formulas = formulas }) → MayChoose (record { vocabulary = v; formulas = formulas }) k symbol (is_value (renamed_term xs 0 u))
  chosen_in formulas fresh = record {
    found = found;
    kind = is;
    sorted = own_sorted;
    fresh = fresh;
    absent = rw (occurs_in-Eq, occurs_in_term-Var, lifted_occurs k (renamed_term xs 0 u), term_occurs xs k u 0, m.absent) refl;
    added = subst (λ (b : Form). Sorted v [] b) (sym choosing_is) choice_fits;
  }

  pub may_choose : (w : Statements) → w.vocabulary ≡ v → IsFresh k w → MayChoose w k symbol (is_value (renamed_term xs 0 u))
  may_choose w same fresh = subst (λ (x : Vocabulary). MayChoose (record { vocabulary = x; formulas = w.formulas }) k symbol (is_value (renamed_term xs 0 u))) (sym same) (chosen_in w.formulas fresh)

-- The equation by the choice.
module _ (t : Statements) (v : List ℕ) (h : List Form) (s : ℕ) (head u : Term) (fact : Proof) (small : length v < 2147483647) (sh : Sorted t.vocabulary (s ∷ v) (is_value head)) (sx : Sorted t.vocabulary v (Ex s (is_value u))) (eu : sort_of_term t.vocabulary v u ≡ Some s)
    (eh : sort_of_term t.vocabulary v head ≡ Some s) (sc : IsScope t.vocabulary v) (w : Proves t v h fact (chosen s head u)) where
  itself : Proves t v h (Refl u) (instance_at u 0 (is_value u))
  itself = subst (λ (b : Form). Proves t v h (Refl u) b) (sym (filled_value u u)) (by_refl t v h u s sc eu)

  equal : Proves t v h (value_tree s u fact) (Eq head u)
  equal = by_imp_e t v h fact (ExI s (is_value u) u (Refl u)) (Ex s (is_value u)) (Eq head u) w (by_ex_i t v h s (is_value u) u (Refl u) small sx eu itself)

  own : Proves t v h (Refl head) (instance_at head 0 (is_value head))
  own = subst (λ (b : Form). Proves t v h (Refl head) b) (sym (filled_value head head)) (by_refl t v h head s sc eh)

  pub valued_shows : (first : Bool) (body : Form) → Equates first head u body → Proves t v h (valued_tree first s head u fact) body
  valued_shows true body e = subst (λ (b : Form). Proves t v h (value_tree s u fact) b) (sym e) equal
  valued_shows false body e = subst (λ (b : Form). Proves t v h (Subst s (is_value head) (value_tree s u fact) (Refl head)) b) (filled_value u head ∙ sym e) (by_subst t v h s (is_value head) (value_tree s u fact) (Refl head) head u sh equal eh own)
