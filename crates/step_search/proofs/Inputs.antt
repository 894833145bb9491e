-- The clauses of a step are well-sorted over the vocabulary with the functions, and there is room for these.
use Rattle.std.specs.Prelude.{ℕ, ◌≡◌, ◌+◌, ◌≤◌, ◌<◌, nat_lt, ◌||◌, Bool, true, false, if◌then◌else◌, List, [], ◌∷◌, ◌++◌, length, map, sum, reverse, slice_get, Some, refl}
use Rattle.std.specs.List.{All as Each, AllByRecursion, list_any}
use Rattle.std.proofs.Common.{ap, sym, subst, ◌∙◌, arith, append_assoc}
use Rattle.std.proofs.lemmas.Bool.Decides.{nat_tests}
use Rattle.std.proofs.lemmas.List.{append-nil, reverse-append}
use Rattle.std.proofs.lemmas.List.Elements.{All-from_recursion, recursion_from_All}
use Rattle.fof_terms.proofs.LiftingLaws.{each_true}
use Rattle.fof_terms.proofs.SortLawsFacts.{grown_fits}
use Rattle.fof_terms.proofs.SortsFacts.{binder_depth-Not, is_sorted-Not}
use Rattle.fof_terms.specs.SortLaws.{Grows}
use Rattle.fof_terms.specs.Sorts.{SortedTo, is_sorted}
use Rattle.fof_terms.specs.Vocabulary.{Vocabulary, IsDeclared}
use Rattle.fof_terms.specs.declared.form.Form.{Form, Not}
use Rattle.fof_terms.specs.declared.term.Term.{Var}
use Rattle.fof_terms.proofs.SortsFacts.{sort_of_term-Var}
use Rattle.fof_terms.specs.Sorts.{sort_of_term}
use Rattle.clause_form.proofs.NormFits.{norm_fits}
use Rattle.clause_form.proofs.NormSize.{norm_small}
use Rattle.clause_form.proofs.ReachedFacts.{members_fit}
use Rattle.clause_form.proofs.SizeLaws.{sum_cons}
use Rattle.clause_form.specs.ClauseView.{form_of_lit, form_of_lits}
use Rattle.clause_form.specs.Clauses.{clauses_in, clauses_of, skolemized}
use Rattle.clause_form.specs.Covers.{is_sorted_atom, AreSorted}
use Rattle.clause_form.specs.Norm.{norm_of}
use Rattle.clause_form.specs.Paths.{forms_of}
use Rattle.clause_form.specs.Reached.{around, Suits}
use Rattle.clause_form.specs.Sizes.{norm_size_of}
use Rattle.clause_form.specs.declared.clause.Clause.{Clause}
use Rattle.clause_form.specs.declared.clause.Lit.{Lit}
use Rattle.clause_form.specs.declared.path.Parent.{Parent}
use Rattle.clause_order.specs.Weights.{clause_weight}
use Rattle.clause_proofs.proofs.BodySorts.{lit_fits}
use Rattle.clause_rules.proofs.ListPlaces.{before}
use Rattle.clause_rules.specs.Steps.{AreReady, IsReady}
use Rattle.input_proofs.specs.Functions.{functions_of, searched_clauses, searched_vocabulary}
use Rattle.step_clauses.proofs.InputFacts.{not_large}
use Rattle.step_clauses.proofs.SkolemSorts.{made_fits, made_small}
use Rattle.step_clauses.specs.Existentials.{existentials, ex_count}
use Rattle.step_clauses.specs.Inputs.{clauses_from, next_behind, new_symbols_from, search_input, search_symbols, step_forms}
use Rattle.step_clauses.specs.Room.{HasRoom, wanted}
use Rattle.step_clauses.specs.Skolems.{KnowsFrom}
use Rattle.step_clauses.specs.Wide.{is_heavy, is_large, is_wide}
use Rattle.step_clauses.specs.declared.skolems.Skolem.{Skolem}
use Rattle.superpose.specs.Drafts.{IsClause}
use Rattle.step_search.proofs.ClauseSuits.{each_of_both, each_suited, each_weaker}
use Rattle.step_search.proofs.FunctionSorts.{KnowsEach, functions_count, functions_declared, knows_each}

-- Tests.
pub neither : (a b : Bool) → (a || b) ≡ false → (a ≡ false) × (b ≡ false)
neither true b e = cc
neither false b e = (refl, e)

-- One clause.
around_is : (sorts scope : List ℕ) → around sorts scope ≡ reverse sorts ++ scope
around_is [] scope = refl
around_is (s ∷ sorts) scope = around_is sorts (s ∷ scope) ∙ sym (ap (λ (ss : List ℕ). ss ++ scope) (reverse-append (s ∷ []) sorts) ∙ append_assoc (reverse sorts) (s ∷ []) scope)

own_scope : (sorts : List ℕ) → around sorts [] ≡ reverse sorts
own_scope sorts = around_is sorts [] ∙ append-nil (reverse sorts)

module _ (w : Vocabulary) where
  lits_sorted : (scope : List ℕ) (lits : List Lit) → AllByRecursion (λ (a : Form). is_sorted w scope a ≡ true) (map form_of_lit lits) → AllByRecursion (λ (l : Lit). is_sorted_atom w scope l.atom ≡ true) lits
  lits_sorted scope [] all = tt
  lits_sorted scope (l ∷ lits) all = (sym (lit_fits w scope l) ∙ all.0, lits_sorted scope lits all.1)

  are_sorted : (scope : List ℕ) (lits : List Lit) → is_sorted w scope (form_of_lits lits) ≡ true → AreSorted w scope lits
  are_sorted scope lits e = record {
    fits = All-from_recursion (λ (l : Lit). is_sorted_atom w scope l.atom ≡ true) lits (lits_sorted scope lits (each_true (is_sorted w scope) (map form_of_lit lits) (members_fit w scope lits ∙ e)));
  }

  suits_clause : (a : Form) (c : Clause) → is_sorted w [] a ≡ true → norm_size_of a ≤ 100000 → Suits a c → IsClause w c
  suits_clause a c fits small s = record {
    fit = record { sorted = are_sorted (reverse c.sorts) c.lits (subst (λ (scope : List ℕ). is_sorted w scope (form_of_lits c.lits) ≡ true) (own_scope c.sorts) (s.fits w [] fits)); few = omega (arith, s.small, small) };
    exist = All-from_recursion (λ (q : ℕ). q < length w.sorts) c.sorts (s.sorts w [] fits);
  }

-- The clauses of a formula.
module _ (v w : Vocabulary) (grows : Grows v w) where
  no_images : (k r : ℕ) → slice_get [] k ≡ Some r → sort_of_term w [] (Var k) ≡ Some r
  no_images k r e = sort_of_term-Var w [] k ∙ e

  norm_sorted : (a : Form) → SortedTo 1000000000 v [] a → is_sorted w [] (norm_of true a) ≡ true
  norm_sorted a sorted = grown_fits v w grows (norm_of true a) [] (norm_fits v a true [] sorted.fits)

  skolemized_sorted : (next : ℕ) (a : Form) → SortedTo 1000000000 v [] a → KnowsFrom w next (existentials (norm_of true a)) → is_sorted w [] (skolemized (norm_of true a) next) ≡ true
  skolemized_sorted next a sorted knows = made_fits w (norm_of true a) next 0 [] [] [] Var refl refl (record { sorted = no_images }) knows (norm_sorted a sorted)

  skolemized_small : (next : ℕ) (a : Form) → norm_size_of a ≤ 100000 → norm_size_of (skolemized (norm_of true a) next) ≤ 100000
  skolemized_small next a small = omega (arith, made_small (norm_of true a) next 0 Var, norm_small a true)

  pub clauses_are : (next : ℕ) (forms : List Form) → AllByRecursion (SortedTo 1000000000 v []) forms → list_any is_large forms ≡ false → KnowsEach w next forms → AllByRecursion (IsClause w) (clauses_from next forms)
  clauses_are next [] all small knows = tt
  clauses_are next (a ∷ forms) all small knows =
      let parts = neither (is_large a) (list_any is_large forms) small in
      let whole = skolemized (norm_of true a) next in
      each_of_both (IsClause w) (clauses_of a next) (clauses_from (next_behind next a) forms)
      (each_weaker (Suits whole) (IsClause w) (clauses_in whole)
      (λ c s. suits_clause w whole c (skolemized_sorted next a all.0 knows.0) (skolemized_small next a (not_large a parts.0)) s) (each_suited whole))
      (clauses_are (next_behind next a) forms all.1 parts.1 knows.1)

-- Weights and numbers.
not_heavy : (n : ℕ) → nat_lt 100000000 n ≡ false → n ≤ 100000000
not_heavy n e = grind (arith, nat_tests)

each_light : (clauses : List Clause) → list_any is_heavy clauses ≡ false → AllByRecursion (λ (c : Clause). clause_weight c ≤ 100000000) clauses
each_light [] e = tt
each_light (c ∷ clauses) e = let parts = neither (is_heavy c) (list_any is_heavy clauses) e in (not_heavy (clause_weight c) parts.0, each_light clauses parts.1)

all_wanted : (b : Bool) (n : ℕ) → b ≡ false → (if b then 0 else n) ≡ n
all_wanted true n e = cc
all_wanted false n e = refl

functions_total : (next : ℕ) (forms : List Form) → list_any is_large forms ≡ false → length (new_symbols_from next forms) ≡ sum (map wanted forms)
functions_total next [] e = refl
functions_total next (a ∷ forms) e =
    let parts = neither (is_large a) (list_any is_large forms) e in
    let own : wanted a ≡ ex_count (norm_of true a) = all_wanted (is_large a) (ex_count (norm_of true a)) parts.0 in
    let rest = functions_total (next_behind next a) forms parts.1 in
    let whole = sum_cons (wanted a) (map wanted forms) in
    functions_count next a forms ∙ (omega arith)

-- The vocabulary with the functions has all that it had.
grows : (v : Vocabulary) (parents : List Parent) (line : Form) → Grows v (searched_vocabulary v parents line)
grows v parents line = record { more_sorts = omega arith; same_symbols = λ k s e. before v.symbols (functions_of v parents line) k s e }

-- The whole step.
module _ (v : Vocabulary) (parents : List Parent) (line : Form) (ready : AreReady v parents) (line_ready : IsReady v line) where
  not_ready : SortedTo 1000000000 v [] (Not line)
  not_ready = record { scope_fits = line_ready.scope_fits; few_binders = omega (arith, binder_depth-Not line, line_ready.few_binders); fits = is_sorted-Not v [] line ∙ line_ready.fits }

  forms_ready : (ps : List Parent) → AllByRecursion (λ (p : Parent). SortedTo 1000000000 v [] p.form) ps → AllByRecursion (SortedTo 1000000000 v []) (step_forms (forms_of ps) line)
  forms_ready [] all = (not_ready, tt)
  forms_ready (p ∷ ps) all = (all.0, forms_ready ps all.1)

  pub step_ready : AllByRecursion (SortedTo 1000000000 v []) (step_forms (forms_of parents) line)
  step_ready = forms_ready parents (recursion_from_All (λ (p : Parent). SortedTo 1000000000 v [] p.form) parents ready)

  pub are_declared : Each (λ (k : Skolem). IsDeclared (length v.sorts) k.symbol) (search_symbols (length v.symbols) (forms_of parents) line)
  are_declared =
      All-from_recursion (λ (k : Skolem). IsDeclared (length v.sorts) k.symbol) (search_symbols (length v.symbols) (forms_of parents) line) (functions_declared v (length v.symbols) (step_forms (forms_of parents) line) step_ready)

  module _ (narrow : is_wide (length v.symbols) (forms_of parents) line ≡ false) where
    small : list_any is_large (step_forms (forms_of parents) line) ≡ false
    small = (neither (list_any is_large (step_forms (forms_of parents) line)) (nat_lt 10000 (length (search_input (length v.symbols) (forms_of parents) line)) || list_any is_heavy (search_input (length v.symbols) (forms_of parents) line)) narrow).0

    light : list_any is_heavy (search_input (length v.symbols) (forms_of parents) line) ≡ false
    light =
        let rest = (neither (list_any is_large (step_forms (forms_of parents) line)) (nat_lt 10000 (length (search_input (length v.symbols) (forms_of parents) line)) || list_any is_heavy (search_input (length v.symbols) (forms_of parents) line)) narrow).1 in
        (neither (nat_lt 10000 (length (search_input (length v.symbols) (forms_of parents) line))) (list_any is_heavy (search_input (length v.symbols) (forms_of parents) line)) rest).1

    pub clauses_fit : Each (IsClause (searched_vocabulary v parents line)) (searched_clauses v parents line)
    clauses_fit =
        All-from_recursion (IsClause (searched_vocabulary v parents line)) (searched_clauses v parents line)
        (clauses_are v (searched_vocabulary v parents line) (grows v parents line) (length v.symbols) (step_forms (forms_of parents) line) step_ready small
        (knows_each (searched_vocabulary v parents line) v.symbols (length v.symbols) (step_forms (forms_of parents) line) refl refl))

    pub clauses_light : Each (λ (c : Clause). clause_weight c ≤ 100000000) (searched_clauses v parents line)
    clauses_light = All-from_recursion (λ (c : Clause). clause_weight c ≤ 100000000) (searched_clauses v parents line) (each_light (searched_clauses v parents line) light)

    pub functions_fit : HasRoom (length v.symbols) (forms_of parents) line → length v.symbols + length (search_symbols (length v.symbols) (forms_of parents) line) ≤ 16777216
    functions_fit room = let total = functions_total (length v.symbols) (step_forms (forms_of parents) line) small in omega arith
