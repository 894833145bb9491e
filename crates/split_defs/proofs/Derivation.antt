-- The entries of a definition add the line.
use Rattle.std.proofs.Common.{ℕ, ◌≡◌, ◌≤◌, ◌+◌, ◌<◌, ◌||◌, Bool, true, false, List, [], ◌∷◌, ◌++◌, map, length, reverse, arith, zero, suc, refl, sym, ap, subst, ◌∙◌, inl, inr, slice_get, Some, append_assoc}
use Rattle.std.specs.Prelude.{◌^◌, Option, None, Result, IfNone, IfOk, IfSome}
use Rattle.std.specs.List.{All as Each}
use Rattle.std.proofs.lemmas.List.{length-reverse, length-append}
use Rattle.fof_terms.specs.Vocabulary.{Vocabulary}
use Rattle.fof_terms.specs.Occurs.{occurs_in, occurs_in_term}
use Rattle.fof_terms.proofs.OccursFacts.{occurs_in-Iff, occurs_in-Imp, occurs_in-All, occurs_in-Eq}
use Rattle.fof_terms.specs.declared.signature.Symbol.{Symbol}
use Rattle.fof_terms.specs.declared.term.Term.{Term, Var, App}
use Rattle.fof_terms.specs.declared.form.Form.{Form, Atom, Eq, Iff, Ex}
use Rattle.fof_terms.specs.Lift.{lift_term_reach}
use Rattle.fof_terms.proofs.MoreReaches.{own_reach}
use Rattle.fof_terms.specs.Sorts.{IsScope, SortedTo, Sorted, sort_of_term, binder_depth}
use Rattle.fof_terms.proofs.Scoped.{raised, iff_sorted, eq_sorted, ex_sorted, sorted_of_iff, sorted_of_imp, sorted_of_eq}
use Rattle.fof_terms.proofs.Moved.{closed_anywhere}
use Rattle.clause_rules.specs.Steps.{IsReady}
use Rattle.kernel.specs.Statements.{Statements}
use Rattle.kernel.specs.Proves.{Proves}
use Rattle.kernel.proofs.Building.{by_line}
use Rattle.kernel.specs.Entries.{Legal, After, MayName, MayChoose, for_all, naming, choice, with_formula}
use Rattle.kernel.specs.declared.proof.Proof.{Proof, Line}
use Rattle.kernel.specs.declared.entry.Entry.{Entry}
use Rattle.kernel.specs.declared.entry.Entry.TheVariants.{Name, Choice, Lemma}
use Rattle.derive_kit.specs.Derived.{IsDerivedFrom, HasCited, Adds, with_formulas}
use Rattle.derive_kit.proofs.Built.{ok_map}
use Rattle.derive_kit.specs.Instances.{IsInstance}
use Rattle.split_defs.specs.DefinitionRule.{IsMeaning, IsValue, Relates, Equates}
use Rattle.split_defs.specs.code.DefinitionSearch.{Heads, Values, IsBody, FactOf, RelatesBy}
use Rattle.split_defs.specs.code.Renaming.{renamed, renamed_term}
use Rattle.clause_proofs.specs.Closed.{all_tree}
use Rattle.split_defs.specs.code.Trees.{is_value, valued_tree}
use Rattle.split_defs.proofs.Choosing.{chosen, chosen_absent, function_sorts, value_sort, head_sort, is_value_sorted, choice_fits, choosing_is, may_choose, valued_shows}
use Rattle.split_defs.proofs.Filling.{filled, form_back}
use Rattle.split_defs.proofs.Headings.{Atom-injective, App-injective}
use Rattle.split_defs.proofs.RenamedSorts.{form_occurs, renamed_sort}
use Rattle.split_defs.proofs.Spoken.{speaks_of_term}
use Rattle.split_defs.proofs.UnderAll.{HaveSorts, as_many, opened, depth_is, all_shown, filled_instance}
use Rattle.split_defs.proofs.Naming.{predicate_sorts, naming_is, added_fits, may_name, few_arguments, argument_sort}

-- Whichever stands first, the equivalence is well-sorted where the body is, and has no other symbols.
equivalence_sorted : (v : Vocabulary) (scope : List ℕ) (n : ℕ) (first : Bool) (head a body : Form) → Relates first head a body → SortedTo n v scope body → SortedTo n v scope (Iff head a)
equivalence_sorted v scope n true head a body (inl e) r = subst (λ (b : Form). SortedTo n v scope b) e r
equivalence_sorted v scope n true head a body (inr e) r =
    let parts = sorted_of_imp v scope n head a (subst (λ (b : Form). SortedTo n v scope b) e r) in
    iff_sorted v scope n head a parts.0 parts.1
equivalence_sorted v scope n false head a body (inl e) r =
    let parts = sorted_of_iff v scope n a head (subst (λ (b : Form). SortedTo n v scope b) e r) in
    iff_sorted v scope n head a parts.1 parts.0
equivalence_sorted v scope n false head a body (inr e) r =
    let parts = sorted_of_imp v scope n a head (subst (λ (b : Form). SortedTo n v scope b) e r) in
    iff_sorted v scope n head a parts.1 parts.0

neither : (a b : Bool) → (a || b) ≡ false → (a ≡ false) × (b ≡ false)
neither true b e = absurd (let no : true ≡ false = e in cc)
neither false b e = (refl, e)

equivalence_absent : (k : ℕ) (first : Bool) (head a body : Form) → Relates first head a body → occurs_in k body ≡ false → occurs_in k (Iff head a) ≡ false
equivalence_absent k true head a body (inl e) h = subst (λ (b : Form). occurs_in k b ≡ false) e h
equivalence_absent k true head a body (inr e) h =
    let parts = neither (occurs_in k head) (occurs_in k a) (rw occurs_in-Imp at (subst (λ (b : Form). occurs_in k b ≡ false) e h)) in
    rw (occurs_in-Iff, parts.0, parts.1) refl
equivalence_absent k false head a body (inl e) h =
    let parts = neither (occurs_in k a) (occurs_in k head) (rw occurs_in-Iff at (subst (λ (b : Form). occurs_in k b ≡ false) e h)) in
    rw (occurs_in-Iff, parts.0, parts.1) refl
equivalence_absent k false head a body (inr e) h =
    let parts = neither (occurs_in k a) (occurs_in k head) (rw occurs_in-Imp at (subst (λ (b : Form). occurs_in k b ≡ false) e h)) in
    rw (occurs_in-Iff, parts.0, parts.1) refl

pub all_absent : (k : ℕ) (sorts : List ℕ) (b : Form) → occurs_in k (for_all sorts b) ≡ occurs_in k b
all_absent k [] b = refl
all_absent k (s ∷ sorts) b = occurs_in-All k s (for_all sorts b) ∙ all_absent k sorts b

pub alone : (P : Form → Type 0) (a : Form) → P a → Each P (a ∷ [])
alone P a p zero d lt = p
alone P a p (suc i) d lt = absurd (omega arith)

last_one : (fs : List Form) (a : Form) (n : ℕ) → n ≡ length fs → slice_get (fs ++ a ∷ []) n ≡ Some a
last_one [] a zero e = refl
last_one [] a (suc n) e = absurd (omega arith)
last_one (f ∷ fs) a zero e = absurd (omega arith)
last_one (f ∷ fs) a (suc n) e = last_one fs a n (omega arith)

over_same : (x v : Vocabulary) (front : List ℕ) (b : Form) → x ≡ v → SortedTo 0 v front b → Sorted x front b
over_same x v front b same q = subst (λ (y : Vocabulary). Sorted y front b) (sym same) (raised v front 0 2147483647 b (omega arith) q)

-- One entry that adds a formula, and the lemma of the line.
pub by_two : (t : Statements) (line added : Form) (e : Entry) (p : Proof) (entries : List Entry) → entries ≡ e ∷ Lemma p ∷ []
    → ((u : Statements) → HasCited t [] u → Legal u e × After u e (with_formula u added) × Proves (with_formula u added) [] [] p line) → ((j : ℕ) → occurs_in j line ≡ false → occurs_in j added ≡ false) → IsDerivedFrom t [] entries line
by_two t line added e p entries es steps absent = record { first = e ∷ []; last = p; is = es; before = added ∷ []; adds = λ u h. subst (λ (xs : List Entry). Adds u xs (added ∷ []) line) (sym es) (adds u h) } where
  adds : (u : Statements) → HasCited t [] u → Adds u (e ∷ Lemma p ∷ []) (added ∷ []) line
  adds u h =
      let s = steps u h in
      let w = with_formula u added in
      let end : with_formulas u (added ∷ line ∷ []) ≡ with_formula w line = ap (λ (fs : List Form). record { vocabulary = u.vocabulary; formulas = fs }) (sym (append_assoc u.formulas (added ∷ []) (line ∷ []))) in
      record {
        legal = (s.0, (w, s.1, ((line, s.2), (with_formula w line, (line, s.2, refl), end))));
        speak = λ j fresh none. alone (λ b. occurs_in j b ≡ false) added (absent j none);
      }

-- A line over its quantifiers, and a formula that says the same of the arguments as one says of variables of the line.
module _ (t : Statements) (line body : Form) (ready : IsReady t.vocabulary line) (is : IsBody line body) where
  abbrev pub scope_under : List ℕ
  scope_under = reverse is.sorts ++ []

  few : length is.sorts + binder_depth body ≤ 1000000000
  few = omega (arith, ready.few_binders, ap binder_depth is.is, depth_is is.sorts body)

  line_sorted : SortedTo 1000000000 t.vocabulary [] (for_all is.sorts body)
  line_sorted = subst (λ (b : Form). SortedTo 1000000000 t.vocabulary [] b) is.is ready

  pub body_sorted : SortedTo 1000000000 t.vocabulary scope_under body
  body_sorted = opened t.vocabulary is.sorts [] 1000000000 1000000000 body (omega arith) (omega (arith, few)) line_sorted

  pub scope_small : 1000000000 + length scope_under < 2147483647
  scope_small = omega (arith, few, length-reverse is.sorts, length-append (reverse is.sorts) [])

  pub of_body : (j : ℕ) → occurs_in j line ≡ false → occurs_in j body ≡ false
  of_body j e = sym (all_absent j is.sorts body) ∙ ap (occurs_in j) (sym is.is) ∙ e

  pub line_shown : (args xs : List ℕ) (whole : Form) (fact inner p : Proof) (u : Statements) → HaveSorts scope_under args xs → Sorted t.vocabulary [] (for_all args (renamed xs 0 whole)) → FactOf (length t.formulas) (map Var xs) fact → p ≡ all_tree is.sorts inner
      → u.vocabulary ≡ t.vocabulary → length u.formulas ≡ length t.formulas → ((w : Statements) → w.vocabulary ≡ t.vocabulary → Proves w scope_under [] fact whole → Proves w scope_under [] inner body)
      → Proves (with_formula u (for_all args (renamed xs 0 whole))) [] [] p line
  line_shown args xs whole fact inner p u have added_sorted facts ps same count shows =
      let added = for_all args (renamed xs 0 whole) in
      let w = with_formula u added in
      let at : slice_get w.formulas (length t.formulas) ≡ Some added = last_one u.formulas added (length t.formulas) (sym count) in
      let here : Sorted w.vocabulary scope_under added = subst (λ (v : Vocabulary). Sorted v scope_under added) (sym same) (closed_anywhere t.vocabulary scope_under 2147483647 added body_sorted.scope_fits added_sorted) in
      let stands : Proves w scope_under [] (Line (length t.formulas)) added = by_line w scope_under [] (length t.formulas) added here at in
      let instance : IsInstance w.vocabulary scope_under added (map Var xs) (filled xs 0 (renamed xs 0 whole)) = filled_instance w.vocabulary scope_under args xs (renamed xs 0 whole) have in
      let shown : Proves w scope_under [] fact whole = subst (λ (b : Form). Proves w scope_under [] fact b) (form_back xs whole 0) (facts w scope_under [] added (filled xs 0 (renamed xs 0 whole)) instance stands) in
      let closed : Sorted w.vocabulary [] (for_all is.sorts body) = subst (λ (v : Vocabulary). Sorted v [] (for_all is.sorts body)) (sym same) (raised t.vocabulary [] 1000000000 2147483647 (for_all is.sorts body) (omega arith) line_sorted) in
      let all : Proves w [] [] (all_tree is.sorts inner) (for_all is.sorts body) = all_shown w is.sorts [] body inner (omega (arith, few)) closed (shows w same shown) in
      subst (λ (q : Proof). Proves w [] [] q line) (sym ps) (subst (λ (b : Form). Proves w [] [] (all_tree is.sorts inner) b) (sym is.is) all)

  pub predicate_derived : (head a : Form) (k : ℕ) (first : Bool) (h : Heads t head a k) → Relates first head a body → (own : Form) (fact inner p : Proof) (entries : List Entry) → own ≡ renamed h.1.0 0 a → FactOf (length t.formulas) (map Var h.1.0) fact → RelatesBy first body fact inner
      → p ≡ all_tree is.sorts inner → entries ≡ Name k own ∷ Lemma p ∷ [] → IsDerivedFrom t [] entries line
  predicate_derived head a k first h rel own fact inner p entries owns facts rels ps es =
      let xs = h.1.0 in
      let new = h.0 in
      let at = Atom k (map Var xs) in
      let rel' : Relates first at a body = subst (λ (b : Form). Relates first b a body) h.1.1 rel in
      let whole_sorted : SortedTo 1000000000 t.vocabulary scope_under (Iff at a) = equivalence_sorted t.vocabulary scope_under 1000000000 first at a body rel' body_sorted in
      let room : 1000000000 + length scope_under ≤ 2147483647 = omega (arith, scope_small) in
      let have = predicate_sorts t.vocabulary k new.symbol xs scope_under 1000000000 a new.found new.is_kind h.1.2 whole_sorted room in
      let fits = added_fits t.vocabulary k new.symbol xs scope_under 1000000000 a new.found new.is_kind h.1.2 whole_sorted room in
      let added_is : naming k new.symbol own ≡ for_all new.symbol.args (renamed xs 0 (Iff at a)) = ap (naming k new.symbol) owns ∙ naming_is t.vocabulary k new.symbol xs scope_under 1000000000 a new.found new.is_kind h.1.2 whole_sorted room in
      by_two t line (for_all new.symbol.args (renamed xs 0 (Iff at a))) (Name k own) p entries es
      (λ u c.
      let named : MayName u k new.symbol (renamed xs 0 a) = may_name t.vocabulary k new.symbol xs scope_under 1000000000 a new.found new.is_kind h.1.2 whole_sorted room u c.vocabulary (c.fresh k new.fresh) in
      let named' : MayName u k new.symbol own = subst (λ (b : Form). MayName u k new.symbol b) (sym owns) named in (
        (new.symbol, named'),
        (new.symbol, named'.found, ap (with_formula u) (sym added_is)),
        line_shown new.symbol.args xs (Iff at a) fact inner p u have fits facts ps c.vocabulary c.count (λ w same shown. rels w scope_under [] at a rel' shown),
      ))
      (λ j e. all_absent j new.symbol.args (renamed xs 0 (Iff at a)) ∙ form_occurs xs j (Iff at a) 0 ∙ equivalence_absent j first at a body rel' (of_body j e))

  -- as the code meets it
  pub predicate_args : (head a : Form) (k : ℕ) (first : Bool) → Heads t head a k → Relates first head a body → (q : ℕ) (args slice : List Term) → head ≡ Atom q args → slice ≡ args
      → (j : ℕ) × (xs : List ℕ) × (slice ≡ map Var xs) × IsMeaning j xs a × (length xs + binder_depth a < 2 ^ 32)
  predicate_args head a k first h rel q args slice ea es =
      let xs = h.1.0 in
      let new = h.0 in
      let at = Atom k (map Var xs) in
      let rel' : Relates first at a body = subst (λ (b : Form). Relates first b a body) h.1.1 rel in
      let whole_sorted : SortedTo 1000000000 t.vocabulary scope_under (Iff at a) = equivalence_sorted t.vocabulary scope_under 1000000000 first at a body rel' body_sorted in
      let room : 1000000000 + length scope_under ≤ 2147483647 = omega (arith, scope_small) in
      let have = predicate_sorts t.vocabulary k new.symbol xs scope_under 1000000000 a new.found new.is_kind h.1.2 whole_sorted room in
      let count = as_many scope_under new.symbol.args xs have in
      let few_args = few_arguments t.vocabulary scope_under new.symbol.args xs have h.1.2.distinct in
      let shallow : SortedTo 1000000000 t.vocabulary scope_under a = (sorted_of_iff t.vocabulary scope_under 1000000000 at a whole_sorted).1 in
      (k, xs, es ∙ (Atom-injective q k args (map Var xs) (sym ea ∙ h.1.1)).1, h.1.2, omega (arith, scope_small, count, few_args, shallow.few_binders))

  pub predicate_ok : {E : Type 0} (head a : Form) (k : ℕ) (first : Bool) → Heads t head a k → Relates first head a body → (q : ℕ) (args slice : List Term) (number : ℕ) (own : Form) (fact inner p : Proof) (r : Result (List Entry) E) → head ≡ Atom q args → slice ≡ args
      → number ≡ length t.formulas → ((xs : List ℕ) → slice ≡ map Var xs → own ≡ renamed xs 0 a) → FactOf number slice fact → RelatesBy first body fact inner → ((b : Form) (i : IsBody line b) → p ≡ all_tree i.sorts inner)
      → IfOk r (λ es. es ≡ Name k own ∷ Lemma p ∷ []) → IfOk r (λ es. IsDerivedFrom t [] es line)
  predicate_ok head a k first h rel q args slice number own fact inner p r ea es en owns facts rels ps made =
      let xs = h.1.0 in
      let vars : slice ≡ map Var xs = es ∙ (Atom-injective q k args (map Var xs) (sym ea ∙ h.1.1)).1 in
      let facts' : FactOf (length t.formulas) (map Var xs) fact = subst (λ (ts : List Term). FactOf (length t.formulas) ts fact) vars (subst (λ (n : ℕ). FactOf n slice fact) en facts) in
      ok_map r (λ entries e. predicate_derived head a k first h rel own fact inner p entries (owns xs vars) facts' rels (ps body is) e) made

  equates_sorted : (first : Bool) (head u : Term) → Equates first head u body → SortedTo 1000000000 t.vocabulary scope_under (Eq head u)
  equates_sorted true head u e = subst (λ (b : Form). SortedTo 1000000000 t.vocabulary scope_under b) e body_sorted
  equates_sorted false head u e =
      let parts = sorted_of_eq t.vocabulary scope_under 1000000000 u head (subst (λ (b : Form). SortedTo 1000000000 t.vocabulary scope_under b) e body_sorted) in
      eq_sorted t.vocabulary scope_under 1000000000 body_sorted.scope_fits head u parts.0 parts.2 parts.1

  equates_absent : (j : ℕ) (first : Bool) (head u : Term) → Equates first head u body → occurs_in j body ≡ false → (occurs_in_term j head ≡ false) × (occurs_in_term j u ≡ false)
  equates_absent j true head u e h = neither (occurs_in_term j head) (occurs_in_term j u) (rw occurs_in-Eq at (subst (λ (b : Form). occurs_in j b ≡ false) e h))
  equates_absent j false head u e h = let parts = neither (occurs_in_term j u) (occurs_in_term j head) (rw occurs_in-Eq at (subst (λ (b : Form). occurs_in j b ≡ false) e h)) in (parts.1, parts.0)

  pub function_derived : (head u : Term) (k : ℕ) (first : Bool) (h : Values t head u k) → Equates first head u body → (result : ℕ) (own : Form) (fact inner p : Proof) (entries : List Entry) → h.0.symbol.result ≡ result → result < length t.vocabulary.sorts → own ≡ is_value (renamed_term h.1.0 0 u)
      → FactOf (length t.formulas) (map Var h.1.0) fact → inner ≡ valued_tree first result head u fact → p ≡ all_tree is.sorts inner → entries ≡ Choice k own ∷ Lemma p ∷ [] → IsDerivedFrom t [] entries line
  function_derived head u k first h e result own fact inner p entries res exists owns facts inners ps es =
      let xs = h.1.0 in
      let new = h.0 in
      let at = App k (map Var xs) in
      let v = t.vocabulary in
      let n : ℕ = 1000000000 in
      let e' : Equates first at u body = subst (λ (x : Term). Equates first x u body) h.1.1 e in
      let r : SortedTo n v scope_under (Eq at u) = equates_sorted first at u e' in
      let some : 1 ≤ n = omega arith in
      let room : n + length scope_under < 2147483647 = scope_small in
      let exists' : new.symbol.result < length v.sorts = subst (λ (s : ℕ). s < length v.sorts) (sym res) exists in
      let s = new.symbol.result in
      let whole = chosen s at u in
      let have = function_sorts v k new.symbol xs scope_under n u new.found new.is_kind h.1.2 exists' r some room in
      let fits = choice_fits v k new.symbol xs scope_under n u new.found new.is_kind h.1.2 exists' r some room in
      let su = is_value_sorted v k new.symbol xs scope_under n u new.found new.is_kind h.1.2 exists' r some room u (value_sort v k new.symbol xs scope_under n u new.found new.is_kind h.1.2 exists' r some room) in
      let sh = is_value_sorted v k new.symbol xs scope_under n u new.found new.is_kind h.1.2 exists' r some room at (head_sort v k new.symbol xs scope_under n u new.found new.is_kind h.1.2 exists' r some room) in
      let eu = value_sort v k new.symbol xs scope_under n u new.found new.is_kind h.1.2 exists' r some room in
      let eh = head_sort v k new.symbol xs scope_under n u new.found new.is_kind h.1.2 exists' r some room in
      let inner_is : inner ≡ valued_tree first s at u fact = inners ∙ ap (λ (j : ℕ). valued_tree first j head u fact) (sym res) ∙ ap (λ (x : Term). valued_tree first s x u fact) h.1.1 in
      let added_is : choice k new.symbol own ≡ for_all new.symbol.args (renamed xs 0 whole) = ap (choice k new.symbol) owns ∙ choosing_is v k new.symbol xs scope_under n u new.found new.is_kind h.1.2 exists' r some room in
      by_two t line (for_all new.symbol.args (renamed xs 0 whole)) (Choice k own) p entries es
      (λ w c.
      let may : MayChoose w k new.symbol (is_value (renamed_term xs 0 u)) = may_choose v k new.symbol xs scope_under n u new.found new.is_kind h.1.2 exists' r some room w c.vocabulary (c.fresh k new.fresh) in
      let may' : MayChoose w k new.symbol own = subst (λ (b : Form). MayChoose w k new.symbol b) (sym owns) may in (
        (new.symbol, may'),
        (new.symbol, may'.found, ap (with_formula w) (sym added_is)),
        line_shown new.symbol.args xs whole fact inner p w have fits facts ps c.vocabulary c.count (λ x same shown.
            subst (λ (q : Proof). Proves x scope_under [] q body) (sym inner_is)
            (valued_shows x scope_under [] s at u fact (omega (arith, room)) (over_same x.vocabulary v (s ∷ scope_under) (is_value at) same sh)
            (subst (λ (y : Vocabulary). Sorted y scope_under (Ex s (is_value u))) (sym same) (raised v scope_under 1 2147483647 (Ex s (is_value u)) (omega arith) (ex_sorted v scope_under 0 s (is_value u) su)))
            (subst (λ (y : Vocabulary). sort_of_term y scope_under u ≡ Some s) (sym same) eu) (subst (λ (y : Vocabulary). sort_of_term y scope_under at ≡ Some s) (sym same) eh)
            (subst (λ (y : Vocabulary). IsScope y scope_under) (sym same) body_sorted.scope_fits) shown first body e')),
      ))
      (λ j a.
      let parts = equates_absent j first at u e' (of_body j a) in
      all_absent j new.symbol.args (renamed xs 0 whole) ∙ form_occurs xs j whole 0 ∙ chosen_absent j s at u parts.0 parts.1)

  pub sides_reach : (first : Bool) (head u : Term) → Equates first head u body → (lift_term_reach 1 0 head < 2 ^ 32) × (lift_term_reach 1 0 u < 2 ^ 32)
  sides_reach first head u e =
      let sides = sorted_of_eq t.vocabulary scope_under 1000000000 head u (equates_sorted first head u e) in
      (omega (arith, scope_small, own_reach t.vocabulary scope_under 1 head (sides.0, sides.1)), omega (arith, scope_small, own_reach t.vocabulary scope_under 1 u (sides.0, sides.2)))

  -- as the code meets it
  module _ (head u : Term) (k : ℕ) (first : Bool) (h : Values t head u k) (e : Equates first head u body) (result : ℕ) (results : (s : Symbol) → slice_get t.vocabulary.symbols k ≡ Some s → s.result ≡ result) (exists : result < length t.vocabulary.sorts) (q : ℕ) (args slice : List Term) (ea : head ≡ App q args) (es : slice ≡ args) where
    vars_of : slice ≡ map Var h.1.0
    vars_of = es ∙ (App-injective q k args (map Var h.1.0) (sym ea ∙ h.1.1)).1

    its_result : h.0.symbol.result ≡ result
    its_result = results h.0.symbol h.0.found

    its_sorts : HaveSorts scope_under h.0.symbol.args h.1.0
    its_sorts =
        function_sorts t.vocabulary k h.0.symbol h.1.0 scope_under 1000000000 u h.0.found h.0.is_kind h.1.2 (subst (λ (s : ℕ). s < length t.vocabulary.sorts) (sym its_result) exists) (equates_sorted first (App k (map Var h.1.0)) u (subst (λ (x : Term). Equates first x u body) h.1.1 e)) (omega arith) scope_small

    pub function_args : (j : ℕ) × (xs : List ℕ) × (slice ≡ map Var xs) × IsValue j xs u × (length xs < 2 ^ 32)
    function_args =
        (k, h.1.0, vars_of, h.1.2, omega (arith, scope_small, as_many scope_under h.0.symbol.args h.1.0 its_sorts, few_arguments t.vocabulary scope_under h.0.symbol.args h.1.0 its_sorts h.1.2.distinct))

    pub own_reached : (own : Term) → ((xs : List ℕ) → slice ≡ map Var xs → own ≡ renamed_term xs 0 u) → lift_term_reach 1 0 own < 2 ^ 32
    own_reached own owns =
        let sides = sorted_of_eq t.vocabulary scope_under 1000000000 head u (equates_sorted first head u e) in
        let args_of = h.0.symbol.args in
        let sort : sort_of_term t.vocabulary (reverse args_of) (renamed_term h.1.0 0 u) ≡ Some sides.0 =
        renamed_sort t.vocabulary h.1.0 scope_under (reverse args_of) (argument_sort t.vocabulary scope_under args_of h.1.0 its_sorts h.1.2.distinct) u [] (speaks_of_term h.1.0 u h.1.2.among) ∙ sides.2 in
        let reach : lift_term_reach 1 0 (renamed_term h.1.0 0 u) < 2 ^ 32 =
        omega (arith, scope_small, own_reach t.vocabulary (reverse args_of) 1 (renamed_term h.1.0 0 u) (sides.0, sort), length-reverse args_of, few_arguments t.vocabulary scope_under args_of h.1.0 its_sorts h.1.2.distinct) in
        subst (λ (x : Term). lift_term_reach 1 0 x < 2 ^ 32) (sym (owns h.1.0 vars_of)) reach

    pub function_ok : {E : Type 0} (number : ℕ) (own : Term) (hole : Form) (fact inner p : Proof) (r : Result (List Entry) E) → number ≡ length t.formulas → ((xs : List ℕ) → slice ≡ map Var xs → own ≡ renamed_term xs 0 u) → hole ≡ is_value own → FactOf number slice fact
        → inner ≡ valued_tree first result head u fact → ((b : Form) (i : IsBody line b) → p ≡ all_tree i.sorts inner) → IfOk r (λ entries. entries ≡ Choice k hole ∷ Lemma p ∷ []) → IfOk r (λ entries. IsDerivedFrom t [] entries line)
    function_ok number own hole fact inner p r en owns holes facts inners ps made =
        let facts' : FactOf (length t.formulas) (map Var h.1.0) fact = subst (λ (ts : List Term). FactOf (length t.formulas) ts fact) vars_of (subst (λ (n : ℕ). FactOf n slice fact) en facts) in
        let whole : hole ≡ is_value (renamed_term h.1.0 0 u) = holes ∙ ap is_value (owns h.1.0 vars_of) in
        ok_map r (λ entries made_of. function_derived head u k first h e result hole fact inner p entries its_result exists whole facts' inners (ps body is) made_of) made

-- The sort of the result, as it is found.
some_then : (P : ℕ → Type 0) (o : Option ℕ) (x : ℕ) → IfSome o P → o ≡ Some x → P x
some_then P o x h e = subst (λ (p : Option ℕ). IfSome p P) e h

-- there is one
pub result_found : (v w : Vocabulary) (k : ℕ) (o : Option ℕ) → w ≡ v → IfNone o (slice_get w.symbols k ≡ None) → (s : Symbol) → slice_get v.symbols k ≡ Some s → ((r : ℕ) → o ≡ Some r → ⊥) → ⊥
result_found v w k (Some r) same h s e none = none r refl
result_found v w k None same h s e none = (let there : slice_get w.symbols k ≡ Some s = subst (λ (x : Vocabulary). slice_get x.symbols k ≡ Some s) (sym same) e in cc)

pub result_exists : (v w : Vocabulary) (o : Option ℕ) (r : ℕ) → w ≡ v → IfSome o (λ s. s < length w.sorts) → o ≡ Some r → r < length v.sorts
result_exists v w o r same h e = subst (λ (x : Vocabulary). r < length x.sorts) same (some_then (λ s. s < length w.sorts) o r h e)

pub result_is : (v w : Vocabulary) (k : ℕ) (o : Option ℕ) (r : ℕ) → w ≡ v → IfSome o (λ sort. (s : Symbol) → slice_get w.symbols k ≡ Some s → s.result ≡ sort) → o ≡ Some r → (s : Symbol) → slice_get v.symbols k ≡ Some s → s.result ≡ r
result_is v w k o r same h e = subst (λ (x : Vocabulary). (s : Symbol) → slice_get x.symbols k ≡ Some s → s.result ≡ r) same (some_then (λ sort. (s : Symbol) → slice_get w.symbols k ≡ Some s → s.result ≡ sort) o r h e)
