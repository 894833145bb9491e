-- The whole step.
use Rattle.std.specs.Prelude.{ℕ, suc, ◌≡◌, ◌+◌, ◌<◌, ◌≤◌, ◌||◌, nat_lt, Bool, true, false, if◌then◌else◌, List, [], ◌∷◌, ◌++◌, length, map, sum, take, drop, Option, Some, None, slice_get, get_or, refl}
use Rattle.std.specs.Option.{option_map}
use Rattle.std.specs.List.{AllByRecursion as Each, list_any}
use Rattle.std.proofs.Common.{ap, sym, subst, ◌∙◌, inl, arith, append_assoc}
use Rattle.std.proofs.lemmas.List.{map-append, take_more}
use Rattle.std.proofs.lemmas.List.Elements.{All-nil, All-from_recursion, recursion_from_All}
use Rattle.std.proofs.lemmas.Option.{slice_get-map, slice_get-get_or, slice_get_within}
use Rattle.std.proofs.lemmas.Bool.Decides.{nat_tests}
use Rattle.std.proofs.Math.Seq.{take-length}
use Rattle.fof_terms.specs.declared.form.Form.{Form, Not}
use Rattle.fof_terms.specs.Occurs.{occurs_in}
use Rattle.fof_terms.proofs.OccursFacts.{occurs_in-Not}
use Rattle.fof_terms.specs.Sorts.{Sorted, SortedTo}
use Rattle.fof_terms.proofs.SortsFacts.{binder_depth-Not, is_sorted-Not}
use Rattle.fof_terms.specs.Vocabulary.{Vocabulary}
use Rattle.clause_form.specs.declared.clause.Clause.{Clause}
use Rattle.clause_form.specs.declared.path.Parent.{Parent}
use Rattle.clause_form.specs.Clauses.{skolemized, clauses_of}
use Rattle.clause_form.specs.Norm.{norm_of}
use Rattle.clause_form.specs.Paths.{forms_of}
use Rattle.clause_form.specs.Sizes.{norm_size_of}
use Rattle.clause_form.proofs.SizeLaws.{sum_cons}
use Rattle.clause_rules.specs.Steps.{AreReady, IsReady}
use Rattle.derive_kit.specs.Derived.{AreOfTheory, HasCited, numbers_of}
use Rattle.kernel.specs.Entries.{IsFresh}
use Rattle.kernel.specs.Statements.{Statements, AreClosed}
use Rattle.kernel.specs.declared.entry.Entry.{Entry}
use Rattle.kernel.specs.declared.proof.Proof.{Proof}
use Rattle.skolem_fresh.specs.Entered.{Enters, formulas_told}
use Rattle.skolem_fresh.proofs.Entering.{neither, enters_none}
use Rattle.skolem_fresh.proofs.WalkCode.{whole_from}
use Rattle.skolem_proofs.proofs.Lacking.{norm_lacks}
use Rattle.step_clauses.specs.Existentials.{existentials, ex_count}
use Rattle.step_clauses.specs.Inputs.{step_forms, next_behind, clauses_from}
use Rattle.step_clauses.specs.Room.{HasRoom, wanted as wanted_by}
use Rattle.step_clauses.specs.Skolems.{uses_of}
use Rattle.step_clauses.specs.Wide.{is_large, is_heavy, is_wide}
use Rattle.step_clauses.proofs.InputFacts.{not_large}
use Rattle.input_proofs.specs.Formulas.{formula_of}
use Rattle.input_proofs.specs.Functions.{searched_vocabulary, searched_clauses, with_functions}
use Rattle.input_proofs.specs.Opened.{AreChoices, AreOpened, StandFrom, ShowEach, ShowsClause}
use Rattle.input_proofs.specs.Wanted.{AreWanted}
use Rattle.input_proofs.specs.code.Passed.{MayPass, Passes}
use Rattle.input_proofs.specs.code.Pending.{cited}
use Rattle.input_proofs.specs.declared.forms.Opening.{Opening}
use Rattle.input_proofs.specs.declared.opening.OpenedInputs.{OpenedInputs}
use Rattle.input_proofs.specs.declared.pending.Pending.{Pending}
use Rattle.input_proofs.proofs.ClauseFormulas.{clauses_lack}
use Rattle.input_proofs.proofs.FunctionsFacts.{others_outside, sorted_lacks}
use Rattle.skolem_proofs.proofs.Others.{made_lacks}
use Rattle.input_proofs.proofs.Literals.{each_append}
use Rattle.input_proofs.proofs.Passed.{HavePassed, IsPendingOn, AllLack, number_after}
use Rattle.input_proofs.proofs.PassedFacts.{one_passed}
use Rattle.input_proofs.proofs.PendingFacts.{take_all}
use Rattle.input_proofs.proofs.Steps.{MayOpen, may_pass, own_skolemized, after_both, after_more}
use Rattle.input_proofs.proofs.WantedFacts.{all_cited, as_many_clauses}

-- What is asked of a step.
not_wide : (n : ℕ) → nat_lt 10000 n ≡ false → n ≤ 10000
not_wide n e = grind (arith, nat_tests)

some_wanted : (b : Bool) (n : ℕ) → b ≡ false → (if b then 0 else n) ≡ n
some_wanted b n e = rw e refl

all_small : (forms : List Form) → list_any is_large forms ≡ false → Each (λ (a : Form). norm_size_of a ≤ 100000) forms
all_small [] e = tt
all_small (a ∷ forms) e = let parts = neither (is_large a) (list_any is_large forms) e in (not_large a parts.0, all_small forms parts.1)

all_numbers : (next : ℕ) (forms : List Form) → list_any is_large forms ≡ false → next + sum (map wanted_by forms) ≡ number_after next forms
all_numbers next [] e = omega arith
all_numbers next (a ∷ forms) e =
    let parts = neither (is_large a) (list_any is_large forms) e in
    let own = some_wanted (is_large a) (ex_count (norm_of true a)) parts.0 in
    let rest = all_numbers (next_behind next a) forms parts.1 in
    let whole = sum_cons (wanted_by a) (map wanted_by forms) in
    omega (arith, own, rest, whole)

denied_sorted : (v : Vocabulary) (line : Form) → IsReady v line → IsReady v (Not line)
denied_sorted v line r = record { scope_fits = r.scope_fits; few_binders = rw binder_depth-Not r.few_binders; fits = rw is_sorted-Not r.fits }

step_sorted : (v : Vocabulary) (parents : List Parent) (line : Form) → Each (λ (p : Parent). IsReady v p.form) parents → IsReady v line → Each (SortedTo 1000000000 v []) (step_forms (forms_of parents) line)
step_sorted v [] line h r = (denied_sorted v line r, tt)
step_sorted v (p ∷ parents) line h r = (h.0, step_sorted v parents line h.1 r)

pub record IsAsked (t : Statements) (parents : List Parent) (line : Form) (wanted : List Bool) : Type 0 where
  pub closed : AreClosed t
  pub stand : AreOfTheory t parents
  pub ready : AreReady t.vocabulary parents
  pub line_ready : IsReady t.vocabulary line
  pub room : HasRoom (length t.vocabulary.symbols) (forms_of parents) line
  pub narrow : is_wide (length t.vocabulary.symbols) (forms_of parents) line ≡ false
  pub marks : length wanted ≡ length (searched_clauses t.vocabulary parents line)

-- where the parents stand, and the negation of the line behind so many choices
abbrev pub ParentsStand : List Parent → Statements → ℕ → Type 0
ParentsStand parents s n = AreOfTheory s parents

abbrev pub AllStand : List Parent → Form → ℕ → Statements → ℕ → Type 0
AllStand parents line first s n = AreOfTheory s parents × (slice_get s.formulas (first + n) ≡ Some (Not line))

module _ (t : Statements) (parents : List Parent) (line : Form) (wanted : List Bool) (asked : IsAsked t parents line wanted) where
  abbrev start : ℕ
  start = length t.vocabulary.symbols

  abbrev first : ℕ
  first = length t.formulas

  abbrev forms : List Form
  forms = step_forms (forms_of parents) line

  abbrev w : Vocabulary
  w = searched_vocabulary t.vocabulary parents line

  large_wide : (list_any is_large forms ≡ false) × (nat_lt 10000 (length (clauses_from start forms)) ≡ false)
  large_wide =
      let parts = neither (list_any is_large forms) (nat_lt 10000 (length (clauses_from start forms)) || list_any is_heavy (clauses_from start forms)) asked.narrow in
      (parts.0, (neither (nat_lt 10000 (length (clauses_from start forms))) (list_any is_heavy (clauses_from start forms)) parts.1).0)

  pub may_open : MayOpen t.vocabulary w forms wanted
  may_open = record {
    functions = refl;
    sorted = step_sorted t.vocabulary parents line (recursion_from_All (λ (p : Parent). IsReady t.vocabulary p.form) parents asked.ready) asked.line_ready;
    small = all_small forms large_wide.0;
    room = let all = all_numbers start forms large_wide.0 in omega (arith, asked.room);
    few = not_wide (length (clauses_from start forms)) large_wide.1;
    marks = asked.marks;
  }

  -- Symbols.
  abbrev LackAll : ℕ → List Form → Type 0
  LackAll k = Each (λ (a : Form). occurs_in k a ≡ false)

  module _ (u : Statements) (h : HasCited t (numbers_of parents) u) where
    cited_at : (i : ℕ) (p : Parent) → slice_get parents i ≡ Some p → slice_get u.formulas p.number ≡ Some p.form
    cited_at i p at =
        let numbers : slice_get (numbers_of parents) i ≡ Some p.number = slice_get-map (λ (q : Parent). q.number) parents i ∙ ap (option_map (λ (q : Parent). q.number)) at in
        let lt = slice_get_within (numbers_of parents) i p.number numbers in
        let found : Some (get_or (numbers_of parents) i p.number) ≡ Some p.number = sym (slice_get-get_or (numbers_of parents) i p.number lt) ∙ numbers in
        let same : get_or (numbers_of parents) i p.number ≡ p.number = cc in
        let lt' = slice_get_within parents i p at in
        let own : Some (get_or parents i p) ≡ Some p = sym (slice_get-get_or parents i p lt') ∙ at in
        let same' : get_or parents i p ≡ p = cc in
        subst (λ m. slice_get u.formulas m ≡ slice_get t.formulas m) same (h.formulas i p.number lt) ∙ subst (λ (q : Parent). slice_get t.formulas q.number ≡ Some q.form) same' (asked.stand i p lt')

    fresh_at : (k n : ℕ) (a : Form) → IsFresh k u → slice_get u.formulas n ≡ Some a → occurs_in k a ≡ false
    fresh_at k n a fresh at =
        let lt = slice_get_within u.formulas n a at in
        let found : Some (get_or u.formulas n a) ≡ Some a = sym (slice_get-get_or u.formulas n a lt) ∙ at in
        let same : get_or u.formulas n a ≡ a = cc in
        subst (λ b. occurs_in k b ≡ false) same (fresh n a lt)

    parents_lack : (k : ℕ) → IsFresh k u → (before after : List Parent) → parents ≡ before ++ after → LackAll k (forms_of after)
    parents_lack k fresh before [] e = tt
    parents_lack k fresh before (p ∷ after) e =
        let at : slice_get parents (length before) ≡ Some p = ap (λ (ps : List Parent). slice_get ps (length before)) e ∙ here before p after in
        (fresh_at k p.number p.form fresh (cited_at (length before) p at), parents_lack k fresh (before ++ p ∷ []) after (e ∙ sym (append_assoc before (p ∷ []) after))) where
          here : (xs : List Parent) (x : Parent) (ys : List Parent) → slice_get (xs ++ x ∷ ys) (length xs) ≡ Some x
          here [] x ys = refl
          here (z ∷ xs) x ys = here xs x ys

    forms_lack : (k : ℕ) → IsFresh k u → occurs_in k line ≡ false → LackAll k forms
    forms_lack k fresh off = each_append (λ (a : Form). occurs_in k a ≡ false) (forms_of parents) (Not line ∷ []) (parents_lack k fresh [] parents refl) (occurs_in-Not k line ∙ off, tt)

    new_is_fresh : (k : ℕ) → start ≤ k → IsFresh k u
    new_is_fresh k le = h.fresh k (λ i d lt. sorted_lacks t.vocabulary k le _ [] (asked.closed i d lt).fits)

    vocabulary_is : (with_functions u parents line).vocabulary ≡ w
    vocabulary_is = ap (λ v. searched_vocabulary v parents line) h.vocabulary

    all_clauses_lack : (k : ℕ) → k < start → (done rest : List Form) → forms ≡ done ++ rest → LackAll k rest → Each (λ (c : Clause). occurs_in k (formula_of c) ≡ false) (clauses_from (number_after start done) rest)
    all_clauses_lack k lt done [] e lacks = tt
    all_clauses_lack k lt done (a ∷ rest) e lacks =
        let next = number_after start done in
        let norm = norm_of true a in
        let known = own_skolemized t.vocabulary w forms wanted may_open done rest a e in
        let more = after_more start done in
        let off = made_lacks k w [] (uses_of norm next) norm (skolemized norm next) known (norm_lacks k a true lacks.0) (others_outside k next (existentials norm) (inl (omega arith))) in
        let further : number_after start (done ++ a ∷ []) ≡ next_behind next a = after_both start done (a ∷ []) in
        each_append (λ (c : Clause). occurs_in k (formula_of c) ≡ false) (clauses_of a next) (clauses_from (next_behind next a) rest) (clauses_lack k (skolemized norm next) off)
        (subst (λ (n : ℕ). Each (λ (c : Clause). occurs_in k (formula_of c) ≡ false) (clauses_from n rest)) further
        (all_clauses_lack k lt (done ++ a ∷ []) rest (e ∙ sym (append_assoc done (a ∷ []) rest)) lacks.1))

  mapped : (k : ℕ) (cs : List Clause) → Each (λ (c : Clause). occurs_in k (formula_of c) ≡ false) cs → LackAll k (map formula_of cs)
  mapped k [] h = tt
  mapped k (c ∷ cs) h = (h.0, mapped k cs h.1)

  -- Nothing is done.
  pub none_passed : (o : Opening) → o.next ≡ start → o.choices ≡ [] → o.facts ≡ [] → o.pending ≡ [] → HavePassed start first w wanted (ParentsStand parents) [] o
  none_passed o en ec ef ep = record {
    next = en;
    choose = subst AreChoices (sym ec) tt;
    enter = λ u e fresh. subst (Enters u) (sym ec) (enters_none u);
    speak = λ k lacks outside. subst (λ (es : List Entry). AllLack k (formulas_told w es)) (sym ec) (All-nil (λ a. occurs_in k a ≡ false));
    forms = [];
    count = ap length ef;
    forms_sorted = tt;
    forms_speak = λ k lacks outside. tt;
    facts = λ s e given added. subst (λ (ps : List Proof). ShowEach s ps []) (sym ef) tt;
    pending = subst (λ (xs : List (Option Pending)). AreWanted (IsPendingOn []) (take (length xs) wanted) [] xs) (sym ep) tt;
  }

  -- One parent more, and the negation of the line.
  module _ (i : ℕ) (p : Parent) (lt : i < length parents) (is : p ≡ get_or parents i p) where
    abbrev before : List Form
    before = forms_of (take i parents)

    abbrev behind : List Form
    behind = forms_of (drop (suc i) parents) ++ Not line ∷ []

    split : forms ≡ before ++ p.form ∷ behind
    split =
        let whole : parents ≡ take i parents ++ p ∷ drop (suc i) parents = whole_from parents i p lt is in
        let mapped_whole : forms_of parents ≡ before ++ p.form ∷ forms_of (drop (suc i) parents) = ap forms_of whole ∙ map-append (λ (q : Parent). q.form) (take i parents) (p ∷ drop (suc i) parents) in
        ap (λ (fs : List Form). fs ++ Not line ∷ []) mapped_whole ∙ append_assoc before (p.form ∷ forms_of (drop (suc i) parents)) (Not line ∷ [])

    one_further : before ++ p.form ∷ [] ≡ forms_of (take (i + 1) parents)
    one_further =
        let more : take (i + 1) parents ≡ take i parents ++ p ∷ [] = take_more parents i p lt ∙ ap (λ (q : Parent). take i parents ++ q ∷ []) (sym is) in
        sym (ap forms_of more ∙ map-append (λ (q : Parent). q.form) (take i parents) (p ∷ []))

    module _ (o : Opening) (so : HavePassed start first w wanted (ParentsStand parents) before o) where
      place_is : length o.pending ≡ length (clauses_from start before)
      place_is = sym (as_many_clauses (IsPendingOn so.forms) (take (length o.pending) wanted) (clauses_from start before) o.pending so.pending)

      pub parent_may : (v : Vocabulary) × MayPass v p.form o.next (length o.pending) wanted
      parent_may = (w, may_pass t.vocabulary w forms wanted may_open before behind p.form split o.next (length o.pending) so.next place_is)

      pub parent_passed : (n : Opening) (m : ℕ) → m ≡ first → Passes (Some p.number) p.form m wanted o n → HavePassed start first w wanted (ParentsStand parents) (forms_of (take (i + 1) parents)) n
      parent_passed n m em passes =
          let passes' : Passes (Some p.number) p.form first wanted o n = subst (λ (k : ℕ). Passes (Some p.number) p.form k wanted o n) em passes in
          let there : (s : Statements) → AreOfTheory s parents → slice_get s.formulas p.number ≡ Some p.form = λ s all. subst (λ (q : Parent). slice_get s.formulas q.number ≡ Some q.form) (sym is) (all i p lt) in
          subst (λ (fs : List Form). HavePassed start first w wanted (ParentsStand parents) fs n) one_further
          (one_passed t.vocabulary w forms wanted may_open before behind p.form split first (ParentsStand parents) (ParentsStand parents) (Some p.number) o n so passes' (λ s all. all) there)

  module _ (i : ℕ) (o : Opening) (so : HavePassed start first w wanted (ParentsStand parents) (forms_of (take i parents)) o) (end : length parents ≤ i) where
    all_done : forms_of (take i parents) ≡ forms_of parents
    all_done = ap forms_of (take_all parents i end)

    parents_done : HavePassed start first w wanted (ParentsStand parents) (forms_of parents) o
    parents_done = subst (λ (fs : List Form). HavePassed start first w wanted (ParentsStand parents) fs o) all_done so

    pub line_may : (a : Form) → a ≡ Not line → (v : Vocabulary) × MayPass v a o.next (length o.pending) wanted
    line_may a ea =
        let place : length o.pending ≡ length (clauses_from start (forms_of parents)) =
        sym (as_many_clauses (IsPendingOn parents_done.forms) (take (length o.pending) wanted) (clauses_from start (forms_of parents)) o.pending parents_done.pending) in
        (w, subst (λ (b : Form). MayPass w b o.next (length o.pending) wanted) (sym ea) (may_pass t.vocabulary w forms wanted may_open (forms_of parents) [] (Not line) refl o.next (length o.pending) parents_done.next place))

    pub line_passed : (a : Form) → a ≡ Not line → (n : Opening) (m : ℕ) → m ≡ first → Passes None a m wanted o n → HavePassed start first w wanted (AllStand parents line first) forms n
    line_passed a ea n m em passes =
        let passes' : Passes None (Not line) first wanted o n = subst (λ (b : Form). Passes None b first wanted o n) ea (subst (λ (k : ℕ). Passes None a k wanted o n) em passes) in
        one_passed t.vocabulary w forms wanted may_open (forms_of parents) [] (Not line) refl first (ParentsStand parents) (AllStand parents line first) None o n parents_done passes' (λ s all. all.0) (λ s all. all.1)

  module _ (o : Opening) (so : HavePassed start first w wanted (AllStand parents line first) forms o) (number : ℕ) (en : number ≡ first + length o.choices + 1) (proofs : List (Option Proof))
      (ep : proofs ≡ map (option_map (cited number)) o.pending) where
    abbrev made : OpenedInputs
    made = record { choices = o.choices; facts = o.facts; proofs = proofs }

    all_marks : take (length o.pending) wanted ≡ wanted
    all_marks =
        let count : length (clauses_from start forms) ≡ length o.pending = as_many_clauses (IsPendingOn so.forms) (take (length o.pending) wanted) (clauses_from start forms) o.pending so.pending in
        ap (λ (m : ℕ). take m wanted) (sym count ∙ sym asked.marks) ∙ take-length wanted

    clauses_shown : (s : Statements) → s.vocabulary ≡ w → StandFrom s (first + length o.choices + 1) so.forms → AreWanted (ShowsClause s) wanted (clauses_from start forms) proofs
    clauses_shown s e stand =
        let sorted : Each (Sorted s.vocabulary []) so.forms = subst (λ (v : Vocabulary). Each (Sorted v []) so.forms) (sym e) so.forms_sorted in
        let pending : AreWanted (IsPendingOn so.forms) wanted (clauses_from start forms) o.pending = subst (λ (ws : List Bool). AreWanted (IsPendingOn so.forms) ws (clauses_from start forms) o.pending) all_marks so.pending in
        let stand' : StandFrom s number so.forms = subst (λ (n : ℕ). StandFrom s n so.forms) (sym en) stand in
        subst (AreWanted (ShowsClause s) wanted (clauses_from start forms)) (sym ep) (all_cited s number so.forms sorted stand' wanted (clauses_from start forms) o.pending pending)

    pub are_opened : AreOpened t parents line wanted made
    are_opened = record {
      choose = so.choose;
      enter = λ u h. so.enter (with_functions u parents line) (vocabulary_is u h) (new_is_fresh u h);
      speak = λ u h k lt fresh off. so.speak k (forms_lack u h k fresh off) (inl (old k u h lt));
      forms = so.forms;
      forms_speak = λ u h k lt fresh off. All-from_recursion (λ (a : Form). occurs_in k a ≡ false) so.forms (so.forms_speak k (forms_lack u h k fresh off) (inl (old k u h lt)));
      clauses_speak = λ u h k lt fresh off.
          All-from_recursion (λ (a : Form). occurs_in k a ≡ false) (map formula_of (clauses_from start forms)) (mapped k (clauses_from start forms) (all_clauses_lack u h k (old k u h lt) [] forms refl (forms_lack u h k fresh off)));
      facts = λ s is. so.facts s is.vocabulary (is.parents_stand, is.denied) is.added;
      clauses = clauses_shown;
    } where
      old : (k : ℕ) (u : Statements) → HasCited t (numbers_of parents) u → k < length u.vocabulary.symbols → k < start
      old k u h lt = subst (λ (v : Vocabulary). k < length v.symbols) h.vocabulary lt
