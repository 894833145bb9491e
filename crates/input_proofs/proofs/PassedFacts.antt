-- One formula of the step more.
use Rattle.std.specs.Prelude.{ℕ, ◌≡◌, ◌+◌, ◌≤◌, Bool, true, false, List, [], ◌∷◌, ◌++◌, length, map, take, drop, Option, Some, None, slice_get}
use Rattle.std.specs.List.{AllByRecursion as Each}
use Rattle.std.proofs.Common.{ap, sym, subst, ◌∙◌, inl, inr, arith}
use Rattle.std.proofs.lemmas.List.{append-nil, length-append, length-drop, length-take-le, take-append-drop}
use Rattle.std.proofs.Math.Seq.{take-append-add}
use Rattle.std.proofs.lemmas.List.Elements.{All-append}
use Rattle.fof_terms.specs.declared.form.Form.{Form, Imp}
use Rattle.fof_terms.specs.Occurs.{occurs_in}
use Rattle.fof_terms.specs.Sorts.{Sorted, SortedTo}
use Rattle.fof_terms.specs.Vocabulary.{Vocabulary}
use Rattle.fof_terms.proofs.Scoped.{raised}
use Rattle.clause_form.specs.declared.clause.Clause.{Clause}
use Rattle.clause_form.specs.Clauses.{skolemized, clauses_in, clauses_of}
use Rattle.clause_form.specs.Norm.{norm_of}
use Rattle.clause_form.specs.Sizes.{norm_size_of, clause_count_of}
use Rattle.clause_form.proofs.NormSize.{norm_small}
use Rattle.kernel.specs.Entries.{IsFresh}
use Rattle.kernel.specs.Proves.{Proves}
use Rattle.kernel.specs.Statements.{Statements}
use Rattle.kernel.specs.declared.entry.Entry.{Entry}
use Rattle.kernel.specs.declared.proof.Proof.{Proof}
use Rattle.derive_kit.specs.Derived.{with_formulas}
use Rattle.skolem_fresh.specs.declared.just.Use.{Use}
use Rattle.skolem_fresh.specs.Choosing.{IsWithin}
use Rattle.skolem_fresh.specs.Entered.{formulas_told, Enters}
use Rattle.skolem_fresh.specs.SkolemRule.{IsSkolemized}
use Rattle.skolem_fresh.specs.Told.{AddedFrom}
use Rattle.skolem_fresh.proofs.Skolemized.{depth_kept}
use Rattle.skolem_proofs.specs.declared.whole.Skolemized.{Skolemized}
use Rattle.skolem_proofs.proofs.Lacking.{norm_lacks}
use Rattle.skolem_proofs.proofs.Standing.{fits_kept}
use Rattle.step_clauses.specs.Existentials.{existentials, ex_count}
use Rattle.step_clauses.specs.Inputs.{clauses_from}
use Rattle.step_clauses.specs.Skolems.{uses_of}
use Rattle.input_proofs.specs.Opened.{AreChoices, ShowEach}
use Rattle.input_proofs.specs.Wanted.{AreWanted}
use Rattle.input_proofs.specs.code.Passed.{IsLeftOut, IsTaken, Passes, own_of, number_in}
use Rattle.input_proofs.specs.code.Pending.{IsPending}
use Rattle.input_proofs.specs.declared.forms.Opening.{Opening}
use Rattle.input_proofs.specs.declared.pending.Pending.{Pending}
use Rattle.input_proofs.proofs.Entering.{choices_both, are_choices, formulas_both, added_first, added_then, enters_both}
use Rattle.input_proofs.proofs.FunctionsFacts.{each_function, distinct_functions, others_outside, sorted_lacks}
use Rattle.skolem_proofs.proofs.Others.{made_lacks}
use Rattle.input_proofs.proofs.Literals.{each_append}
use Rattle.input_proofs.proofs.Passed.{HavePassed, IsOutside, IsPendingOn, AllLack, number_after}
use Rattle.input_proofs.proofs.Steps.{MayOpen, after_both, after_more, clauses_both, grown_own, norm_in, own_sorted, own_small, own_skolemized, own_count, own_places}
use Rattle.input_proofs.proofs.WantedFacts.{wanted_append, as_many_marks, as_many_clauses, none_wanted, pending_further, pending_here}

take_both : {X : Type 0} (m n : ℕ) (xs : List X) → m ≤ length xs → take (m + n) xs ≡ take m xs ++ take n (drop m xs)
take_both m n xs le =
    let count : length (take m xs) ≡ m = length-take-le m xs le in
    let whole : take m xs ++ drop m xs ≡ xs = take-append-drop m xs in
    let added : take (length (take m xs) + n) (take m xs ++ drop m xs) ≡ take m xs ++ take n (drop m xs) = take-append-add (take m xs) (drop m xs) n in
    subst (λ k. take (k + n) xs ≡ take m xs ++ take n (drop m xs)) count (subst (λ ys. take (length (take m xs) + n) ys ≡ take m xs ++ take n (drop m xs)) whole added)

both_parts : {X : Type 0} (P : X → Type 0) (xs ys : List X) → Each P (xs ++ ys) → Each P xs × Each P ys
both_parts P [] ys h = (tt, h)
both_parts P (x ∷ xs) ys h = let parts = both_parts P xs ys h.1 in ((h.0, parts.0), parts.1)

shown_both : (s : Statements) (ps qs : List Proof) (as_ bs : List Form) → ShowEach s ps as_ → ShowEach s qs bs → ShowEach s (ps ++ qs) (as_ ++ bs)
shown_both s [] qs [] bs h g = g
shown_both s [] qs (a ∷ as_) bs h g = absurd h
shown_both s (p ∷ ps) qs [] bs h g = absurd h
shown_both s (p ∷ ps) qs (a ∷ as_) bs h g = (h.0, shown_both s ps qs as_ bs h.1 g)

module _ (v w : Vocabulary) (forms : List Form) (wanted : List Bool) (may : MayOpen v w forms wanted) (done rest : List Form) (a : Form) (is : forms ≡ done ++ a ∷ rest) where
  abbrev start : ℕ
  start = length v.symbols

  abbrev own_next : ℕ
  own_next = number_after start done

  abbrev norm : Form
  norm = norm_of true a

  abbrev result : Form
  result = skolemized norm own_next

  module _ (k : ℕ) (new : start ≤ k) where
    all_without : (xs : List Form) → Each (SortedTo 1000000000 v []) xs → Each (λ (x : Form). occurs_in k x ≡ false) xs
    all_without [] h = tt
    all_without (x ∷ xs) h = (sorted_lacks v k new x [] h.0.fits, all_without xs h.1)

    done_without : Each (λ (x : Form). occurs_in k x ≡ false) done
    done_without = all_without done (both_parts (SortedTo 1000000000 v []) done (a ∷ rest) (subst (Each (SortedTo 1000000000 v [])) is may.sorted)).0

    norm_without : occurs_in k norm ≡ false
    norm_without = norm_lacks k a true (sorted_lacks v k new a [] (own_sorted v w forms wanted may done rest a is).fits)

  norm_sorted : Sorted w [] norm
  norm_sorted = (norm_in v w forms wanted may done rest a is).sorted

  norm_few : norm_size_of norm ≤ 100000
  norm_few = let less = norm_small a true in let own = own_small v w forms wanted may done rest a is in omega arith

  module _ (first : ℕ) (Given Given' : Statements → ℕ → Type 0) (number : Option ℕ) (o n : Opening) (so : HavePassed start first w wanted Given done o) (p : Passes number a first wanted o n)
      (before : (s : Statements) → Given' s (length n.choices) → Given s (length o.choices)) (here : (s : Statements) → Given' s (length n.choices) → slice_get s.formulas (number_in number first (length n.choices)) ≡ Some a) where
    abbrev own : List Bool
    own = own_of a wanted o

    abbrev place : ℕ
    place = length o.pending

    its_place : place ≡ length (clauses_from start done)
    its_place = sym (as_many_clauses (IsPendingOn so.forms) (take place wanted) (clauses_from start done) o.pending so.pending)

    room : place + clause_count_of norm ≤ length wanted
    room = let places = own_places v w forms wanted may done rest a is in let at = its_place in omega (arith, may.marks)

    own_length : length own ≡ clause_count_of norm
    own_length = let all = length-drop place wanted in length-take-le (clause_count_of norm) (drop place wanted) (omega (arith, room))

    next_is : n.next ≡ number_after start (done ++ a ∷ [])
    next_is = p.next ∙ ap (λ (m : ℕ). m + ex_count norm) so.next ∙ sym (after_both start done (a ∷ []))

    not_less : start ≤ o.next
    not_less = let more = after_more start done in omega (arith, so.next)

    outside_before : (k : ℕ) → IsOutside start n.next k → IsOutside start o.next k
    outside_before k (inl lt) = inl lt
    outside_before k (inr le) = inr (omega (arith, p.next))

    pending_joined : (fs : List Form) (added : List (Option Pending)) → n.pending ≡ o.pending ++ added → AreWanted (IsPendingOn fs) (take place wanted) (clauses_from start done) o.pending → AreWanted (IsPendingOn fs) own (clauses_of a own_next) added
        → AreWanted (IsPendingOn fs) (take (length n.pending) wanted) (clauses_from start (done ++ a ∷ [])) n.pending
    pending_joined fs added e old new =
        let whole = wanted_append (IsPendingOn fs) (take place wanted) own (clauses_from start done) (clauses_of a own_next) o.pending added old new in
        let marks : length n.pending ≡ place + clause_count_of norm =
        ap length e ∙ length-append o.pending added ∙ ap (λ (m : ℕ). place + m) (sym (as_many_marks (IsPendingOn fs) own (clauses_of a own_next) added new) ∙ own_length) in
        let taken : take (length n.pending) wanted ≡ take place wanted ++ own = ap (λ (m : ℕ). take m wanted) marks ∙ take_both place (clause_count_of norm) wanted (omega (arith, room)) in
        let clauses : clauses_from start (done ++ a ∷ []) ≡ clauses_from start done ++ clauses_of a own_next =
        clauses_both start done (a ∷ []) ∙ ap (λ (cs : List Clause). clauses_from start done ++ cs) (append-nil (clauses_of a own_next)) in
        subst (AreWanted (IsPendingOn fs) (take (length n.pending) wanted) (clauses_from start (done ++ a ∷ []))) (sym e)
        (subst (λ (cs : List Clause). AreWanted (IsPendingOn fs) (take (length n.pending) wanted) cs (o.pending ++ added)) (sym clauses)
        (subst (λ (ws : List Bool). AreWanted (IsPendingOn fs) ws (clauses_from start done ++ clauses_of a own_next) (o.pending ++ added)) (sym taken) whole))

    left_out : IsLeftOut own o n → HavePassed start first w wanted Given' (done ++ a ∷ []) n
    left_out l = record {
      next = next_is;
      choose = subst AreChoices (sym l.choices) so.choose;
      enter = λ u e fresh. subst (Enters u) (sym l.choices) (so.enter u e fresh);
      speak = λ k lacks outside.
          subst (λ (es : List Entry). AllLack k (formulas_told w es)) (sym l.choices) (so.speak k (both_parts (λ (x : Form). occurs_in k x ≡ false) done (a ∷ []) lacks).0 (outside_before k outside));
      forms = so.forms;
      count = ap length l.facts ∙ so.count;
      forms_sorted = so.forms_sorted;
      forms_speak = λ k lacks outside. so.forms_speak k (both_parts (λ (x : Form). occurs_in k x ≡ false) done (a ∷ []) lacks).0 (outside_before k outside);
      facts = λ s e given added. subst (λ (ps : List Proof). ShowEach s ps so.forms) (sym l.facts) (so.facts s e (before s given) (subst (AddedFrom s first) l.choices added));
      pending =
          pending_joined so.forms (map (λ (b : Bool). None) own) l.pending so.pending
          (none_wanted (IsPendingOn so.forms) own (clauses_of a own_next) l.none (own_length ∙ sym (own_count v w forms wanted may done rest a is)));
    }

    module _ (k : IsTaken number a first own o n) where
      abbrev made : Skolemized
      made = k.made

      abbrev uses : List Use
      uses = uses_of norm o.next

      replaced : IsSkolemized w [] uses norm result
      replaced = subst (λ (m : ℕ). IsSkolemized w [] (uses_of norm m) norm result) (sym so.next) (own_skolemized v w forms wanted may done rest a is)

      replaced_in : (u : Vocabulary) → u ≡ w → IsSkolemized u [] uses norm result
      replaced_in u e = subst (λ (x : Vocabulary). IsSkolemized x [] uses norm result) (sym e) replaced

      form_is : made.form ≡ result
      form_is = k.by.form w [] result replaced

      made_sorted : Sorted w [] made.form
      made_sorted = subst (Sorted w []) (sym form_is) (record {
        scope_fits = norm_sorted.scope_fits;
        few_binders = let kept = depth_kept w [] uses norm result replaced in omega (arith, norm_sorted.few_binders);
        fits = fits_kept w [] uses norm result replaced norm_sorted.fits;
      })

      choices_is : n.choices ≡ o.choices ++ made.choices
      choices_is = k.is.choices

      its_others : (j : ℕ) → IsOutside start n.next j → IsOutside o.next (o.next + length (existentials norm)) j
      its_others j (inl lt) = inl (omega (arith, not_less))
      its_others j (inr le) = inr (omega (arith, p.next))

      enters : (u : Statements) → u.vocabulary ≡ w → ((j : ℕ) → start ≤ j → IsFresh j u) → Enters u n.choices
      enters u e fresh =
          let told = formulas_told u.vocabulary o.choices in
          let one = so.enter u e fresh in
          let new : (j : ℕ) → o.next ≤ j → IsFresh j (with_formulas u told) =
          λ j le. All-append (λ c. occurs_in j c ≡ false) u.formulas told (fresh j (omega (arith, not_less)))
          (subst (λ (x : Vocabulary). AllLack j (formulas_told x o.choices)) (sym e) (so.speak j (done_without j (omega (arith, not_less))) (inr le))) in
          let two : Enters (with_formulas u told) made.choices =
          k.by.enter (with_formulas u told) [] result (replaced_in u.vocabulary e) (subst (λ (x : Vocabulary). IsWithin x [] norm) (sym e) (norm_in v w forms wanted may done rest a is))
          (record { distinct = distinct_functions o.next (existentials norm); fresh = each_function (λ j. IsFresh j (with_formulas u told)) o.next (existentials norm) new })
          (each_function (λ j. occurs_in j norm ≡ false) o.next (existentials norm) (λ j le. norm_without j (omega (arith, not_less)))) in
          subst (Enters u) (sym choices_is) (enters_both u o.choices made.choices one two)

      speaks : (j : ℕ) → Each (λ (x : Form). occurs_in j x ≡ false) (done ++ a ∷ []) → IsOutside start n.next j → AllLack j (formulas_told w n.choices)
      speaks j lacks outside =
          let parts = both_parts (λ (x : Form). occurs_in j x ≡ false) done (a ∷ []) lacks in
          let all : formulas_told w n.choices ≡ formulas_told w o.choices ++ formulas_told w made.choices = ap (formulas_told w) choices_is ∙ formulas_both w o.choices made.choices in
          subst (AllLack j) (sym all)
          (All-append (λ c. occurs_in j c ≡ false) (formulas_told w o.choices) (formulas_told w made.choices) (so.speak j parts.0 (outside_before j outside))
          (k.by.speaks w [] result replaced j (norm_lacks j a true parts.1.0) (others_outside j o.next (existentials norm) (its_others j outside))))

      made_without : (j : ℕ) → occurs_in j a ≡ false → IsOutside start n.next j → occurs_in j made.form ≡ false
      made_without j off outside =
          ap (occurs_in j) form_is ∙ made_lacks j w [] uses norm result replaced (norm_lacks j a true off) (others_outside j o.next (existentials norm) (its_others j outside))

      shows : (s : Statements) → s.vocabulary ≡ w → Given' s (length n.choices) → AddedFrom s first n.choices → ShowEach s n.facts (so.forms ++ made.form ∷ [])
      shows s e given added =
          let both_added : AddedFrom s first (o.choices ++ made.choices) = subst (AddedFrom s first) choices_is added in
          let old = so.facts s e (before s given) (added_first s first o.choices made.choices both_added) in
          let sorted : Sorted s.vocabulary [] norm = subst (λ (x : Vocabulary). Sorted x [] norm) (sym e) norm_sorted in
          let implied : Proves s [] [] made.proof (Imp norm result) = k.by.shows s [] [] [] result (replaced_in s.vocabulary e) (omega arith) sorted (added_then s first o.choices made.choices both_added) in
          let implied_made : Proves s [] [] made.proof (Imp norm made.form) = subst (λ b. Proves s [] [] made.proof (Imp norm b)) (sym form_is) implied in
          let own_form : Sorted s.vocabulary [] a = subst (λ (x : Vocabulary). Sorted x [] a) (sym e) (raised w [] 1000000000 2147483647 a (omega arith) (grown_own v w forms wanted may done rest a is)) in
          let fact = k.is.linked s made.form own_form (here s given) implied_made in
          subst (λ (ps : List Proof). ShowEach s ps (so.forms ++ made.form ∷ [])) (sym k.is.facts) (shown_both s o.facts (k.is.fact ∷ []) so.forms (made.form ∷ []) old (fact, tt))

      its_clauses : clauses_in made.form ≡ clauses_of a own_next
      its_clauses = ap clauses_in form_is

      taken : HavePassed start first w wanted Given' (done ++ a ∷ []) n
      taken = record {
        next = next_is;
        choose = subst AreChoices (sym choices_is) (choices_both o.choices made.choices so.choose (are_choices uses made.choices (k.by.choose w [] result replaced)));
        enter = enters;
        speak = speaks;
        forms = so.forms ++ made.form ∷ [];
        count = ap length k.is.facts ∙ length-append o.facts (k.is.fact ∷ []) ∙ ap (λ (m : ℕ). m + 1) so.count ∙ sym (length-append so.forms (made.form ∷ []));
        forms_sorted = each_append (Sorted w []) so.forms (made.form ∷ []) so.forms_sorted (made_sorted, tt);
        forms_speak = λ j lacks outside.
            let parts = both_parts (λ (x : Form). occurs_in j x ≡ false) done (a ∷ []) lacks in
            each_append (λ (x : Form). occurs_in j x ≡ false) so.forms (made.form ∷ []) (so.forms_speak j parts.0 (outside_before j outside)) (made_without j parts.1.0 outside, tt);
        facts = shows;
        pending =
            pending_joined (so.forms ++ made.form ∷ []) k.is.added k.is.pending (pending_further so.forms made.form (take place wanted) (clauses_from start done) o.pending so.pending)
            (pending_here so.forms made.form (length o.facts) so.count own (clauses_of a own_next) k.is.added (subst (λ (cs : List Clause). AreWanted (IsPending (length o.facts) made.form) own cs k.is.added) its_clauses k.is.are));
      }

    pub one_passed : HavePassed start first w wanted Given' (done ++ a ∷ []) n
    one_passed = elim p.how [
      | inl l ↦ left_out l
      | inr t ↦ taken t
    ]
