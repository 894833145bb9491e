-- The entries of a line that puts functions in place of a parent's existential variables.
use Rattle.std.specs.Prelude.{ℕ, ◌≡◌, ◌<◌, ◌≤◌, true, false, List, [], ◌∷◌, ◌++◌, length, get_or, slice_get, Option, Some, refl}
use Rattle.std.specs.List.{AllByRecursion as Each, All as Every}
use Rattle.std.specs.Option.{option_map}
use Rattle.std.proofs.Common.{ap, sym, subst, ◌∙◌, arith, append_assoc, zero, suc}
use Rattle.std.proofs.lemmas.List.{append-nil, length-map}
use Rattle.std.proofs.lemmas.Option.{slice_get-map, slice_get-get_or, slice_get_within}
use Rattle.fof_terms.specs.declared.form.Form.{Form, Imp}
use Rattle.fof_terms.specs.Occurs.{occurs_in}
use Rattle.fof_terms.specs.Sorts.{SortedTo, Sorted}
use Rattle.fof_terms.proofs.Scoped.{raised}
use Rattle.fof_terms.specs.Vocabulary.{Vocabulary}
use Rattle.clause_form.specs.declared.path.Parent.{Parent}
use Rattle.clause_form.specs.Norm.{norm_of, HasNorm}
use Rattle.clause_form.proofs.NormSize.{norm_small}
use Rattle.clause_form.specs.Sizes.{norm_size_of}
use Rattle.kernel.specs.Statements.{Statements}
use Rattle.kernel.specs.Proves.{Proves}
use Rattle.kernel.proofs.Building.{by_line, by_imp_e}
use Rattle.kernel.specs.Entries.{IsFresh, Admits, with_formula}
use Rattle.kernel.proofs.EntryLaws.{admits_more}
use Rattle.kernel.specs.declared.proof.Proof.{Proof, Line, ImpE}
use Rattle.kernel.specs.declared.entry.Entry.{Entry}
use Rattle.kernel.specs.declared.entry.Entry.TheVariants.{Lemma}
use Rattle.derive_kit.specs.Derived.{AreOfTheory, numbers_of, HasCited, Adds, IsDerivedFrom, with_formulas}
use Rattle.norm_proofs.specs.Placed.{SortedSomewhere}
use Rattle.skolem_fresh.specs.declared.just.Use.{Use}
use Rattle.skolem_fresh.specs.declared.just.SkolemJust.{SkolemJust}
use Rattle.skolem_fresh.specs.declared.just.SkolemJust.TheVariants.{Skolem, Choice}
use Rattle.skolem_fresh.specs.Choosing.{IsWithin}
use Rattle.skolem_fresh.specs.Entered.{formulas_told}
use Rattle.skolem_fresh.specs.Justified.{ShowsSkolem}
use Rattle.clause_form.specs.Paths.{forms_of}
use Rattle.skolem_fresh.specs.SkolemRule.{IsSkolemized, Skolemizes}
use Rattle.skolem_fresh.specs.Uses.{AreNew}
use Rattle.skolem_fresh.proofs.Skolemized.{depth_kept}
use Rattle.skolem_fresh.proofs.SkolemSteps.{norm_within}
use Rattle.skolem_proofs.specs.declared.whole.Skolemized.{Skolemized}
use Rattle.skolem_proofs.specs.Choosing.{AreAbsent, ChooseAndEnd, IsWitnessedBy}
use Rattle.skolem_proofs.specs.code.Leading.{LeadsToLine}
use Rattle.skolem_proofs.proofs.Lacking.{norm_lacks}
use Rattle.skolem_proofs.proofs.Standing.{fits_kept, no_larger, are_others}

-- what a proof between a formula and its normal form shows
abbrev Forth : Form → Proof → Type 0
Forth a p = (t : Statements) (v : List ℕ) (h : List Form) → length v ≤ 1000000000 → Sorted t.vocabulary v a → Proves t v h p (Imp a (norm_of true a))

abbrev Back : Form → Proof → Type 0
Back a p = (t : Statements) (v : List ℕ) (h : List Form) → length v ≤ 1000000000 → Sorted t.vocabulary v a → Proves t v h p (Imp (norm_of true a) a)

-- what is made shows what the implication says of what the part shows
abbrev Applies : Proof → Proof → Proof → Type 0
Applies implication part made = (t : Statements) (v : List ℕ) (h : List Form) (a b : Form) → Proves t v h implication (Imp a b) → Proves t v h part a → Proves t v h made b

-- the proof of the line, as code makes it
pub line_shown : (parent : Parent) (form line : Form) (part cited first norm made second normed third whole : Proof) → cited ≡ Line parent.number → Forth parent.form first → Applies first cited norm → made ≡ ImpE part norm → Forth form second → Applies second made normed → Back line third
    → Applies third normed whole → LeadsToLine parent form line part whole
line_shown parent form line part cited first norm made second normed third whole ec f en em s ed b ew t sp sf sl at same shown =
    let one : Proves t [] [] cited parent.form = subst (λ p. Proves t [] [] p parent.form) (sym ec) (by_line t [] [] parent.number parent.form sp at) in
    let two : Proves t [] [] norm (norm_of true parent.form) = en t [] [] parent.form (norm_of true parent.form) (f t [] [] (omega arith) sp) one in
    let three : Proves t [] [] made form = subst (λ p. Proves t [] [] p form) (sym em) (by_imp_e t [] [] part norm (norm_of true parent.form) form shown two) in
    let four : Proves t [] [] normed (norm_of true form) = ed t [] [] form (norm_of true form) (s t [] [] (omega arith) sf) three in
    let five : Proves t [] [] normed (norm_of true line) = subst (λ a. Proves t [] [] normed a) (sym same) four in
    ew t [] [] (norm_of true line) line (b t [] [] (omega arith) sl) five

-- what a list has at a place, it has there with more behind it
still_there : {X : Type 0} (xs ys : List X) (k : ℕ) (x : X) → slice_get xs k ≡ Some x → slice_get (xs ++ ys) k ≡ Some x
still_there [] ys k x e = cc
still_there (y ∷ xs) ys zero x e = e
still_there (y ∷ xs) ys (suc k) x e = still_there xs ys k x e

lacks_at : (k : ℕ) (fs : List Form) (n : ℕ) (a : Form) → Every (λ b. occurs_in k b ≡ false) fs → slice_get fs n ≡ Some a → occurs_in k a ≡ false
lacks_at k fs n a all at =
    let lt = slice_get_within fs n a at in
    let here : Some (get_or fs n a) ≡ Some a = sym (slice_get-get_or fs n a lt) ∙ at in
    let same : get_or fs n a ≡ a = cc in
    subst (λ b. occurs_in k b ≡ false) same (all n a lt)

one_parent : (p q : Form) (r : Option Form) → r ≡ Some p → r ≡ Some q → p ≡ q
one_parent p q r e f = cc

pub somewhere : (v : Vocabulary) (a : Form) → SortedTo 1000000000 v [] a → SortedSomewhere a
somewhere v a s = (v, [], omega arith, raised v [] 1000000000 2147483647 a (omega arith) s)

-- as code meets the justification
pub shown_by : (t : Statements) (parents : List Parent) (line : Form) (just : SkolemJust) (i : ℕ) (uses slice : List Use) → just ≡ Skolem i uses → slice ≡ uses → ShowsSkolem t (forms_of parents) line just → ShowsSkolem t (forms_of parents) line (Skolem i slice)
shown_by t parents line just i uses slice ej es h = subst (λ us. ShowsSkolem t (forms_of parents) line (Skolem i us)) (sym es) (subst (ShowsSkolem t (forms_of parents) line) ej h)

pub is_skolem : (t : Statements) (parents : List Form) (line : Form) (just : SkolemJust) → ShowsSkolem t parents line just → ((i : ℕ) (uses : List Use) → just ≡ Skolem i uses → ⊥) → ⊥
is_skolem t parents line (Skolem i uses) h none = none i uses refl
is_skolem t parents line (Choice uses) h none = h

module _ (t : Statements) (parents : List Parent) (line : Form) (i : ℕ) (uses : List Use) (shows : ShowsSkolem t (forms_of parents) line (Skolem i uses)) where
  pub there : i < length parents
  there =
      let lt = slice_get_within (forms_of parents) i shows.0 shows.3 in
      let same : length (forms_of parents) ≡ length parents = length-map parents (λ (p : Parent). p.form) in
      omega arith

  module _ (p : Parent) (is : p ≡ get_or parents i p) where
    parent_at : slice_get parents i ≡ Some p
    parent_at = slice_get-get_or parents i p there ∙ ap Some (sym is)

    form_is : shows.0 ≡ p.form
    form_is = one_parent shows.0 p.form (slice_get (forms_of parents) i) shows.3 (slice_get-map (λ (q : Parent). q.form) parents i ∙ ap (option_map (λ (q : Parent). q.form)) parent_at)

    abbrev result : Form
    result = shows.2

    given : Skolemizes t p.form line shows.1 result uses
    given = subst (λ a. Skolemizes t a line shows.1 result uses) form_is shows.4

    module _ (norm : Form) (en : norm ≡ norm_of true p.form) where
      norm_is : shows.1 ≡ norm
      norm_is = sym given.of_parent.same ∙ sym en

      replaced : IsSkolemized t.vocabulary [] uses norm result
      replaced = subst (λ a. IsSkolemized t.vocabulary [] uses a result) norm_is given.replaced

      has : HasNorm p.form norm
      has = record { small = given.of_parent.small; same = sym en }

      pub parent_small : norm_size_of p.form ≤ 100000
      parent_small = given.of_parent.small

      pub small : norm_size_of norm ≤ 100000
      small = let less = norm_small p.form true in let same = ap norm_size_of en in omega (arith, parent_small)

      pub line_small : norm_size_of line ≤ 100000
      line_small = given.of_line.small

      module _ (ready : SortedTo 1000000000 t.vocabulary [] p.form) where
        within : IsWithin t.vocabulary [] norm
        within = norm_within t.vocabulary p.form norm ready has

        pub fits : (v : Vocabulary) × (scope : List ℕ) × (b : Form) × IsWithin v scope norm × IsSkolemized v scope uses norm b
        fits = (t.vocabulary, [], result, within, replaced)

        result_sorted : Sorted t.vocabulary [] result
        result_sorted = record {
          scope_fits = within.sorted.scope_fits;
          few_binders = omega (arith, depth_kept t.vocabulary [] uses norm result replaced, within.sorted.few_binders);
          fits = fits_kept t.vocabulary [] uses norm result replaced within.sorted.fits;
        }

        pub result_somewhere : (form : Form) → form ≡ result → SortedSomewhere form
        result_somewhere form e = (t.vocabulary, [], omega arith, subst (Sorted t.vocabulary []) (sym e) result_sorted)

        pub result_small : (form : Form) → form ≡ result → norm_size_of form ≤ 100000
        result_small form e = let less = no_larger t.vocabulary [] uses norm result replaced in let same = ap norm_size_of e in omega (arith, small)

        module _ (n : ℕ) (made : Skolemized) (by : IsWitnessedBy uses norm n made) (lined : SortedTo 1000000000 t.vocabulary [] line) where
          pub form_made : made.form ≡ result
          form_made = by.form t.vocabulary [] result replaced

          pub choose_and_end : (just : SkolemJust) (whole : Proof) (entries : List Entry) → just ≡ Skolem i uses → entries ≡ made.choices ++ Lemma whole ∷ [] → ChooseAndEnd just entries
          choose_and_end just whole entries ej e = subst (λ j. ChooseAndEnd j entries) (sym ej) (made.choices, whole, e, by.choose t.vocabulary [] result replaced)

          module _ (all : AreOfTheory t parents) where
            stated : slice_get t.formulas p.number ≡ Some p.form
            stated = subst (λ (q : Parent). slice_get t.formulas q.number ≡ Some q.form) (sym is) (all i p there)

            norm_without : (k : ℕ) (w : Statements) → slice_get w.formulas p.number ≡ Some p.form → IsFresh k w → occurs_in k norm ≡ false
            norm_without k w at f = ap (occurs_in k) en ∙ norm_lacks k p.form true (lacks_at k w.formulas p.number p.form f at)

            all_absent : (us : List Use) → Each (λ (u : Use). IsFresh u.function t) us → AreAbsent norm us
            all_absent [] f = tt
            all_absent (u ∷ us) f = (norm_without u.function t stated f.0, all_absent us f.1)

            module _ (count : n ≡ length t.formulas) (u : Statements) (h : HasCited t (numbers_of parents) u) where
              cited : slice_get u.formulas p.number ≡ Some p.form
              cited =
                  let numbers : slice_get (numbers_of parents) i ≡ Some p.number = slice_get-map (λ (q : Parent). q.number) parents i ∙ ap (option_map (λ (q : Parent). q.number)) parent_at in
                  let lt = slice_get_within (numbers_of parents) i p.number numbers in
                  let here : Some (get_or (numbers_of parents) i p.number) ≡ Some p.number = sym (slice_get-get_or (numbers_of parents) i p.number lt) ∙ numbers in
                  let same : get_or (numbers_of parents) i p.number ≡ p.number = cc in
                  subst (λ m. slice_get u.formulas m ≡ slice_get t.formulas m) same (h.formulas i p.number lt) ∙ stated

              still_fresh : (us : List Use) → Each (λ (x : Use). IsFresh x.function t) us → Each (λ (x : Use). IsFresh x.function u) us
              still_fresh [] f = tt
              still_fresh (x ∷ us) f = (h.fresh x.function f.0, still_fresh us f.1)

              new_there : AreNew u uses
              new_there = record { distinct = given.new.distinct; fresh = still_fresh uses given.new.fresh }

              replaced_there : IsSkolemized u.vocabulary [] uses norm result
              replaced_there = subst (λ v. IsSkolemized v [] uses norm result) (sym h.vocabulary) replaced

              within_there : IsWithin u.vocabulary [] norm
              within_there = subst (λ v. IsWithin v [] norm) (sym h.vocabulary) within

              sorted_there : (a : Form) → SortedTo 1000000000 t.vocabulary [] a → Sorted u.vocabulary [] a
              sorted_there a s = subst (λ v. Sorted v [] a) (sym h.vocabulary) (raised t.vocabulary [] 1000000000 2147483647 a (omega arith) s)

              pub adds : (whole : Proof) → LeadsToLine p made.form line made.proof whole → Adds u (made.choices ++ Lemma whole ∷ []) (formulas_told t.vocabulary made.choices) line
              adds whole leads =
                  let fs = formulas_told u.vocabulary made.choices in
                  let e = by.enter u [] result replaced_there within_there new_there (all_absent uses given.new.fresh) in
                  let behind : u.formulas ++ fs ≡ u.formulas ++ (fs ++ []) = ap (λ (gs : List Form). u.formulas ++ gs) (sym (append-nil fs)) in
                  let added = e.stands (with_formulas u fs) refl u.formulas [] behind n (h.count ∙ sym count) in
                  let implied : Proves (with_formulas u fs) [] [] made.proof (Imp norm result) = by.shows (with_formulas u fs) [] [] [] result replaced_there (omega arith) within_there.sorted added in
                  let form_sorted : Sorted u.vocabulary [] result = subst (λ v. Sorted v [] result) (sym h.vocabulary) result_sorted in
                  let given_form : Proves (with_formulas u fs) [] [] made.proof (Imp (norm_of true p.form) made.form) = rw (sym en, form_made) implied in
                  let lines : norm_of true line ≡ norm_of true made.form = given.of_line.same ∙ ap (norm_of true) (sym form_made) in
                  let shown : Proves (with_formulas u fs) [] [] whole line =
                  leads (with_formulas u fs) (sorted_there p.form ready) (subst (Sorted u.vocabulary []) (sym form_made) form_sorted) (sorted_there line lined) (still_there u.formulas fs p.number p.form cited) lines given_form in
                  let last = admits_more u (with_formulas u fs) (with_formula (with_formulas u fs) line) made.choices (Lemma whole) e.admits (line, shown) (line, shown, refl) in
                  let same : fs ≡ formulas_told t.vocabulary made.choices = ap (λ v. formulas_told v made.choices) h.vocabulary in
                  let end : with_formula (with_formulas u fs) line ≡ with_formulas u (formulas_told t.vocabulary made.choices ++ line ∷ []) =
                  ap (λ (gs : List Form). record u { formulas = gs }) (append_assoc u.formulas fs (line ∷ []) ∙ ap (λ (gs : List Form). u.formulas ++ (gs ++ line ∷ [])) same) in
                  record {
                    legal = subst (Admits u (made.choices ++ Lemma whole ∷ [])) end last;
                    speak = λ k fresh off. by.speaks t.vocabulary [] result replaced k (norm_without k u cited fresh) (are_others t.vocabulary p.form norm result line uses has given.some replaced given.of_line k off);
                  }

            pub derived : (whole : Proof) (entries : List Entry) → n ≡ length t.formulas → LeadsToLine p made.form line made.proof whole → entries ≡ made.choices ++ Lemma whole ∷ [] → IsDerivedFrom t (numbers_of parents) entries line
            derived whole entries count leads e = record {
              first = made.choices;
              last = whole;
              is = e;
              before = formulas_told t.vocabulary made.choices;
              adds = λ u h. subst (λ (es : List Entry). Adds u es (formulas_told t.vocabulary made.choices) line) (sym e) (adds count u h whole leads);
            }
