-- A clause that is printed follows by `cover` from the line that it is of: the given formula, or that with new functions.
use Rattle.std.specs.Prelude.{ℕ, suc, ◌≡◌, ◌+◌, ◌-◌, ◌<◌, ◌≤◌, nat_lt, Bool, true, false, if◌then◌else◌, List, [], ◌∷◌, length, map, get_or, Some, slice_get, refl}
use Rattle.std.specs.List.{AllByRecursion}
use Rattle.std.proofs.Common.{ap, sym, subst, ◌∙◌, arith, inl, inr}
use Rattle.std.proofs.lemmas.Bool.{lt-ltb}
use Rattle.fof_terms.specs.declared.form.Form.{Form}
use Rattle.fof_terms.specs.Occurs.{occurs_in}
use Rattle.fof_terms.specs.Vocabulary.{Vocabulary}
use Rattle.fof_terms.proofs.LiftingLaws.{below_or_above}
use Rattle.clause_form.specs.declared.clause.AtomOf.TheVariants.{False}
use Rattle.clause_form.specs.declared.clause.Clause.{Clause}
use Rattle.clause_form.specs.ClauseView.{IsLoneFalsehood}
use Rattle.clause_form.specs.ClauseWays.{IsIn}
use Rattle.clause_form.specs.Clauses.{clauses_in, skolemized}
use Rattle.clause_form.specs.Norm.{node, norm_of}
use Rattle.clause_form.specs.Paths.{is_plain}
use Rattle.clause_form.specs.Sizes.{norm_size_of}
use Rattle.clause_rules.specs.CoverRule.{IsCoverStep}
use Rattle.clause_rules.specs.Steps.{IsReady}
use Rattle.derivation_items.specs.Words.{Text}
use Rattle.given_parts.specs.Numbers.{firsts_from, numbers_from}
use Rattle.given_parts.specs.Parts.{parts_of}
use Rattle.input_proofs.proofs.Literals.{IsPlain, all_plain}
use Rattle.printed_clauses.specs.Renumbered.{new_number, renumbered_clause}
use Rattle.printed_steps.specs.Carried.{HasItsVariables}
use Rattle.printed_steps.specs.Printed.{printed}
use Rattle.printed_steps.proofs.Owning.{renumbered_own}
use Rattle.printed_steps.proofs.Plain.{plain_skolemized}
use Rattle.printed_steps.proofs.Reaching.{listed_covered}
use Rattle.proof_check.proofs.InVocabulary.{stays_inside}
use Rattle.refutation_lines.specs.Names.{has_some}
use Rattle.skolem_fresh.proofs.SkolemSteps.{norm_within}
use Rattle.sort_check.specs.declared.line.GivenEntry.{GivenEntry}
use Rattle.step_clauses.specs.Existentials.{existentials}
use Rattle.step_clauses.specs.code.Counts.{some_count}
use Rattle.step_clauses.specs.declared.existentials.Existential.{Existential}
use Rattle.step_clauses.proofs.ExistentialsFacts.{counted, existentials_within-And, existentials_within-Or}
use Rattle.verifier.specs.Good.{without_numbers}
use Rattle.verifier.specs.Lines.{numbered}
use Rattle.derivation_sentences.proofs.Linked.{ex_of}
use Rattle.skolemized_lines.proofs.Loose.{IsFilled}
use Rattle.skolemized_lines.proofs.Making.{made_clauses}
use Rattle.skolemized_lines.proofs.Moving.{clauses_become}
use Rattle.skolemized_lines.proofs.Numbers.{IsOfPart, new_behind}
use Rattle.skolemized_lines.proofs.Skolems.{skolem_small}

-- ---- members of lists

mapped_in : {X Y : Type 0} (f : X → Y) (x : X) (xs : List X) → IsIn x xs → IsIn (f x) (map f xs)
mapped_in f x [] h = absurd h
mapped_in f x (y ∷ xs) (inl e) = inl (ap f e)
mapped_in f x (y ∷ xs) (inr h) = inr (mapped_in f x xs h)

one_in : {X : Type 0} (P : X → Type 0) (x : X) (xs : List X) → AllByRecursion P xs → IsIn x xs → P x
one_in P x [] all h = absurd h
one_in P x (y ∷ xs) all (inl e) = subst P (sym e) all.0
one_in P x (y ∷ xs) all (inr h) = one_in P x xs all.1 h

-- no clause of a formula is falsehood alone
proper_in : (a : Form) (c : Clause) → IsIn c (clauses_in a) → IsLoneFalsehood c → ⊥
proper_in a c listed lone =
    let plain : AllByRecursion IsPlain c.lits = one_in (λ (d : Clause). AllByRecursion IsPlain d.lits) c (clauses_in a) (all_plain a) listed in
    let first : is_plain False ≡ true = (subst (AllByRecursion IsPlain) lone plain).0 in
    cc

-- ---- existential quantifiers

none_there : (places : List Existential) → has_some places ≡ false → places ≡ []
none_there [] e = refl
none_there (x ∷ places) e = absurd (let clash : true ≡ false = sym (some_there (length places)) ∙ e in cc)
  where
    some_there : (n : ℕ) → nat_lt 0 (suc n) ≡ true
    some_there n = lt-ltb 0 (suc n) (omega arith)

no_places : (g : Bool) → existentials (node g []) ≡ []
no_places true = existentials_within-And [] []
no_places false = existentials_within-Or [] []

some_filled : (a : Form) → has_some (existentials a) ≡ true → IsFilled a
some_filled a some g e = let clash : true ≡ false = sym some ∙ ap (λ (b : Form). has_some (existentials b)) e ∙ ap has_some (no_places g) in cc

-- ---- a part

module _ (v : Vocabulary) (given : List GivenEntry) (used : List Bool) (prefix : Text) where
  abbrev start : ℕ
  start = length v.symbols

  abbrev pub numbers : List ℕ
  numbers = numbers_from start used (parts_of given)

  abbrev pub number : ℕ → ℕ
  number = new_number start numbers

  abbrev pub first_of : ℕ → ℕ
  first_of q = get_or (firsts_from start used (parts_of given)) q 0

  -- the formula of the line that the clauses of a part are of
  abbrev pub opened_form : ℕ → GivenEntry → Form
  opened_form q g = if has_some (ex_of g) then skolemized (norm_of true g.form) (first_of q) else g.form

  module _ (g : GivenEntry) (ready : IsReady v g.form) (small : norm_size_of g.form ≤ 100000) where
    -- a symbol behind those of the problem does not occur
    pub norm_lacks : (f : ℕ) → start ≤ f → occurs_in f (norm_of true g.form) ≡ false
    norm_lacks f behind = stays_inside v f behind (norm_of true g.form) (norm_within v g.form (norm_of true g.form) ready (record { small = small; same = refl })).sorted

    norm_keeps : (f : ℕ) → occurs_in f (norm_of true g.form) ≡ true → number f ≡ f
    norm_keeps f occurs = elim (below_or_above f start) [
      | inl below ↦ ap (λ (b : Bool). if b then f else get_or numbers (f - start) f) (lt-ltb f start below)
      | inr above ↦ absurd (let clash : true ≡ false = sym occurs ∙ norm_lacks f above in cc)
    ]

    module _ (q : ℕ) (there : slice_get given q ≡ Some g) (marked : slice_get used q ≡ Some true) (front : ℕ) (numbered_so : (j other : ℕ) → j < length (ex_of g) → get_or numbers (front + j) other ≡ first_of q + j) where
      abbrev norm : Form
      norm = norm_of true g.form

      shifts : (j : ℕ) → j < some_count norm → number (start + front + j) ≡ first_of q + j
      shifts j lt =
          let same : start + front + j ≡ start + (front + j) = omega arith in
          let count : length (ex_of g) ≡ some_count norm = counted norm [] in
          ap number same ∙ new_behind start numbers (front + j) ∙ numbered_so j (start + (front + j)) (omega (arith, count, lt))

      -- the clause, with the derivation's functions, is one of the formula with these functions
      listed_so : (c : Clause) → IsIn c (clauses_in (skolemized norm (start + front))) → IsIn (renumbered_clause number c) (clauses_in (skolemized norm (first_of q)))
      listed_so c listed =
          subst (IsIn (renumbered_clause number c)) (sym (clauses_become number norm (start + front) (first_of q) norm_keeps shifts))
          (mapped_in (renumbered_clause number) c (clauses_in (skolemized norm (start + front))) listed)

      covered : (u : Vocabulary) (c : Clause) → HasItsVariables c → IsIn c (clauses_in (skolemized norm (start + front))) → IsCoverStep u (without_numbers (opened_form q g ∷ [])) (printed number c)
      covered u c own listed = by (has_some (ex_of g)) refl
        where
          made : IsIn (renumbered_clause number c) (clauses_in (skolemized norm (first_of q)))
          made = listed_so c listed

          by : (b : Bool) → has_some (ex_of g) ≡ b → IsCoverStep u (without_numbers ((if b then skolemized norm (first_of q) else g.form) ∷ [])) (printed number c)
          by true some =
              listed_covered u (renumbered_clause number c) (renumbered_own number c own) (without_numbers (skolemized norm (first_of q) ∷ [])) 0 (numbered 0 (skolemized norm (first_of q))) refl (skolem_small v given used prefix q g ready marked there small)
              (subst (IsIn (renumbered_clause number c)) (sym (made_clauses g.form (first_of q) (some_filled norm some))) made) (proper_in (skolemized norm (first_of q)) (renumbered_clause number c) made)
          by false empty =
              listed_covered u (renumbered_clause number c) (renumbered_own number c own) (without_numbers (g.form ∷ [])) 0 (numbered 0 g.form) refl small
              (subst (λ (a : Form). IsIn (renumbered_clause number c) (clauses_in a)) (plain_skolemized norm (first_of q) (none_there (ex_of g) empty)) made)
              (proper_in (skolemized norm (first_of q)) (renumbered_clause number c) made)

  -- a clause of a part follows from its line
  pub part_covered : (u : Vocabulary) (owner : ℕ) (c : Clause) (p : IsOfPart given used start start owner 0 c) → IsReady v p.entry.form → norm_size_of p.entry.form ≤ 100000 → length used ≡ length given → slice_get used p.part ≡ Some true → HasItsVariables c
      → IsCoverStep u (without_numbers (opened_form p.part p.entry ∷ [])) (printed number c)
  part_covered u owner c p ready small long marked own = covered p.entry ready small p.part p.there marked p.front (p.numbered long) u c own p.listed
