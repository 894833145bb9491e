-- What an answer says of the line that it accepts: a rule gives it, or it is found where none does.
use Rattle.std.proofs.Common.{◌≡◌, ◌⊎◌, inl, inr, ℕ, ◌<◌, Bool, true, false, List, [], ◌∷◌, ◌++◌, length, Some, slice_get, refl, sym, ◌∙◌, ap, subst, arith, length-append}
use Rattle.fof_terms.specs.SortLaws.{Grows}
use Rattle.fof_terms.specs.Vocabulary.{Vocabulary}
use Rattle.fof_terms.specs.declared.form.Form.{Form}
use Rattle.clause_form.specs.declared.path.Parent.{Parent}
use Rattle.kernel.specs.Statements.{Statements}
use Rattle.kernel.specs.Entries.{Admits, After, naming, choice}
use Rattle.kernel.specs.declared.entry.Entry.{Entry}
use Rattle.kernel.specs.declared.entry.Entry.TheVariants.{Declare, Lemma, Name, Choice}
use Rattle.kernel.specs.declared.entry.Decl.TheVariants as decl
use Rattle.derive_kit.specs.Derived.{IsDerivedFrom, numbers_of, with_formulas}
use Rattle.derive_kit.proofs.DerivedFacts.{derived_adds, has_its_own}
use Rattle.elaborate.specs.ByRule.{ByRule, ByNone, LeafRule, ByNoLeafRule}
use Rattle.elaborate.specs.Answers.{IsDecidedFrom, IsFoundFrom, IsSearchAnswer}
use Rattle.elaborate.specs.declared.answer.Reason.{Reason}
use Rattle.elaborate.specs.declared.answer.Reason.TheVariants.{Leaf}
use Rattle.elaborate.specs.declared.answer.Rule.{Rule}
use Rattle.elaborate.specs.declared.answer.Rule.TheVariants.{Search, Sat}
use Rattle.elaborate.specs.declared.answer.StepAnswer.{StepAnswer}
use Rattle.elaborate.specs.declared.answer.StepAnswer.TheVariants as step
use Rattle.proof_log.proofs.OneTheory.{one_admitted}
use Rattle.input_proofs.specs.Functions.{functions_of, searched_vocabulary}
use Rattle.search_proofs.specs.Searched.{AddsSearched, IsSearchedFrom, searched_theory}
use Rattle.verifier.specs.Lines.{Derivation, candidates_of, sources_of}
use Rattle.verifier.specs.Run.{AnswersKind}
use Rattle.verifier.specs.code.Taking.{CanTake}
use Rattle.verifier.proofs.Slots.{stays_behind}
use Rattle.verifier.proofs.Symbols.{Gains, GainsByRule, ruled_gains}

-- ---- the two ways in which a line is accepted

-- a rule gives the line, and what it cites is said: the parents of a step, and of a leaf the candidate
abbrev pub IsRuled : Bool → Statements → List Form → Bool → List Parent → Form → Rule → List ℕ → Type 0
IsRuled false t given cited parents form rule cites = ByRule t parents form rule × (cites ≡ numbers_of parents)
IsRuled true t given cited parents form rule cites =
    (i : ℕ) × (c : Parent) × (slice_get (candidates_of given cited parents) i ≡ Some c) × LeafRule t (candidates_of given cited parents) form rule i × (cites ≡ c.number ∷ [])

-- no rule gives the line
abbrev pub IsUnruled : Bool → Statements → List Form → Bool → List Parent → Form → Type 0
IsUnruled false t given cited parents form = ByNone t parents form
IsUnruled true t given cited parents form = ByNoLeafRule t (candidates_of given cited parents) form

-- By a rule, with entries that derive the line.
pub record ByARule (is_leaf : Bool) (t : Statements) (given : List Form) (cited : Bool) (parents : List Parent) (form : Form) (rule : Rule) (cites : List ℕ) (entries : List Entry) : Type 0 where
  pub ruled : IsRuled is_leaf t given cited parents form rule cites
  pub derived : IsDerivedFrom t cites entries form

-- Where no rule gives the line: with entries that derive it, part by part, by new functions or by a decision, or with
-- those of a search.
pub record ByASearch (is_leaf : Bool) (t : Statements) (given : List Form) (cited : Bool) (parents : List Parent) (form : Form) (rule : Rule) (cites : List ℕ) (entries : List Entry) : Type 0 where
  pub unruled : IsUnruled is_leaf t given cited parents form
  pub may : (is_leaf ≡ false) ⊎ (cited ≡ true)
  pub rule_is : (rule ≡ Search) ⊎ (rule ≡ Sat)
  pub cites_are : cites ≡ numbers_of (sources_of is_leaf given cited parents)
  pub found : IsDerivedFrom t (numbers_of (sources_of is_leaf given cited parents)) entries form ⊎ IsSearchedFrom t (sources_of is_leaf given cited parents) entries form

found_ways : (t : Statements) (sources : List Parent) (form : Form) (limit : ℕ) (entries : List Entry) → IsFoundFrom t sources form limit entries → IsDerivedFrom t (numbers_of sources) entries form ⊎ IsSearchedFrom t sources entries form
found_ways t sources form limit entries (inl by_parts) = inl by_parts.1
found_ways t sources form limit entries (inr (inl by_functions)) = inl by_functions.derives
found_ways t sources form limit entries (inr (inr searched)) = inr searched.1

given_ways : (t : Statements) (sources : List Parent) (form : Form) (limit : ℕ) (rule : Rule) (entries : List Entry) → ((rule ≡ Search) × IsFoundFrom t sources form limit entries) ⊎ ((rule ≡ Sat) × IsDecidedFrom t sources form limit entries)
    → ((rule ≡ Search) ⊎ (rule ≡ Sat)) × (IsDerivedFrom t (numbers_of sources) entries form ⊎ IsSearchedFrom t sources entries form)
given_ways t sources form limit rule entries (inl (is, found)) = (inl is, found_ways t sources form limit entries found)
given_ways t sources form limit rule entries (inr (is, decided)) = (inr is, inl decided.entailed.derived)

pub kind_ways : (is_leaf : Bool) (t : Statements) (d : Derivation) (cited : Bool) (parents : List Parent) (form : Form) (rule : Rule) (cites : List ℕ) (entries : List Entry) → AnswersKind is_leaf t d cited parents form (step.Accepted rule cites entries)
    → ByARule is_leaf t d.given cited parents form rule cites entries ⊎ ByASearch is_leaf t d.given cited parents form rule cites entries
kind_ways true t d cited parents form rule cites entries (inl (i, c, there, by, is, derived)) = inl (record { ruled = (i, c, there, by, is); derived = derived })
kind_ways true t d cited parents form rule cites entries (inr (none, is_cited, (cites_are, given))) =
    let ways = given_ways t (candidates_of d.given cited parents) form d.limit rule entries given in
    inr (record { unruled = none; may = inr is_cited; rule_is = ways.0; cites_are = cites_are; found = ways.1 })
kind_ways false t d cited parents form rule cites entries (inl (by, is, derived)) = inl (record { ruled = (by, is); derived = derived })
kind_ways false t d cited parents form rule cites entries (inr (none, (cites_are, given))) =
    let ways = given_ways t parents form d.limit rule entries given in
    inr (record { unruled = none; may = inl refl; rule_is = ways.0; cites_are = cites_are; found = ways.1 })

-- no rule gives a line that is not verified
pub kind_unruled : (is_leaf : Bool) (t : Statements) (d : Derivation) (cited : Bool) (parents : List Parent) (form : Form) (reason : Reason) → AnswersKind is_leaf t d cited parents form (step.Unverified reason) → IsUnruled is_leaf t d.given cited parents form
kind_unruled true t d cited parents form reason answers = answers.0
kind_unruled false t d cited parents form reason answers = answers.0

-- why a line is not verified: it is a leaf that names nothing, or a search leaves it open
pub kind_reason : (is_leaf : Bool) (t : Statements) (d : Derivation) (cited : Bool) (parents : List Parent) (form : Form) (reason : Reason) → AnswersKind is_leaf t d cited parents form (step.Unverified reason)
    → ((reason ≡ Leaf) × (is_leaf ≡ true) × (cited ≡ false)) ⊎ (((is_leaf ≡ false) ⊎ (cited ≡ true)) × IsSearchAnswer t (sources_of is_leaf d.given cited parents) form d.limit (step.Unverified reason))
kind_reason true t d cited parents form reason (none, inl (free, is)) = inl (is, refl, free)
kind_reason true t d cited parents form reason (none, inr (is_cited, open_)) = inr (inr is_cited, open_)
kind_reason false t d cited parents form reason (none, open_) = inr (inl refl, open_)

-- ---- the theory behind an accepted line

-- by a rule
pub ruled_theory : (t u : Statements) (cites : List ℕ) (entries : List Entry) (form : Form) → IsDerivedFrom t cites entries form → Admits t entries u → GainsByRule t u form
ruled_theory t u cites entries form derived admits =
    let adds = derived_adds t cites entries form derived in
    record { before = derived.before; made = one_admitted t entries u (with_formulas t (derived.before ++ form ∷ [])) admits adds.legal; speak = adds.speak }

-- by a search: what its entries add to the theory itself
pub searched_adds : (t : Statements) (sources : List Parent) (entries : List Entry) (form : Form) → (s : IsSearchedFrom t sources entries form) → AddsSearched t sources entries s.before form
searched_adds t sources entries form searched = searched.adds t (has_its_own t (numbers_of sources))

functions_grow : (v : Vocabulary) (sources : List Parent) (form : Form) → Grows v (searched_vocabulary v sources form)
functions_grow v sources form = record { more_sorts = omega arith; same_symbols = λ k s at. stays_behind v.symbols (functions_of v sources form) k s at }

pub searched_gains : (t u : Statements) (sources : List Parent) (entries : List Entry) (form : Form) → IsSearchedFrom t sources entries form → Admits t entries u → Gains t u form
searched_gains t u sources entries form searched admits =
    let adds = searched_adds t sources entries form searched in
    let same : u ≡ searched_theory t sources form (searched.before ++ form ∷ []) = one_admitted t entries u (searched_theory t sources form (searched.before ++ form ∷ [])) admits adds.legal in
    let vocabulary : u.vocabulary ≡ searched_vocabulary t.vocabulary sources form = ap (λ (x : Statements). x.vocabulary) same in
    record {
      before = searched.before;
      formulas = ap (λ (x : Statements). x.formulas) same;
      grows = subst (Grows t.vocabulary) (sym vocabulary) (functions_grow t.vocabulary sources form);
      longer = omega (arith, ap (λ (v : Vocabulary). length v.symbols) vocabulary, length-append t.vocabulary.symbols (functions_of t.vocabulary sources form));
      speak = adds.speak;
    }

pub accepted_theory : (is_leaf : Bool) (t u : Statements) (d : Derivation) (cited : Bool) (parents : List Parent) (form : Form) (rule : Rule) (cites : List ℕ) (entries : List Entry) → AnswersKind is_leaf t d cited parents form (step.Accepted rule cites entries) → Admits t entries u → Gains t u form
accepted_theory is_leaf t u d cited parents form rule cites entries answers admits = by (kind_ways is_leaf t d cited parents form rule cites entries answers)
  where
    found_gains : (sources : List Parent) → IsDerivedFrom t (numbers_of sources) entries form ⊎ IsSearchedFrom t sources entries form → Gains t u form
    found_gains sources (inl derived) = ruled_gains t u form (ruled_theory t u (numbers_of sources) entries form derived admits)
    found_gains sources (inr searched) = searched_gains t u sources entries form searched admits

    by : ByARule is_leaf t d.given cited parents form rule cites entries ⊎ ByASearch is_leaf t d.given cited parents form rule cites entries → Gains t u form
    by (inl ruled) = ruled_gains t u form (ruled_theory t u cites entries form ruled.derived admits)
    by (inr found) = found_gains (sources_of is_leaf d.given cited parents) found.found

-- a theory with formulas more is not empty
pub some_formula : (t u : Statements) (form : Form) → Gains t u form → 0 < length u.formulas
some_formula t u form gains = omega (arith, ap (λ (fs : List Form). length fs) gains.formulas, length-append t.formulas (gains.before ++ form ∷ []), length-append gains.before (form ∷ []))

-- so an answer can be taken
pub kind_taken : (is_leaf : Bool) (t : Statements) (d : Derivation) (cited : Bool) (parents : List Parent) (form : Form) (answer : StepAnswer) → AnswersKind is_leaf t d cited parents form answer → CanTake t answer
kind_taken is_leaf t d cited parents form (step.Unverified reason) answers = tt
kind_taken is_leaf t d cited parents form (step.Accepted rule cites entries) answers = by (kind_ways is_leaf t d cited parents form rule cites entries answers)
  where
    taken : (u : Statements) → Admits t entries u → CanTake t (step.Accepted rule cites entries)
    taken u admits = (u, admits, some_formula t u form (accepted_theory is_leaf t u d cited parents form rule cites entries answers admits))

    derived_taken : (cited : List ℕ) → IsDerivedFrom t cited entries form → CanTake t (step.Accepted rule cites entries)
    derived_taken cited derived = taken (with_formulas t (derived.before ++ form ∷ [])) (derived_adds t cited entries form derived).legal

    found_taken : (sources : List Parent) → IsDerivedFrom t (numbers_of sources) entries form ⊎ IsSearchedFrom t sources entries form → CanTake t (step.Accepted rule cites entries)
    found_taken sources (inl derived) = derived_taken (numbers_of sources) derived
    found_taken sources (inr searched) = taken (searched_theory t sources form (searched.before ++ form ∷ [])) (searched_adds t sources entries form searched).legal

    by : ByARule is_leaf t d.given cited parents form rule cites entries ⊎ ByASearch is_leaf t d.given cited parents form rule cites entries → CanTake t (step.Accepted rule cites entries)
    by (inl ruled) = derived_taken cites ruled.derived
    by (inr found) = found_taken (sources_of is_leaf d.given cited parents) found.found

-- ---- what stands in a theory stays

pub gained_stays : (t u : Statements) (line : Form) (i : ℕ) (a : Form) → Gains t u line → slice_get t.formulas i ≡ Some a → slice_get u.formulas i ≡ Some a
gained_stays t u line i a gains at = ap (λ (fs : List Form). slice_get fs i) gains.formulas ∙ stays_behind t.formulas (gains.before ++ line ∷ []) i a at

-- where formulas are added
with_stays : (t u : Statements) (more : List Form) (i : ℕ) (a : Form) → u ≡ with_formulas t more → slice_get t.formulas i ≡ Some a → slice_get u.formulas i ≡ Some a
with_stays t u more i a is at = ap (λ (x : Statements). slice_get x.formulas i) is ∙ stays_behind t.formulas more i a at

pub after_stays : (t u : Statements) (e : Entry) (i : ℕ) (a : Form) → After t e u → slice_get t.formulas i ≡ Some a → slice_get u.formulas i ≡ Some a
after_stays t u (Declare (decl.Sort name)) i a after at = ap (λ (x : Statements). slice_get x.formulas i) after ∙ at
after_stays t u (Declare (decl.Symbol symbol)) i a after at = ap (λ (x : Statements). slice_get x.formulas i) after ∙ at
after_stays t u (Lemma p) i a after at = with_stays t u (after.0 ∷ []) i a after.2 at
after_stays t u (Name k b) i a after at = with_stays t u (naming k after.0 b ∷ []) i a after.2 at
after_stays t u (Choice k b) i a after at = with_stays t u (choice k after.0 b ∷ []) i a after.2 at

pub formula_stays : (t : Statements) (es : List Entry) (u : Statements) (i : ℕ) (a : Form) → Admits t es u → slice_get t.formulas i ≡ Some a → slice_get u.formulas i ≡ Some a
formula_stays t [] u i a admits at = ap (λ (x : Statements). slice_get x.formulas i) admits ∙ at
formula_stays t (e ∷ es) u i a admits at = formula_stays admits.1.0 es u i a admits.1.2 (after_stays t admits.1.0 e i a admits.1.1 at)
