-- What is decided of each part, and so of the line.
use Rattle.std.specs.Prelude.{ℕ, ◌≡◌, ◌+◌, ◌<◌, ◌≤◌, ◌↔◌, Bool, true, false, IsTrue, List, [], ◌∷◌, ◌++◌, length, take, get_or, Option, Some, None, slice_get, refl}
use Rattle.std.specs.List.{AllByRecursion}
use Rattle.std.proofs.Common.{ap, sym, subst, ◌∙◌, arith, inl, inr}
use Rattle.std.proofs.lemmas.List.{take_all, take_more}
use Rattle.std.proofs.lemmas.List.Elements.{All-from_recursion, recursion_from_All}
use Rattle.fof_terms.specs.Vocabulary.{Vocabulary}
use Rattle.fof_terms.specs.declared.form.Form.{Form}
use Rattle.fof_terms.proofs.Scoped.{member_of}
use Rattle.clause_form.specs.declared.clause.Clause.{Clause}
use Rattle.clause_form.specs.declared.path.Parent.{Parent}
use Rattle.clause_form.specs.declared.path.Path.{Path}
use Rattle.clause_form.specs.ClauseView.{clause_of}
use Rattle.clause_form.specs.Covers.{IsTrivial}
use Rattle.clause_form.specs.Norm.{norm_of, HasNorm}
use Rattle.clause_form.specs.Sizes.{norm_size_of}
use Rattle.clause_rules.specs.declared.just.Just.{Just}
use Rattle.clause_rules.specs.declared.just.Just.TheVariants.{Cover, Tautology}
use Rattle.clause_rules.specs.Answers.{Holds, IsAnswer, cover}
use Rattle.clause_rules.specs.CoverRule.{IsCoverStep}
use Rattle.clause_rules.specs.Justified.{Shows}
use Rattle.clause_rules.proofs.Firsts.{there_at, one_at, untrue}
use Rattle.clause_rules.proofs.ListPlaces.{nothing_there}
use Rattle.clause_rules.proofs.Shown.{holds_when_shown}
use Rattle.norm_parts.specs.declared.candidates.Candidate.{Candidate}
use Rattle.norm_parts.specs.declared.candidates.Chosen.{Chosen}
use Rattle.norm_parts.specs.ByParts.{IsGivenPart, ByParts, IsShownPart, AreShownParts, IsByParts}
use Rattle.norm_parts.specs.Parts.{parts_of}
use Rattle.norm_parts.specs.declared.deciding.Found.{Found}
use Rattle.norm_parts.specs.code.Candidates.{CoversClause, IsChosen}
use Rattle.norm_parts.specs.code.Found.{IsCovered, IsFound}
use Rattle.norm_parts.specs.code.Known.{IsKnown, AreKnown, AreDecided}

module _ (v : Vocabulary) (parents : List Parent) where
  -- One part.
  module _ (part : Form) where
    pub no_clause : clause_of part ≡ None → IsGivenPart v parents part → ⊥
    no_clause none given =
        elim given [
          | inl t ↦ nothing_there (clause_of part) t.0 none t.1
          | inr c ↦ nothing_there (clause_of part) c.3 none c.6.line_clause
        ]

    pub shown_trivial : (clause : Clause) (just : Just) → clause_of part ≡ Some clause → IsTrivial clause.lits → just ≡ Tautology → IsShownPart v parents part just
    shown_trivial clause just is trivial e = subst (IsShownPart v parents part) (sym e) ((clause, is, trivial), inl refl)

    pub covered_so : (found : Option Just) (just : Just) → found ≡ Some just → IsAnswer v parents part cover found → IsShownPart v parents part just
    covered_so None just e answer = cc
    covered_so (Some other) just e answer = let same : other ≡ just = cc in subst (IsShownPart v parents part) same (answer.1, inr answer.0)

    pub not_covered : (found : Option Just) → found ≡ None → IsAnswer v parents part cover found → IsCoverStep v parents part → ⊥
    not_covered None e none = none
    not_covered (Some just) e answer = cc

    -- a clause that is not true by its form is given exactly where the rule `cover` gives it
    pub found_so : (clause : Clause) (trivial : Bool) → clause_of part ≡ Some clause → trivial ≡ false → (IsTrue trivial ↔ IsTrivial clause.lits) → (found : Option Found) → IsCovered v parents part found → IsFound v parents part found
    found_so clause trivial is untruth means None none = λ given.
        elim given [
          | inl t ↦ let same : clause ≡ t.0 = let both = sym is ∙ t.1 in cc in untrue trivial (IsTrivial clause.lits) untruth means (subst (λ (c : Clause). IsTrivial c.lits) (sym same) t.2)
          | inr c ↦ none c
        ]
    found_so clause trivial is untruth means (Some found) some = some

    pub shown_known : (known : List Candidate) (clause : Clause) (chosen : Chosen) (c : Candidate) (path : Path) (just : Just) → AreKnown v parents known → clause_of part ≡ Some clause → IsChosen v known clause chosen → chosen.at < length known
        → c ≡ get_or known chosen.at c → path ≡ c.path → just ≡ Cover c.source path chosen.subst → IsShownPart v parents part just
    shown_known known clause chosen c path just all is covers lt at copied e =
        let there = there_at known chosen.at c lt at in
        let same : covers.0 ≡ c = one_at known chosen.at covers.0 c covers.1 there in
        let k : IsKnown v parents c = all c chosen.at there in
        let by = subst (λ (x : Candidate). CoversClause v x.clause clause chosen.subst) same covers.2 in
        let shows : Shows v parents part (Cover c.source c.path chosen.subst) = (
          c.clause,
          clause,
          by.0,
          record {
            reaches = record { parent = k.parent; there = k.there; small = k.small; clause = k.reached.reaches };
            line_clause = is;
            covers = by.1;
          },
        ) in
        let just_is : just ≡ Cover c.source c.path chosen.subst = e ∙ ap (λ (p : Path). Cover c.source p chosen.subst) copied in
        subst (IsShownPart v parents part) (sym just_is) (shows, inr refl)

    given_of_shown : (just : Just) → IsShownPart v parents part just → IsGivenPart v parents part
    given_of_shown just h =
        elim h.1 [
          | inl e ↦ inl (subst (Holds v parents part) e (holds_when_shown v parents part just h.0))
          | inr e ↦ inr (subst (Holds v parents part) e (holds_when_shown v parents part just h.0))
        ]

  -- Several parts.
  all_given : (parts : List Form) (justs : List Just) → AreShownParts v parents parts justs → AllByRecursion (IsGivenPart v parents) parts
  all_given [] justs h = tt
  all_given (part ∷ parts) [] h = absurd h
  all_given (part ∷ parts) (just ∷ justs) h = (given_of_shown part just h.0, all_given parts justs h.1)

  one_more : (parts : List Form) (justs : List Just) (part : Form) (just : Just) → AreShownParts v parents parts justs → IsShownPart v parents part just → AreShownParts v parents (parts ++ part ∷ []) (justs ++ just ∷ [])
  one_more [] [] part just h one = (one, tt)
  one_more [] (j ∷ justs) part just h one = absurd h
  one_more (p ∷ parts) [] part just h one = absurd h
  one_more (p ∷ parts) (j ∷ justs) part just h one = (h.0, one_more parts justs part just h.1 one)

  pub shown_next : (members : List Form) (i : ℕ) (part : Form) (justs more : List Just) (just : Just) → i < length members → part ≡ get_or members i part → AreShownParts v parents (take i members) justs → IsShownPart v parents part just → more ≡ justs ++ just ∷ []
      → AreShownParts v parents (take (i + 1) members) more
  shown_next members i part justs more just lt is h one e =
      let longer : take (i + 1) members ≡ take i members ++ part ∷ [] = take_more members i part lt ∙ ap (λ (x : Form). take i members ++ x ∷ []) (sym is) in
      subst (λ (ps : List Form). AreShownParts v parents ps more) (sym longer) (subst (AreShownParts v parents (take i members ++ part ∷ [])) (sym e) (one_more (take i members) justs part just h one))

  pub shown_last : (members : List Form) (i : ℕ) (justs : List Just) → length members ≤ i → AreShownParts v parents (take i members) justs → AreShownParts v parents members justs
  shown_last members i justs le h = subst (λ (ps : List Form). AreShownParts v parents ps justs) (take_all i members le) h

  pub not_decided : (members : List Form) (i : ℕ) (part : Form) (found : Option Found) → i < length members → part ≡ get_or members i part → found ≡ None → IsFound v parents part found → AreDecided v parents members None
  not_decided members i part None lt is e none = λ all. none (all i part (there_at members i part lt is))
  not_decided members i part (Some found) lt is e some = cc

  pub found_at : (part : Form) (found : Option Found) (one : Found) → found ≡ Some one → IsFound v parents part found → IsShownPart v parents part one.just
  found_at part None one e none = cc
  found_at part (Some other) one e some = let same : other ≡ one = cc in subst (λ (x : Found). IsShownPart v parents part x.just) same some

  -- The line.
  pub decided_by_parts : (line norm : Form) (members lent : List Form) → HasNorm line norm → members ≡ parts_of norm → lent ≡ members → (found : Option (List Just)) → AreDecided v parents lent found → IsByParts v parents line found
  decided_by_parts line norm members lent has are same None none = λ by.
      let parts : lent ≡ parts_of (norm_of true line) = same ∙ are ∙ ap parts_of (sym has.same) in
      none (λ k part at. member_of (IsGivenPart v parents) (parts_of (norm_of true line)) k part (recursion_from_All (IsGivenPart v parents) (parts_of (norm_of true line)) by.parts) (ap (λ (xs : List Form). slice_get xs k) (sym parts) ∙ at))
  decided_by_parts line norm members lent has are same (Some justs) shown =
      let parts : lent ≡ parts_of (norm_of true line) = same ∙ are ∙ ap parts_of (sym has.same) in
      let moved : AreShownParts v parents (parts_of (norm_of true line)) justs = subst (λ (ps : List Form). AreShownParts v parents ps justs) parts shown in
      (record { small = has.small; parts = All-from_recursion (IsGivenPart v parents) (parts_of (norm_of true line)) (all_given (parts_of (norm_of true line)) justs moved) }, moved)

  pub too_wide : (line : Form) → 100000 < norm_size_of line → ByParts v parents line → ⊥
  too_wide line wide by = omega (arith, by.small)

  pub shown_lent : (line : Form) (found : Option (List Just)) (justs lent : List Just) → found ≡ Some justs → lent ≡ justs → IsByParts v parents line found → IsByParts v parents line (Some lent)
  shown_lent line found justs lent e same h = subst (λ (js : List Just). IsByParts v parents line (Some js)) (sym same) (subst (IsByParts v parents line) e h)

  pub not_by_parts : (line : Form) (found : Option (List Just)) → found ≡ None → IsByParts v parents line found → ByParts v parents line → ⊥
  not_by_parts line found e h = subst (IsByParts v parents line) e h
