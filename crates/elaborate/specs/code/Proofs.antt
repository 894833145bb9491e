-- What the proof of a line by the first of several rules says, and its entries by others.
use Rattle.std.specs.Prelude.{ℕ, ◌≡◌, ◌<◌, ◌⊎◌, Bool, true, false, List, [], ◌∷◌, Option, Some, None, slice_get}
use Rattle.fof_terms.specs.declared.form.Form.{Form}
use Rattle.fof_terms.specs.Vocabulary.{Vocabulary}
use Rattle.clause_form.specs.declared.path.Parent.{Parent}
use Rattle.clause_rules.specs.Answers.{cover, Holds as Gives}
use Rattle.clause_rules.specs.declared.just.Just.{Just}
use Rattle.clause_rules.specs.declared.just.Just.TheVariants as variant
use Rattle.kernel.specs.Statements.{Statements}
use Rattle.kernel.specs.declared.entry.Entry.{Entry}
use Rattle.kernel.specs.declared.proof.Proof.{Proof}
use Rattle.clause_proofs.specs.Shown.{ShowsLine}
use Rattle.clausified_steps.specs.Clausified.{IsClausifiedBy}
use Rattle.norm_parts.specs.ByParts.{ByParts}
use Rattle.sat_entries.specs.Decided.{IsEntailed}
use Rattle.elaborate.specs.Answers.{IsNotEntailed, IsSearchAnswer}
use Rattle.elaborate.specs.ByRule.{IsFirst, IsNone, symbol_rules}
use Rattle.elaborate.specs.declared.answer.Reason.{Reason}
use Rattle.elaborate.specs.declared.answer.Reason.TheVariants.{Leaf}
use Rattle.elaborate.specs.declared.answer.Rule.{Rule}
use Rattle.elaborate.specs.declared.answer.Rule.TheVariants.{Norm, Cover, Tautology, Resolution, Paramodulation}
use Rattle.elaborate.specs.declared.answer.Rule.TheVariants.{EqFactor, Rewrite, Sat}
use Rattle.elaborate.specs.declared.answer.StepAnswer.{StepAnswer}
use Rattle.elaborate.specs.declared.answer.StepAnswer.TheVariants.{Accepted, Unverified}
use Rattle.elaborate.specs.declared.leaves.FromOne.{FromOne}
use Rattle.elaborate.specs.declared.steps.Derived.{Derived}
use Rattle.derive_kit.specs.Derived.{IsDerivedFrom, numbers_of}

-- the rule of a justification
abbrev pub rule_named : Just → Rule
rule_named (variant.Norm a) = Norm
rule_named (variant.Cover a path images) = Cover
rule_named variant.Tautology = Tautology
rule_named (variant.Resolution a b i j images) = Resolution
rule_named (variant.Paramodulation a b i place j flipped images) = Paramodulation
rule_named (variant.EqFactor a i first_flipped j second_flipped images) = EqFactor
rule_named (variant.Rewrite a b target flipped by_images images) = Rewrite

-- the first of the rules by names and new symbols that gives the line, with entries that derive it, or that there is
-- none
abbrev pub IsDerived : Statements → List Parent → Form → Option Derived → Type 0
IsDerived t parents line None = IsNone symbol_rules t parents line
IsDerived t parents line (Some derived) =
    IsFirst symbol_rules t parents line derived.rule × IsDerivedFrom t (numbers_of parents) derived.entries line

-- `cover` gives the line, and the proof shows it, or it does not give the line
abbrev pub IsByCover : Vocabulary → List Parent → Form → Option Proof → Type 0
IsByCover w parents line None = Gives w parents line cover → ⊥
IsByCover w parents line (Some p) = Gives w parents line cover × ShowsLine w parents line p

-- `cover` gives the line from the candidate at this place alone
abbrev pub CoversAlone : Vocabulary → List Parent → Form → ℕ → Type 0
CoversAlone w candidates line i = (c : Parent) × (slice_get candidates i ≡ Some c) × Gives w (c ∷ []) line cover

-- and from no candidate before it
abbrev pub CoversFirst : Vocabulary → List Parent → Form → ℕ → Type 0
CoversFirst w candidates line i =
    CoversAlone w candidates line i × ((j : ℕ) → j < i → CoversAlone w candidates line j → ⊥)

-- it does from no candidate alone
abbrev pub CoversNowhere : Vocabulary → List Parent → Form → Type 0
CoversNowhere w candidates line = (j : ℕ) → CoversAlone w candidates line j → ⊥

-- `cover` gives the line from the candidate at this place alone, and the part shows it from that, or it does not
abbrev pub IsCoverAlone : Vocabulary → List Parent → Form → ℕ → Option Proof → Type 0
IsCoverAlone w candidates line i None = CoversAlone w candidates line i → ⊥
IsCoverAlone w candidates line i (Some p) =
    (c : Parent) × (slice_get candidates i ≡ Some c) × Gives w (c ∷ []) line cover × ShowsLine w (c ∷ []) line p

-- `cover` gives the line from the candidate of this number alone and from none before it, and the part shows it from
-- that
pub record IsFromFirst (w : Vocabulary) (candidates : List Parent) (line : Form) (from : FromOne) : Type 0 where
  pub place : ℕ
  pub candidate : Parent
  pub there : slice_get candidates place ≡ Some candidate
  pub number : from.number ≡ candidate.number
  pub first : CoversFirst w candidates line place
  pub shows : ShowsLine w (candidate ∷ []) line from.proof

-- the first candidate from which alone `cover` gives the line, or that there is none
abbrev pub IsFirstCover : Vocabulary → List Parent → Form → Option FromOne → Type 0
IsFirstCover w candidates line None = CoversNowhere w candidates line
IsFirstCover w candidates line (Some from) = IsFromFirst w candidates line from

-- the rule holds, and the entries derive the line from what is cited; or the rule does not hold
abbrev pub IsByEntries : Statements → List ℕ → Form → Type 0 → Option (List Entry) → Type 0
IsByEntries t cites line holds None = holds → ⊥
IsByEntries t cites line holds (Some entries) = holds × IsDerivedFrom t cites entries line

-- entries that derive the line part by part or with new functions, or it does not follow part by part
abbrev pub IsFoundAtOnce : Statements → List Parent → Form → Option (List Entry) → Type 0
IsFoundAtOnce t parents line None = ByParts t.vocabulary parents line → ⊥
IsFoundAtOnce t parents line (Some entries) =
    (ByParts t.vocabulary parents line × IsDerivedFrom t (numbers_of parents) entries line)
    ⊎ IsClausifiedBy t parents line entries

-- what is answered of a line that a search leaves open for this reason: it is decided, or stays open
abbrev pub IsOpenAnswer : Statements → List Parent → Form → Reason → StepAnswer → Type 0
IsOpenAnswer t parents line reason (Accepted rule cites entries) =
    (rule ≡ Sat) × (cites ≡ numbers_of parents) × IsEntailed t parents line entries
IsOpenAnswer t parents line reason (Unverified r) = (r ≡ reason) × IsNotEntailed parents line

-- what is answered to a leaf that no rule gives
abbrev pub IsLeftLeaf : Statements → List Parent → Bool → Form → ℕ → StepAnswer → Type 0
IsLeftLeaf t candidates cited line limit answer =
    ((cited ≡ true) × IsSearchAnswer t candidates line limit answer) ⊎ ((cited ≡ false) × (answer ≡ Unverified Leaf))
