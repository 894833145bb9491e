-- What the answers to a step and to a leaf say: the first rule that gives the line, or else that it follows part by
-- part, with new functions, by a search that refutes its clauses, or as a propositional step that is decided, and
-- entries that derive it from what it cites; or why there is none.
use Rattle.std.specs.Prelude.{ℕ, ◌≡◌, ◌⊎◌, Bool, true, false, List, [], ◌∷◌, Some, slice_get}
use Rattle.fof_terms.specs.declared.form.Form.{Form}
use Rattle.clause_form.specs.Paths.{forms_of}
use Rattle.clause_form.specs.declared.path.Parent.{Parent}
use Rattle.kernel.specs.Statements.{Statements}
use Rattle.kernel.specs.declared.entry.Entry.{Entry}
use Rattle.clausified_steps.specs.Clausified.{IsClausifiedBy}
use Rattle.norm_parts.specs.ByParts.{ByParts}
use Rattle.sat_entries.specs.Decided.{IsEntailed}
use Rattle.sat_step.specs.Propositional.{Entails, IsPropositionalStep}
use Rattle.elaborate.specs.declared.answer.Reason.{Reason}
use Rattle.elaborate.specs.declared.answer.Reason.TheVariants.{Dry, Full, Heavy, Wide, Leaf}
use Rattle.elaborate.specs.declared.answer.Rule.{Rule}
use Rattle.elaborate.specs.declared.answer.Rule.TheVariants.{Search, Sat}
use Rattle.elaborate.specs.declared.answer.StepAnswer.{StepAnswer}
use Rattle.elaborate.specs.declared.answer.StepAnswer.TheVariants.{Accepted, Unverified}
use Rattle.elaborate.specs.ByRule.{ByRule, ByNone, LeafRule, ByNoLeafRule}
use Rattle.derive_kit.specs.Derived.{IsDerivedFrom, numbers_of}
use Rattle.step_search.specs.Search.{IsSearched}
use Rattle.step_search.specs.declared.outcome.Searched.TheVariants as searched

-- The entries derive a line that no rule gives: it follows part by part from the parents, or with new functions in
-- place of a parent's existential variables, or a search under the limit refutes the clauses of a step that is not
-- wide.
abbrev pub IsFoundFrom : Statements → List Parent → Form → ℕ → List Entry → Type 0
IsFoundFrom t parents line limit entries =
    (ByParts t.vocabulary parents line × IsDerivedFrom t (numbers_of parents) entries line)
    ⊎ (IsClausifiedBy t parents line entries ⊎ IsSearched t parents line limit (searched.Refuted entries))

-- The line does not follow part by part, and a search under the limit makes the clauses of a step that is not wide and
-- ends without a refutation. The step is propositional, its parents entail the line, and the entries derive it from
-- them.
pub record IsDecidedFrom (t : Statements) (parents : List Parent) (line : Form) (limit : ℕ)
    (entries : List Entry) : Type 0 where
  pub no_parts : ByParts t.vocabulary parents line → ⊥
  pub unrefuted : IsSearched t parents line limit searched.Dry
      ⊎ (IsSearched t parents line limit searched.Full ⊎ IsSearched t parents line limit searched.Heavy)
  pub entailed : IsEntailed t parents line entries

-- the step is not both propositional and entailed
abbrev pub IsNotEntailed : List Parent → Form → Type 0
IsNotEntailed parents line = IsPropositionalStep (forms_of parents) line → Entails (forms_of parents) line → ⊥

-- why a search under the limit finds none, and no decision is made
abbrev pub IsLeftOpen : Statements → List Parent → Form → ℕ → Reason → Type 0
IsLeftOpen t parents line limit Dry = IsSearched t parents line limit searched.Dry × IsNotEntailed parents line
IsLeftOpen t parents line limit Full = IsSearched t parents line limit searched.Full × IsNotEntailed parents line
IsLeftOpen t parents line limit Heavy = IsSearched t parents line limit searched.Heavy × IsNotEntailed parents line
IsLeftOpen t parents line limit Wide = IsSearched t parents line limit searched.Wide
IsLeftOpen t parents line limit Leaf = ⊥

-- What is answered of a line that no rule gives: accepted as found or as decided, citing all that it may, or the reason
-- why not. It is left open only where it does not follow part by part. That functions may be found by which it follows,
-- no reason denies.
abbrev pub IsSearchAnswer : Statements → List Parent → Form → ℕ → StepAnswer → Type 0
IsSearchAnswer t parents line limit (Accepted rule cites entries) =
    (cites ≡ numbers_of parents)
    × (((rule ≡ Search) × IsFoundFrom t parents line limit entries)
    ⊎ ((rule ≡ Sat) × IsDecidedFrom t parents line limit entries))
IsSearchAnswer t parents line limit (Unverified reason) =
    (ByParts t.vocabulary parents line → ⊥) × IsLeftOpen t parents line limit reason

-- the rule is the first that gives the step, which cites all its parents
abbrev pub IsStepByRule : Statements → List Parent → Form → Rule → List ℕ → List Entry → Type 0
IsStepByRule t parents line rule cites entries =
    ByRule t parents line rule × (cites ≡ numbers_of parents) × IsDerivedFrom t cites entries line

-- a step: accepted by the first rule that gives the line or, where none does, as is answered then
abbrev pub IsStepAnswer : Statements → List Parent → Form → ℕ → StepAnswer → Type 0
IsStepAnswer t parents line limit (Accepted rule cites entries) =
    IsStepByRule t parents line rule cites entries
    ⊎ (ByNone t parents line × IsSearchAnswer t parents line limit (Accepted rule cites entries))
IsStepAnswer t parents line limit (Unverified reason) =
    ByNone t parents line × IsSearchAnswer t parents line limit (Unverified reason)

-- the rule is the first that gives the leaf, which cites the first candidate from which it does
abbrev pub IsLeafByRule : Statements → List Parent → Form → Rule → List ℕ → List Entry → Type 0
IsLeafByRule t candidates line rule cites entries =
    (i : ℕ) × (c : Parent) × (slice_get candidates i ≡ Some c) × LeafRule t candidates line rule i
    × (cites ≡ c.number ∷ []) × IsDerivedFrom t cites entries line

-- a leaf: accepted by the first rule that gives the line or, where none does and the line names given formulas, as is
-- answered then of a step from all its candidates
abbrev pub IsLeafAnswer : Statements → List Parent → Bool → Form → ℕ → StepAnswer → Type 0
IsLeafAnswer t candidates cited line limit (Accepted rule cites entries) =
    IsLeafByRule t candidates line rule cites entries
    ⊎ (ByNoLeafRule t candidates line × (cited ≡ true)
    × IsSearchAnswer t candidates line limit (Accepted rule cites entries))
IsLeafAnswer t candidates cited line limit (Unverified reason) =
    ByNoLeafRule t candidates line
    × (((cited ≡ false) × (reason ≡ Leaf))
    ⊎ ((cited ≡ true) × IsSearchAnswer t candidates line limit (Unverified reason)))
