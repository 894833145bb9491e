-- The rules of steps and of leaves: which of them is the first that gives a line.
use Rattle.std.specs.Prelude.{ℕ, ◌≡◌, ◌<◌, ◌⊎◌, List, [], ◌∷◌, ◌++◌, Some, slice_get}
use Rattle.fof_terms.specs.declared.form.Form.{Form}
use Rattle.kernel.specs.Statements.{Statements}
use Rattle.clause_form.specs.declared.path.Parent.{Parent}
use Rattle.clause_rules.specs.Answers.{norm, cover, tautology, resolution, paramodulation, eqfactor, rewrite}
use Rattle.clause_rules.specs.Answers.{Holds as Gives}
use Rattle.skolem_fresh.specs.ChoiceRule.{IsChoiceStep}
use Rattle.skolem_fresh.specs.SkolemRule.{IsSkolemStep}
use Rattle.split_defs.specs.DefinitionRule.{IsDefinitionStep}
use Rattle.split_defs.specs.SplitRule.{IsSplitStep}
use Rattle.clause_form.specs.Paths.{forms_of}
use Rattle.elaborate.specs.declared.answer.Rule.{Rule}
use Rattle.elaborate.specs.declared.answer.Rule.TheVariants.{Norm, Cover, Tautology, Resolution, Paramodulation}
use Rattle.elaborate.specs.declared.answer.Rule.TheVariants.{EqFactor, Rewrite, Split, Skolem, Definition, Choice}
use Rattle.elaborate.specs.declared.answer.Rule.TheVariants.{Search, Sat}

-- With the symbols of the theory, and its formulas as those in which a new symbol occurs nowhere, the rule gives the
-- line from some of the parents. A search and a decision are no rules of this kind.
abbrev pub Applies : Statements → List Parent → Form → Rule → Type 0
Applies t parents line Norm = Gives t.vocabulary parents line norm
Applies t parents line Cover = Gives t.vocabulary parents line cover
Applies t parents line Tautology = Gives t.vocabulary parents line tautology
Applies t parents line Resolution = Gives t.vocabulary parents line resolution
Applies t parents line Paramodulation = Gives t.vocabulary parents line paramodulation
Applies t parents line EqFactor = Gives t.vocabulary parents line eqfactor
Applies t parents line Rewrite = Gives t.vocabulary parents line rewrite
Applies t parents line Split = IsSplitStep t.vocabulary (forms_of parents) line
Applies t parents line Skolem = IsSkolemStep t (forms_of parents) line
Applies t parents line Definition = IsDefinitionStep t line
Applies t parents line Choice = IsChoiceStep t line
Applies t parents line Search = ⊥
Applies t parents line Sat = ⊥

-- the rules that are recognised by shape, in the order in which they are tried
abbrev pub shape_rules : List Rule
shape_rules = Norm ∷ Cover ∷ Tautology ∷ Resolution ∷ Paramodulation ∷ EqFactor ∷ Rewrite ∷ []

-- the rules by which names stand for parts of a line, or new symbols come in, in the order in which they are tried
abbrev pub symbol_rules : List Rule
symbol_rules = Split ∷ Skolem ∷ Definition ∷ Choice ∷ []

-- the rules of steps, in the order in which they are tried
abbrev pub rules : List Rule
rules = shape_rules ++ symbol_rules

-- the rule is the first of the list that gives the line
abbrev pub IsFirst : List Rule → Statements → List Parent → Form → Rule → Type 0
IsFirst [] t parents line rule = ⊥
IsFirst (r ∷ rs) t parents line rule =
    ((rule ≡ r) × Applies t parents line r) ⊎ ((Applies t parents line r → ⊥) × IsFirst rs t parents line rule)

-- no rule of the list gives the line
abbrev pub IsNone : List Rule → Statements → List Parent → Form → Type 0
IsNone [] t parents line = Unit {0}
IsNone (r ∷ rs) t parents line = (Applies t parents line r → ⊥) × IsNone rs t parents line

-- the rule is the first that gives the line from its parents
abbrev pub ByRule : Statements → List Parent → Form → Rule → Type 0
ByRule = IsFirst rules

-- no rule gives the line from its parents
abbrev pub ByNone : Statements → List Parent → Form → Type 0
ByNone = IsNone rules

-- the rules of leaves, in the order in which they are tried
abbrev pub leaf_rules : List Rule
leaf_rules = Norm ∷ Cover ∷ []

-- the rule gives the line from the candidate of that number alone
abbrev pub GivesAlone : Statements → List Parent → Form → Rule → ℕ → Type 0
GivesAlone t candidates line rule i = (c : Parent) × (slice_get candidates i ≡ Some c) × Applies t (c ∷ []) line rule

-- and from no candidate before it
abbrev pub GivesFirst : Statements → List Parent → Form → Rule → ℕ → Type 0
GivesFirst t candidates line rule i =
    GivesAlone t candidates line rule i × ((j : ℕ) → j < i → GivesAlone t candidates line rule j → ⊥)

-- the rule gives the line from no candidate alone
abbrev pub GivesNowhere : Statements → List Parent → Form → Rule → Type 0
GivesNowhere t candidates line rule = (j : ℕ) → GivesAlone t candidates line rule j → ⊥

-- the rule is the first of the list that gives the line from some candidate alone, and this is the first such candidate
abbrev pub IsFirstAlone : List Rule → Statements → List Parent → Form → Rule → ℕ → Type 0
IsFirstAlone [] t candidates line rule i = ⊥
IsFirstAlone (r ∷ rs) t candidates line rule i =
    ((rule ≡ r) × GivesFirst t candidates line r i)
    ⊎ (GivesNowhere t candidates line r × IsFirstAlone rs t candidates line rule i)

-- no rule of the list gives the line from a candidate alone
abbrev pub IsNoneAlone : List Rule → Statements → List Parent → Form → Type 0
IsNoneAlone [] t candidates line = Unit {0}
IsNoneAlone (r ∷ rs) t candidates line = GivesNowhere t candidates line r × IsNoneAlone rs t candidates line

-- the rule is the first that gives the leaf, and this is the first candidate from which it does
abbrev pub LeafRule : Statements → List Parent → Form → Rule → ℕ → Type 0
LeafRule = IsFirstAlone leaf_rules

-- no rule gives the leaf
abbrev pub ByNoLeafRule : Statements → List Parent → Form → Type 0
ByNoLeafRule = IsNoneAlone leaf_rules
